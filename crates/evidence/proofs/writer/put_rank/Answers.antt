use Rattle.std.proofs.Common.{codes}
use Rattle.text.specs.Pieces.{line_end}
use Rattle.text.proofs.Writing.{Wrote-after, Wrote-as, Wrote-err, WroteFront-after, WroteFront-more}
use Rattle.measures.specs.MeasureText.{counts_text}
use Rattle.evidence.proofs.Written.{zero_text}
use Rattle.evidence.proofs.writer.put_rank.Goals as goal

pub returns-then-rank-eq0 : goal.returns-then-rank-eq0
returns-then-rank-eq0 g c = Wrote-as _ _ _ _ _ (zero_text c.args.rank.now c.if-rank-eq1.true c.if-rank-eq0.true) c.put.ensures.wrote

pub returns-in_err-put : goal.returns-in_err-put
returns-in_err-put g c = Wrote-err _ _ _ _ c.from_residual.ensures.0 (WroteFront-more _ _ (codes " ") _ c.in_err-put.ensures.wrote)

pub returns-in_err-put_counts : goal.returns-in_err-put_counts
returns-in_err-put_counts g c =
    Wrote-err _ _ _ _ c.from_residual-in_err-put_counts.ensures.0
    (WroteFront-after _ _ _ (codes " ") _ c.in_ok-put.ensures.wrote
    (WroteFront-more _ _ (counts_text c.args.rank.now) line_end c.in_err-put_counts.ensures.wrote))

pub returns : goal.returns
returns g c =
    Wrote-after _ _ _ (codes " ") _ _ c.in_ok-put.ensures.wrote
    (Wrote-after _ _ _ (counts_text c.args.rank.now) line_end _ c.in_ok-put_counts.ensures.wrote c.put-3.ensures.wrote)
