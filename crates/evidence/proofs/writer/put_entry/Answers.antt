use Rattle.std.proofs.Common.{◌++◌, codes, decimal}
use Rattle.text.specs.Pieces.{line_end}
use Rattle.text.proofs.Writing.{Wrote-after, Wrote-err, WroteFront-after, WroteFront-more}
use Rattle.evidence.specs.Canon.{move_text}
use Rattle.measures.specs.MeasureText.{counts_text}
use Rattle.evidence.proofs.writer.put_entry.Goals as goal

pub returns-in_err-put_move : goal.returns-in_err-put_move
returns-in_err-put_move g c =
    Wrote-err _ _ _ _ c.from_residual-in_err-put_move.ensures.0
    (WroteFront-after _ _ _ (decimal c.args.v) _ c.in_ok-put_number.ensures.wrote
    (WroteFront-more _ _ (codes " " ++ move_text c.args.view.next) _ c.in_err-put_move.ensures))

pub returns : goal.returns
returns g c =
    Wrote-after _ _ _ (decimal c.args.v) _ _ c.in_ok-put_number.ensures.wrote
    (Wrote-after _ _ _ (codes " " ++ move_text c.args.view.next) (codes " " ++ (counts_text c.args.view.rank.now ++ line_end)) _ c.in_ok-put_move.ensures
    c.put_rank.ensures)
