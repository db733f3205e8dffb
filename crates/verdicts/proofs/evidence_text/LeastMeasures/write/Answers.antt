use Rattle.text.proofs.Writing.{Wrote-after, Wrote-as, Wrote-err, WroteFront-more}
use Rattle.verdicts.proofs.LeastTexts.{text_is}
use Rattle.verdicts.proofs.evidence_text.LeastMeasures.write.Goals as goal

pub returns-in_err-put_header : goal.returns-in_err-put_header
returns-in_err-put_header g c = λ game e least is.
    Wrote-as _ _ _ _ _ (text_is c.args.self.now game least e is)
    (Wrote-err _ _ _ _ c.from_residual.ensures.0 (WroteFront-more _ _ _ _ c.in_err-put_header.ensures))

pub returns : goal.returns
returns g c = λ game e least is.
    Wrote-as _ _ _ _ _ (text_is c.args.self.now game least e is) (Wrote-after _ _ _ _ _ _ c.in_ok-put_header.ensures c.put_lines.ensures.wrote)
