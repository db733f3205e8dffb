use Rattle.std.proofs.Common.{◌≡◌, ◌∙◌, [], ◌∷◌, ap, arith, decimal, subst, sym}
use Rattle.std.proofs.lemmas.Fmt.{decimal_digit}
use Rattle.text.specs.Wrote.{Wrote}
use Rattle.measures.proofs.writer.put_next.Goals as goal

pub returns-then-count-eq0 : goal.returns-then-count-eq0
returns-then-count-eq0 g c =
    let zero : c.args.count ≡ 0 = omega (arith, c.if-count-eq0.true) in
    let digit : decimal c.args.count ≡ 48 ∷ [] = ap decimal zero ∙ decimal_digit 0 (omega arith) in
    let taken = g.W.Sink.taken in record {
      wrote = subst (λ digits. Wrote (taken c.args.writer.now) (taken c.put.new.writer) c.put.result (44 ∷ digits)) (sym digit) c.put.ensures.wrote;
    }
