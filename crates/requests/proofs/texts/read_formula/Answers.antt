use Rattle.std.proofs.Common.{◌≡◌, ◌∙◌, take}
use Rattle.calculus.specs.Closed.{closed_formula}
use Rattle.requests.specs.Texts.{IsFormulaOf}
use Rattle.requests.proofs.Fronts.{spelled_of_front}
use Rattle.requests.proofs.Readings.{at_known}
use Rattle.requests.proofs.texts.read_formula.Goals as goal

pub returns-clause-spelled : goal.returns-clause-spelled
returns-clause-spelled g c =
    spelled_of_front (λ f text. IsFormulaOf text (closed_formula f)) (g.S.Source.remaining c.args.formula) c.in_ok-front.front.items c.deref.result.now
    c.parse_front.result c.in_ok-front.ensures.front c.deref.ensures.value c.parse_front.ensures.spelled

pub returns-clause-refusal : goal.returns-clause-refusal
returns-clause-refusal g c = λ text known. c.parse_front.ensures.refusal text
    (c.deref.ensures.value ∙ at_known (λ all. c.in_ok-front.front.items ≡ take 1048577 all) _ text known c.in_ok-front.ensures.front)
