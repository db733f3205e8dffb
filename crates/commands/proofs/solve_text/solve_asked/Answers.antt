use Rattle.std.proofs.Common.{◌∙◌, sym}
use Rattle.commands.proofs.Solving.{beside_report}
use Rattle.commands.proofs.solve_text.solve_asked.Goals as goal

pub returns-then-is_some-clause-solves : goal.returns-then-is_some-clause-solves
returns-then-is_some-clause-solves g c = λ text known.
    rw (sym c.is_some.ensures ∙ c.if-is_some.true) (c.prove_and_write.ensures.answers text (c.in_ok-game.ensures.reads text known))

pub returns-clause-solves : goal.returns-clause-solves
returns-clause-solves g c = λ text known.
    rw (sym c.is_some.ensures ∙ c.if-is_some.false)
    (beside_report _ text _ _ _ _ _ (c.solve_and_write.ensures.answers text (c.in_ok-game.ensures.reads text known)))
