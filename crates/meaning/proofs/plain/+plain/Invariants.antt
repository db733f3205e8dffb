use Rattle.std.proofs.Common.{◌+◌, ◌*◌, max, IsTrue}
use Rattle.meaning.specs.declared.term.Term.{size-Term}
use Rattle.meaning.specs.Term.{formula_in}
use Rattle.calculus.specs.Meaning.{mean, MarksOf, iterate, with_set}
use Rattle.meaning.specs.Environment.{sets_of}
use Rattle.meaning.proofs.plain.+plain.Given as goal

-- the iterate of as many turns as were made
abbrev pub invariant-iterated-loop-turn : goal.invariant-iterated-loop-turn
invariant-iterated-loop-turn l =
    MarksOf l.lts.system.states l.set.items (iterate l.turn (λ set. mean l.lts.system (formula_in l.body) (with_set (sets_of l.environment) l.name.items set))
    (λ s. IsTrue l.from))

abbrev pub decreases-marks_of : goal.decreases-marks_of
decreases-marks_of l = 2 * size-Term l.term.now

abbrev pub decreases-iterated : goal.decreases-iterated
decreases-iterated l = 1 + 2 * size-Term l.body.now

abbrev pub decreases-marks_of_both : goal.decreases-marks_of_both
decreases-marks_of_both l = 1 + 2 * max (size-Term l.left.now) (size-Term l.right.now)
