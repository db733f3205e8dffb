use Rattle.calculus.specs.Meaning.{MarksOf}
use Rattle.evidence.specs.Evidence.{has}
use Rattle.std.specs.Prelude.{IsTrue}
use Rattle.evidence.proofs.decide.set_marks.Given as goal

abbrev pub invariant-loop-v : goal.invariant-loop-v
invariant-loop-v l = MarksOf l.v l.marks.items (λ u. IsTrue (has l.even.evidence u))
