use Rattle.calculus.specs.Meaning.{MarksOf}
use Rattle.requests.specs.Roots.{WinsRoot}
use Rattle.verdicts.proofs.lifting.root_marks.Given as goal

abbrev pub invariant-loop-state : goal.invariant-loop-state
invariant-loop-state l = MarksOf l.state l.marks.items (WinsRoot l.game)
