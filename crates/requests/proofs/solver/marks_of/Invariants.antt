use Rattle.calculus.specs.Meaning.{MarksOf}
use Rattle.game.specs.Wins.{Wins}
use Rattle.requests.proofs.solver.marks_of.Given as goal

abbrev pub invariant-loop-v : goal.invariant-loop-v
invariant-loop-v l = MarksOf l.v l.marks.items (Wins l.game)
