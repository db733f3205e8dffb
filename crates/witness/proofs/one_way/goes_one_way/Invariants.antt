use Rattle.std.specs.Prelude.{ℕ, ◌<◌}
use Rattle.witness.specs.Witness.{GoesOneWayFrom}
use Rattle.witness.proofs.one_way.goes_one_way.Given as goal

abbrev pub invariant-loop-v : goal.invariant-loop-v
invariant-loop-v l = (u : ℕ) → u < l.v → GoesOneWayFrom l.game l.evidence.evidence u
