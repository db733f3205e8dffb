use Rattle.std.proofs.Common.{◌≡◌, ℕ, ◌<◌, List, false, length, map}
use Rattle.std.specs.Prelude.{slice_get}
use Rattle.systems.specs.Numbered.{arrow_of}
use Rattle.calculus.specs.Normal.{normal_nodes}
use Rattle.calculus.specs.Taken.{AreSets}
use Rattle.evidence.specs.Witness.{is_taken_at}
use Rattle.witness.specs.Walk.{is_marked}
use Rattle.witness.proofs.part.is_kept.Given as goal

-- no node before takes it
abbrev pub invariant-loop-k : goal.invariant-loop-k
invariant-loop-k l =
    (labels : List (List ℕ)) → AreSets labels (normal_nodes l.normal) (map (λ set. set.items) l.sets) → l.transition.label < length labels
    → (j : ℕ) → j < l.k → is_taken_at (length (normal_nodes l.normal)) l.evidence.evidence (is_marked l.marks) (arrow_of labels l.transition) j
    (slice_get (normal_nodes l.normal) j) ≡ false
