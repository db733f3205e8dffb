-- From which vertices the play goes one way.
use Rattle.std.proofs.Common.{ℕ, ◌+◌, ◌<◌, ◌≤◌, length, inl, inr, sym, subst, arith}
use Rattle.std.proofs.lemmas.Bool.{cases_order}
use Rattle.std.proofs.lemmas.Option.{slice_get_within}
use Rattle.game.specs.Game.{Game}
use Rattle.evidence.specs.Evidence.{Evidence}
use Rattle.witness.specs.Witness.{GoesOneWay, GoesOneWayFrom}

pub one_way_more : (g : Game) (e : Evidence) (n : ℕ) → ((u : ℕ) → u < n → GoesOneWayFrom g e u) → GoesOneWayFrom g e n
    → (u : ℕ) → u < n + 1 → GoesOneWayFrom g e u
one_way_more g e n below here u h = elim (cases_order u n) [
  | inl q ↦ subst (GoesOneWayFrom g e) (sym q) here
  | inr w ↦ elim w [
    | inl lt ↦ below u lt
    | inr gt ↦ absurd (omega (arith, h, gt))
  ]
]

-- A vertex is below the number of vertices.
pub one_way_all : (g : Game) (e : Evidence) (n : ℕ) → length g.vertices ≤ n → ((u : ℕ) → u < n → GoesOneWayFrom g e u) → GoesOneWay g e
one_way_all g e n all each u s t a b =
    let h = slice_get_within g.vertices u a.1 a.3 in
    each u (omega (arith, h, all)) s t a b
