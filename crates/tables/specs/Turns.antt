-- What is done to a board in a turn at a vertex.
use Rattle.std.specs.Prelude.{◌≡◌, ◌↔◌, ◌<◌, ◌++◌, ℕ, Bool, false, IsTrue, List, [], ◌∷◌, length}
use Rattle.std.specs.List.{range_with_len}
use Rattle.game.specs.Game.{Game, vertex}
use Rattle.game.specs.Predecessors.{successors_at}
use Rattle.measures.specs.Measure.{IsAtMost, IsBelow, Measure}
use Rattle.measures.specs.Progress.{value_at}
use Rattle.measures.specs.Progs.{IsDemandOf}
use Rattle.tables.specs.declared.access.Access.{Access}
use Rattle.tables.specs.declared.access.Access.TheVariants.{Read, Raise}

-- accesses that were made, of which this holds
abbrev pub By : (List Access → Type 0) → (List Access → Type 0) → Type 0
By made P = (accesses : List Access) × made accesses × P accesses

-- these vertices are read in order, and have these measures
abbrev pub reads : List ℕ → List Measure → List Access
reads (t ∷ ts) (m ∷ ms) = Read t m ∷ reads ts ms
reads _ _ = []

-- The vertex is raised to m, and where it was less it rose. It may be read first, and isn't raised then where it has as much.
abbrev pub IsRaise : ℕ → Measure → Bool → List Access → Type 0
IsRaise v m rose (Raise u was new ∷ []) = (u ≡ v) × (new ≡ m) × (IsTrue rose ↔ IsBelow was m)
IsRaise v m rose (Read t has ∷ []) = (t ≡ v) × IsAtMost m has × (rose ≡ false)
IsRaise v m rose (Read t has ∷ Raise u was new ∷ []) = (t ≡ v) × (u ≡ v) × (new ≡ m) × (IsTrue rose ↔ IsBelow was m)
IsRaise v m rose _ = ⊥

-- Each successor of the vertex is read, in order, and this is what they ask for.
pub record Asks (g : Game) (v : ℕ) (asked : Measure) (accesses : List Access) : Type 0 where
  pub values : List Measure
  pub each : length values ≡ length (successors_at (vertex g v))
  pub whole : accesses ≡ reads (successors_at (vertex g v)) values
  pub demand : IsDemandOf g v values asked

-- Each successor of the vertex is read, and then the vertex is raised to what they ask for.
pub record IsTurn (g : Game) (v : ℕ) (rose : Bool) (accesses : List Access) : Type 0 where
  pub asked : Measure
  pub asking : List Access
  pub raising : List Access
  pub whole : accesses ≡ asking ++ raising
  pub asks : Asks g v asked asking
  pub raises : IsRaise v asked rose raising

-- Each vertex is read, in order, and the table has at least what was read.
pub record IsPoured (g : Game) (table : List Measure) (accesses : List Access) : Type 0 where
  pub values : List Measure
  pub each : length values ≡ length g.vertices
  pub whole : accesses ≡ reads (range_with_len 0 (length g.vertices)) values
  pub over : (v : ℕ) → v < length g.vertices → IsAtMost (value_at values v) (value_at table v)
