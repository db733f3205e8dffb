-- What a checker finds at one vertex.
use Rattle.std.specs.Prelude.{◌≡◌, ℕ, ◌<◌, ◌⊎◌, ◌↔◌, List, length, Contains, IsTrue, Option, Some, None}
use Rattle.game.specs.Game.{Game, Vertex, vertex}
use Rattle.game.specs.Wins.{WinsBy}
use Rattle.measures.specs.Laws.{IsBestMove}
use Rattle.measures.specs.Measure.{Measure}
use Rattle.evidence.specs.Evidence.{Descends, Entry, Evidence, LacksFault, IsFreeAt, entry_at, has}
use Rattle.evidence.specs.Verdict.{IsLeftOut, number_of}
use Rattle.evidence.specs.declared.verdict.Fault.{Fault}
use Rattle.evidence.specs.declared.verdict.Fault.TheVariants.{Leaves, Move, Rank}

-- all of these are in the set
abbrev pub AreInside : Evidence → List ℕ → Type 0
AreInside e targets = (t : ℕ) → Contains targets t → IsTrue (has e t)

-- From a vertex of this priority with this rank the rank descends to each of these that is in the set.
abbrev pub AreBelow : Game → Evidence → ℕ → List ℕ → List ℕ → Type 0
AreBelow g e p rank targets = (t : ℕ) → Contains targets t → (y : Entry) → entry_at e t ≡ Some y → Descends e.player g p rank y.rank

-- the least fault along edges to these
abbrev pub IsAlong : Game → Evidence → ℕ → List ℕ → List ℕ → Option Fault → Type 0
IsAlong g e p rank targets None = AreInside e targets × AreBelow g e p rank targets
IsAlong g e p rank targets (Some Move) = ⊥
IsAlong g e p rank targets (Some Leaves) = AreInside e targets → ⊥
IsAlong g e p rank targets (Some Rank) = AreInside e targets × (AreBelow g e p rank targets → ⊥)

-- the least fault of an entry, if it has one
abbrev pub IsLeastFault : Game → Evidence → Vertex → Entry → Option Fault → Type 0
IsLeastFault g e v x None = (fault : Fault) → LacksFault g e v x fault
IsLeastFault g e v x (Some fault) = (LacksFault g e v x fault → ⊥) × ((other : Fault) → number_of other < number_of fault → LacksFault g e v x other)

-- the least fault at a vertex, if one stands there
abbrev pub IsFaultAt : Game → Evidence → ℕ → Option Fault → Type 0
IsFaultAt g e u None = (fault : Fault) → IsFreeAt g e u fault
IsFaultAt g e u (Some fault) = (x : Entry) × (v : Vertex) × (entry_at e u ≡ Some x) × (vertex g u ≡ Some v) × IsLeastFault g e v x (Some fault)

-- the least vertex that is in neither, if there is one
abbrev pub IsLeftOver : Game → Evidence → Evidence → Option ℕ → Type 0
IsLeftOver g e f None = (v : ℕ) → v < length g.vertices → IsTrue (has e v) ⊎ IsTrue (has f v)
IsLeftOver g e f (Some v) = (v < length g.vertices) × IsLeftOut e f v × ((u : ℕ) → u < v → IsTrue (has e u) ⊎ IsTrue (has f u))

-- Each holds exactly the vertices that its player wins, and none is in both.
abbrev pub Decides : Game → Evidence → Evidence → Type 0
Decides g e f =
    (v : ℕ) → v < length g.vertices
    → (IsTrue (has e v) ↔ WinsBy e.player g v) × (IsTrue (has f v) ↔ WinsBy f.player g v) × (IsTrue (has e v) → IsTrue (has f v) → ⊥)

-- Even's best move from a vertex
abbrev pub IsMoveAt : Game → List Measure → ℕ → Option ℕ → Type 0
IsMoveAt g table v move = (x : Vertex) → vertex g v ≡ Some x → IsBestMove g table x move
