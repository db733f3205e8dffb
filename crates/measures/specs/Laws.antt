-- What holds of all parity games and their progress measures (Jurdziński 2000).
use Rattle.std.specs.Prelude.{◌≡◌, ◌≢◌, ◌<◌, ◌⊎◌, ◌↔◌, ◌≤◌, ◌*◌, ℕ, Contains, List, None, Option, Some, length}
use Rattle.game.specs.declared.player.Player.TheVariants.{Even, Odd}
use Rattle.calculus.specs.declared.limits.TheConstants.{GREATEST_PRIORITY}
use Rattle.game.specs.Game.{Game, IsGame, Vertex, dual, greatest, vertex}
use Rattle.game.specs.Wins.{OddWins, Wins}
use Rattle.measures.specs.Measure.{IsAtMost, IsMeasure, IsProg, IsRank, Measure, Top}
use Rattle.measures.specs.Progress.{IsLeastTable, IsProgress, opening, value_at}
use Rattle.measures.specs.Lifting.{AreLifts, AreRises, height, rank}

-- For each priority and measure there is a least measure that reaches it.
abbrev pub ProgExists : Type 0
ProgExists = (g : Game) (p : ℕ) (m : Measure) → IsMeasure g m → (r : Measure) × IsProg g p m r

-- t is one of the vertex's successors, and its prog is at most that of each other
pub record IsLeastSuccessor (g : Game) (table : List Measure) (x : Vertex) (t : ℕ) : Type 0 where
  pub successor : Contains x.successors t
  pub least : (u : ℕ) → Contains x.successors u → (m r : Measure) → IsProg g x.priority (value_at table t) m → IsProg g x.priority (value_at table u) r
      → IsAtMost m r

-- the least successor of a vertex among those with the least prog
abbrev pub IsBestSuccessor : Game → List Measure → ℕ → ℕ → Type 0
IsBestSuccessor g table v t = (x : Vertex) → vertex g v ≡ Some x → IsLeastSuccessor g table x t × ((u : ℕ) → IsLeastSuccessor g table x u → t ≤ u)

-- At Even's vertices it is the least successor among those with the least prog, and at Odd's there is none.
abbrev pub IsBestMove : Game → List Measure → Vertex → Option ℕ → Type 0
IsBestMove g table x None = x.owner ≡ Odd
IsBestMove g table x (Some t) = (x.owner ≡ Even) × IsLeastSuccessor g table x t × ((u : ℕ) → IsLeastSuccessor g table x u → t ≤ u)

-- Even wins each vertex at which some progress table isn't top, by choosing a successor with the least prog.
abbrev pub TableWins : Type 0
TableWins =
    (g : Game) → IsGame g → (table : List Measure) → IsProgress g table → (v : ℕ) → value_at table v ≢ Top
    → (w : Wins g v) × ((u : ℕ) (x : Vertex) → vertex g u ≡ Some x → x.owner ≡ Even → IsLeastSuccessor g table x (w.choice u))

-- At each vertex that Even wins some progress table isn't top.
abbrev pub WinsHaveTables : Type 0
WinsHaveTables = (g : Game) (v : ℕ) → Wins g v → (table : List Measure) × IsProgress g table × (value_at table v ≢ Top)

-- The least progress table isn't top exactly where Even wins.
abbrev pub LeastDecides : Type 0
LeastDecides = (g : Game) → IsGame g → (table : List Measure) → IsLeastTable g table → (v : ℕ) → (value_at table v ≢ Top) ↔ Wins g v

-- Each game has a least progress table.
abbrev pub LeastExists : Type 0
LeastExists = (g : Game) → IsGame g → (table : List Measure) × IsLeastTable g table

-- It has one only.
abbrev pub LeastIsOne : Type 0
LeastIsOne = (g : Game) (s t : List Measure) → IsLeastTable g s → IsLeastTable g t → s ≡ t

-- No vertex is won by both players.
abbrev pub NotBothWin : Type 0
NotBothWin = (g : Game) (v : ℕ) → Wins g v → OddWins g v → ⊥

-- Each vertex is won by one of them.
abbrev pub OneWins : Type 0
OneWins = (g : Game) → IsGame g → (v : ℕ) → v < length g.vertices → Wins g v ⊎ OddWins g v

-- Odd wins a vertex exactly where Even wins it in the dual game.
abbrev pub DualWins : Type 0
DualWins = (g : Game) (v : ℕ) → Wins (dual g) v ↔ OddWins g v

-- The least table is top exactly where that of the dual game isn't.
abbrev pub DualTop : Type 0
DualTop =
    (g : Game) → IsGame g → greatest g ≤ GREATEST_PRIORITY → (table other : List Measure) → IsLeastTable g table → IsLeastTable (dual g) other
    → (v : ℕ) → v < length g.vertices → (value_at table v ≡ Top) ↔ (value_at other v ≢ Top)

-- Lifts from the opening table, at one vertex after another in any order, come to no progress table but the least.
abbrev pub LiftingFindsLeast : Type 0
LiftingFindsLeast =
    (g : Game) → IsGame g → (tables : List (List Measure)) (table : List Measure) → AreLifts g (opening g) tables table → IsProgress g table
    → IsLeastTable g table

-- Lifts that each change the table are at most the number of vertices times that of the lists of counts.
abbrev pub LiftingEnds : Type 0
LiftingEnds = (g : Game) (tables : List (List Measure)) (table : List Measure) → AreRises g (opening g) tables table
    → length tables ≤ length g.vertices * height g

-- The number of the measures below one is its counts read in mixed radix.
abbrev pub RankIsCode : Type 0
RankIsCode = (g : Game) (m : Measure) → IsMeasure g m → IsRank g m (rank g m)
