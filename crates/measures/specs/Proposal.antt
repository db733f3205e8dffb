-- Proposals: a value for each vertex of a game, with reasons that can be tested in one pass over the vertices.
use Rattle.std.specs.Prelude.{◌≡◌, ◌≢◌, ◌<◌, ◌≤◌, ◌⊎◌, ℕ, suc, ◌+◌, ◌-◌, ◌/◌, ◌^◌, List, Contains, Some, true, length, slice_index}
use Rattle.std.specs.Ordering.{nat_cmp}
use Rattle.std.specs.declared.cmp.Ordering.{Ordering}
use Rattle.std.specs.declared.cmp.Ordering.TheVariants.{Less, Equal, Greater}
use Rattle.game.specs.declared.player.Player.{Player}
use Rattle.game.specs.declared.player.Player.TheVariants.{Even, Odd}
use Rattle.game.specs.Game.{Game, Vertex, opponent, vertex}
use Rattle.measures.specs.Measure.{IsMeasure, Measure, Reaches, components, digit_of, counted_at, cut, is_odd, measure_cmp}
use Rattle.measures.specs.Progress.{value_at}
use Rattle.measures.specs.declared.proposal.TheConstants.{NO_MOVE}

-- A proposal names its game. It has for each vertex a value, and for each digit of measures and each vertex a height. For each priority a shift tells how many
-- of the lowest bits of heights don't count there.
pub record Proposal : Type 0 where
  pub game : Game
  pub values : List Measure
  pub height : (digit v : ℕ) → ℕ
  pub shift : ℕ → ℕ

-- At a greater priority no more bits count.
abbrev pub IsRising : Proposal → Type 0
IsRising c = (p : ℕ) → c.shift p ≤ c.shift (suc p)

-- what counts at a priority of the height at v
abbrev pub counted_of : Proposal → (digit p v : ℕ) → ℕ
counted_of c digit p v = c.height digit v / 2 ^ c.shift p

-- From v, a vertex of this priority, on to t what counts of the height falls, or stays where the priority is odd.
abbrev pub HeightFalls : Proposal → (digit p v t : ℕ) → Type 0
HeightFalls c digit p v t =
    (counted_of c digit p t < counted_of c digit p v) ⊎ ((counted_of c digit p t ≡ counted_of c digit p v) × (is_odd p ≡ true))

-- the first for what is less, the second for what is equal, and nothing for what is greater
abbrev pub MatchUpTo : Ordering → Type 0 → Type 0 → Type 0
MatchUpTo Less P Q = P
MatchUpTo Equal P Q = Q
MatchUpTo Greater P Q = ⊥

-- Up to this digit t has more than v, a vertex of this priority, or as much and the height falls.
abbrev pub HasAsMuch : Proposal → (digit p v t : ℕ) → Type 0
HasAsMuch c digit p v t =
    MatchUpTo (measure_cmp (cut digit (value_at c.values v)) (cut digit (value_at c.values t))) (Unit {0}) (HeightFalls c digit p v t)

-- Before this digit t has more than v, or as much and at it at most one less.
abbrev pub HasAllButOne : List Measure → (digit v t : ℕ) → Type 0
HasAllButOne values digit v t =
    MatchUpTo (measure_cmp (cut (digit - 1) (value_at values v)) (cut (digit - 1) (value_at values t))) (Unit {0})
    (digit_of (value_at values v) digit ≤ digit_of (value_at values t) digit + 1)

-- The edge from v to t is a reason for what the value of v, a vertex of this priority, has at a digit: t has as much, but for one where v counts at this digit
-- itself. There is none where the priority is above that of the digit.
unfoldable pub IsReason : Proposal → (digit p v t : ℕ) → Type 0
IsReason c digit p v t = MatchUpTo (nat_cmp p (counted_at c.game digit)) (HasAsMuch c digit p v t) (HasAllButOne c.values digit v t)

-- all of these for Even, and one of them for Odd
abbrev pub AreEnough : Player → (ℕ → Type 0) → List ℕ → Type 0
AreEnough Even P ts = (t : ℕ) → Contains ts t → P t
AreEnough Odd P ts = (t : ℕ) × Contains ts t × P t

-- The value of v, a vertex of this priority, reaches that of t.
abbrev pub ReachesFrom : Game → List Measure → (p v t : ℕ) → Type 0
ReachesFrom g values p v t = Reaches g p (value_at values t) (value_at values v)

-- The value of v reaches that of one successor where v is Even's, and those of all where it is Odd's.
abbrev pub ReachesEnough : Game → List Measure → ℕ → Type 0
ReachesEnough g values v =
    (x : Vertex) × (vertex g v ≡ Some x) × AreEnough (opponent x.owner) (ReachesFrom g values x.priority v) x.successors

-- t is the first of these of which P holds.
pub record IsFirstOf (P : ℕ → Type 0) (ts : List ℕ) (t : ℕ) : Type 0 where
  pub place : ℕ
  pub inside : place < length ts
  pub there : slice_index ts place ≡ t
  pub holds : P t
  pub before : (i : ℕ) → i < place → P (slice_index ts i) → ⊥

-- Even goes on to the first of these that is reached. Where Odd does, all are reached, and Even has no move.
abbrev pub IsFirstMoveBy : Player → (ℕ → Type 0) → List ℕ → ℕ → Type 0
IsFirstMoveBy Even P ts next = IsFirstOf P ts next
IsFirstMoveBy Odd P ts next = (next ≡ NO_MOVE) × ((t : ℕ) → Contains ts t → P t)

-- Where Even goes on from v, if v is Even's.
abbrev pub IsFirstMove : Game → List Measure → (v next : ℕ) → Type 0
IsFirstMove g values v next = (x : Vertex) × (vertex g v ≡ Some x) × IsFirstMoveBy x.owner (ReachesFrom g values x.priority v) x.successors next

-- What the value of v has at this digit, if anything, has reasons enough.
abbrev pub HasReasonsFor : Proposal → (digit v : ℕ) → Type 0
HasReasonsFor c digit v =
    digit_of (value_at c.values v) digit ≢ 0
    → (x : Vertex) × (vertex c.game v ≡ Some x) × AreEnough x.owner (IsReason c digit x.priority v) x.successors

abbrev pub HasReasonsAt : Proposal → ℕ → Type 0
HasReasonsAt c v = (digit : ℕ) → digit ≤ length (components c.game) → HasReasonsFor c digit v

-- The value of v is a measure of the game. It is no less than a lift would make it, and has its reasons.
pub record IsGoodVertex (c : Proposal) (v : ℕ) : Type 0 where
  pub measure : IsMeasure c.game (value_at c.values v)
  pub reaches : ReachesEnough c.game c.values v
  pub reasons : HasReasonsAt c v

abbrev pub AreGoodVertices : Proposal → Type 0
AreGoodVertices c = (v : ℕ) → v < length c.game.vertices → IsGoodVertex c v

-- There is a value for each vertex, shifts don't fall, and each vertex is good.
pub record IsGoodProposal (c : Proposal) : Type 0 where
  pub long : length c.values ≡ length c.game.vertices
  pub rising : IsRising c
  pub vertices : AreGoodVertices c
