-- A walk along a play, as it tells its visits.
use Rattle.std.specs.Prelude.{◌≡◌, ◌≢◌, ℕ, suc, ◌+◌, ◌*◌, ◌≤◌, ◌<◌, ◌⊎◌, Bool, List, [], ◌∷◌, ◌++◌, length, IsTrue, Contains, Option, Some, None}
use Rattle.systems.specs.System.{System}
use Rattle.calculus.specs.Nodes.{Node}
use Rattle.game.specs.Game.{Game}
use Rattle.evidence.specs.Evidence.{Evidence, has}
use Rattle.evidence.specs.Witness.{Goes}
use Rattle.witness.specs.Walk.{AreGoals, is_marked, unmarked_vertices}
use Rattle.why.specs.Telling.{Comes, GoesOnlyTo, IsOfKind, IsVisit, LeadsOn, deeper, goes_on}
use Rattle.why.specs.declared.visit.Continuation.TheVariants.{On, Branch}
use Rattle.why.specs.declared.visit.Continuation.{Continuation}
use Rattle.why.specs.declared.visit.Visit.{Visit}
use Rattle.why.specs.declared.visit.Way.{Way}
use Rattle.why.specs.declared.walk.Walk.{Walk}
use Rattle.why.specs.declared.walk.Ways.{Ways}
use Rattle.why.specs.declared.walk.Ways.TheVariants.{One, Many}

abbrev pub HasTwo : List ℕ → Type 0
HasTwo ts = (s : ℕ) × (t : ℕ) × (s ≢ t) × Contains ts s × Contains ts t

-- These are the ways on: one, or several.
abbrev pub AreWaysFrom : Game → Evidence → ℕ → Ways → Type 0
AreWaysFrom g e u (One t) = GoesOnlyTo g e u t
AreWaysFrom g e u (Many targets) = AreGoals g e u targets.now × HasTwo targets.now × (length targets.now ≤ length g.vertices)

-- These are all of the vertices: one, or several.
abbrev pub AreAll : List ℕ → Ways → Type 0
AreAll targets (One t) = targets ≡ t ∷ []
AreAll targets (Many others) = (targets ≡ others.now) × (length targets ≢ 1)

-- What is told so far, where these ways wait, and one is next: the vertices that are marked were told further, the run is the visits from its start on, and
-- wherever the play goes on from a visit, a later one follows or a way waits.
pub record IsWalk (l : System) (nodes : List Node) (g : Game) (e : Evidence) (root : ℕ) (marks : List Bool) (visits : List Visit) (begin : ℕ) (waiting : List Way) (after : Option Way) : Type 0 where
  pub long : length marks ≡ length g.vertices
  pub begins : (0 < length visits) ⊎ ((way : Way) × (after ≡ Some way))
  pub comes : (k : ℕ) (v : Visit) → IsVisit visits k v → Comes g e root visits k v.way
  pub kinds : (k : ℕ) (v : Visit) → IsVisit visits k v → IsOfKind l nodes g e visits k v.way.vertex v.kind
  pub told : (u : ℕ) → IsTrue (is_marked marks u) → (i : ℕ) × (v : Visit) × IsVisit visits i v × (v.way.vertex ≡ u) × IsTrue (goes_on v.kind)
  pub run : (j : ℕ) → begin ≤ j → j < length visits → (v : Visit) × IsVisit visits j v × (v.kind ≡ On)
  pub ended : (begin ≡ 0) ⊎ ((i : ℕ) × (v : Visit) × (begin ≡ suc i) × IsVisit visits i v × (v.kind ≢ On))
  pub next : (way : Way) → after ≡ Some way → Comes g e root visits (length visits) way × IsTrue (has e way.vertex)
  pub waits : (way : Way) → Contains waiting way → (i : ℕ) × (v : Visit) × IsVisit visits i v × (v.kind ≡ Branch) × LeadsOn g e i v (length visits) way
  pub follows : (i : ℕ) (v : Visit) (t : ℕ) → IsVisit visits i v → IsTrue (goes_on v.kind) → Goes g e v.way.vertex t
      → ((k : ℕ) × (w : Visit) × IsVisit visits k w × LeadsOn g e i v k w.way × (w.way.vertex ≡ t))
      ⊎ ((way : Way) × LeadsOn g e i v (length visits) way × (way.vertex ≡ t) × ((after ≡ Some way) ⊎ (Contains waiting way × (v.kind ≡ Branch))))

abbrev pub IsWalkBy : System → List Node → Game → Evidence → ℕ → Walk → Option Way → Type 0
IsWalkBy l nodes g e root w next = IsWalk l nodes g e root w.told.items w.visits.items w.start w.waiting.items next

-- The kind is that of a visit that comes to the vertex next.
abbrev pub IsNextKind : System → List Node → Game → Evidence → Walk → ℕ → Continuation → Type 0
IsNextKind l nodes g e w u kind = (root : ℕ) (next : Option Way) → IsWalkBy l nodes g e root w next
    → IsOfKind l nodes g e w.visits.items (length w.visits.items) u kind

abbrev pub count_of : Option Way → ℕ
count_of None = 0
count_of (Some way) = 1

-- how long the walk can go on
abbrev pub left : (vertices : ℕ) → Walk → Option Way → ℕ
left vertices w next = unmarked_vertices w.told.items * suc vertices + (length w.waiting.items + count_of next)

-- The way was told of, and another is next or none is.
pub record HasTold (l : System) (nodes : List Node) (g : Game) (e : Evidence) (way : Way) (old new : Walk) (next : Option Way) : Type 0 where
  pub walk : (root : ℕ) → IsWalkBy l nodes g e root old (Some way) → IsWalkBy l nodes g e root new next
  pub falls : left (length g.vertices) new next < left (length g.vertices) old (Some way)

-- A visit was added, with these marks and this start of the run.
pub record HasAdded (way : Way) (kind : Continuation) (old new : Walk) (marks : List Bool) (begin : ℕ) : Type 0 where
  pub told : new.told.items ≡ marks
  pub visits : new.visits.items ≡ old.visits.items ++ record { way = way; kind = kind } ∷ []
  pub start : new.start ≡ begin

-- the way on to a vertex
abbrev pub way_on : Way → (blanks target : ℕ) → Way
way_on way blanks target = record { from = Some way.vertex; vertex = target; blanks = blanks }

-- The ways on to these vertices wait, too.
pub record HasLetWait (from : Way) (targets : List ℕ) (old new : List Way) : Type 0 where
  pub stays : (way : Way) → Contains old way → Contains new way
  pub all : (t : ℕ) → Contains targets t → Contains new (way_on from (deeper from.blanks) t)
  pub only : (way : Way) → Contains new way → Contains old way ⊎ ((t : ℕ) × (way ≡ way_on from (deeper from.blanks) t) × Contains targets t)
  pub long : length new ≡ length old + length targets
