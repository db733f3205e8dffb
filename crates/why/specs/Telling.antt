-- A telling of a play: the vertices that it passes, run by run.
use Rattle.std.specs.Prelude.{◌≡◌, ◌≢◌, ℕ, suc, ◌+◌, ◌≤◌, ◌<◌, ◌⊎◌, Bool, true, false, List, length, IsTrue, Some, None, nat_lt, slice_get, if◌then◌else◌}
use Rattle.systems.specs.System.{System}
use Rattle.calculus.specs.Nodes.{Node}
use Rattle.game.specs.Game.{Game}
use Rattle.evidence.specs.Evidence.{Evidence}
use Rattle.evidence.specs.Witness.{Goes}
use Rattle.witness.specs.Witness.{GoesOneWayFrom}
use Rattle.why.specs.Everywhere.{IsEverywhere}
use Rattle.why.specs.declared.visit.Continuation.{Continuation}
use Rattle.why.specs.declared.visit.Continuation.TheVariants.{On, Branch, Sink, Back, Told, Everywhere}
use Rattle.why.specs.declared.visit.Visit.{Visit}
use Rattle.why.specs.declared.visit.Way.{Way}
use Rattle.why.specs.declared.visit.TheConstants.{MOST_BLANKS}

-- The visit of this number is this one.
abbrev pub IsVisit : List Visit → ℕ → Visit → Type 0
IsVisit visits i v = slice_get visits i ≡ Some v

-- The play is told further from a visit of this kind.
abbrev pub goes_on : Continuation → Bool
goes_on On = true
goes_on Branch = true
goes_on _ = false

-- two blanks more, MOST_BLANKS at most
abbrev pub deeper : ℕ → ℕ
deeper blanks = if nat_lt blanks MOST_BLANKS then blanks + 2 else blanks

-- how many blanks stand before what follows a visit of this kind
abbrev pub blanks_after : Continuation → ℕ → ℕ
blanks_after On blanks = blanks
blanks_after _ blanks = deeper blanks

-- It is the only way on from the vertex.
abbrev pub GoesOnlyTo : Game → Evidence → ℕ → ℕ → Type 0
GoesOnlyTo g e u t = Goes g e u t × GoesOneWayFrom g e u

-- The way leads on from the visit of number i, and is taken to that of number k: the next one, if the play has no other way on there.
pub record LeadsOn (g : Game) (e : Evidence) (i : ℕ) (v : Visit) (k : ℕ) (way : Way) : Type 0 where
  pub later : i < k
  pub next : v.kind ≡ On → k ≡ suc i
  pub goes_on : IsTrue (goes_on v.kind)
  pub from : way.from ≡ Some v.way.vertex
  pub goes : Goes g e v.way.vertex way.vertex
  pub blanks : way.blanks ≡ blanks_after v.kind v.way.blanks

-- the way to the root, with which a telling begins
abbrev pub way_to : ℕ → Way
way_to root = record { from = None; vertex = root; blanks = 0 }

-- The play comes this way to the visit of number k: to the first one by the root, and to each other one from an earlier visit.
abbrev pub Comes : Game → Evidence → (root : ℕ) → List Visit → ℕ → Way → Type 0
Comes g e root visits k way = ((k ≡ 0) × (way ≡ way_to root)) ⊎ ((i : ℕ) × (v : Visit) × IsVisit visits i v × LeadsOn g e i v k way)

-- An earlier visit of another run was to this vertex, and the play is told further from there.
pub record WasTold (visits : List Visit) (k u : ℕ) : Type 0 where
  pub number : ℕ
  pub visit : Visit
  pub is : IsVisit visits number visit
  pub vertex : visit.way.vertex ≡ u
  pub goes_on : IsTrue (goes_on visit.kind)
  -- the run of that visit ended here
  pub end : ℕ
  pub last : Visit
  pub is_last : IsVisit visits end last
  pub order : (number ≤ end) × (end < k)
  pub ended : last.kind ≢ On

-- An earlier visit of the same run, that of number i, was to this vertex.
pub record ComesBack (visits : List Visit) (k u i : ℕ) : Type 0 where
  pub visit : Visit
  pub is : IsVisit visits i visit
  pub vertex : visit.way.vertex ≡ u
  pub earlier : i < k
  pub run : (j : ℕ) → i ≤ j → j < k → (w : Visit) × IsVisit visits j w × (w.kind ≡ On)

-- What is told of the visit of number k to this vertex is so: the play has one way on; or it has several; or its only way on is to a sink; or it was at the
-- vertex before, in this run or in another; or what its fixpoint asks is so of all states that can be reached.
abbrev pub IsOfKind : System → List Node → Game → Evidence → List Visit → ℕ → ℕ → Continuation → Type 0
IsOfKind l nodes g e visits k u On = (t : ℕ) × (2 ≤ t) × GoesOnlyTo g e u t
IsOfKind l nodes g e visits k u Branch = (s t : ℕ) × (s ≢ t) × Goes g e u s × Goes g e u t
IsOfKind l nodes g e visits k u Sink = (t : ℕ) × (t < 2) × GoesOnlyTo g e u t
IsOfKind l nodes g e visits k u (Back i) = ComesBack visits k u i
IsOfKind l nodes g e visits k u Told = WasTold visits k u
IsOfKind l nodes g e visits k u (Everywhere n) = IsEverywhere l nodes u n

-- The visits tell the play by the evidence from the root: it comes to each of them, and each is of its kind; and wherever the play goes on from a visit, a
-- later one follows, unless there are so many.
pub record IsTelling (l : System) (nodes : List Node) (g : Game) (e : Evidence) (root most : ℕ) (visits : List Visit) : Type 0 where
  pub begins : (v : Visit) × IsVisit visits 0 v
  pub comes : (k : ℕ) (v : Visit) → IsVisit visits k v → Comes g e root visits k v.way
  pub kinds : (k : ℕ) (v : Visit) → IsVisit visits k v → IsOfKind l nodes g e visits k v.way.vertex v.kind
  pub follows : length visits < most → (i : ℕ) (v : Visit) (t : ℕ) → IsVisit visits i v → IsTrue (goes_on v.kind) → Goes g e v.way.vertex t
      → (k : ℕ) × (w : Visit) × IsVisit visits k w × LeadsOn g e i v k w.way × (w.way.vertex ≡ t)
