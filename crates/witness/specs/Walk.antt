-- A walk over what is reached: by the play vertices, by steps states.
use Rattle.std.specs.Prelude.{◌≡◌, ℕ, suc, ◌+◌, ◌⊎◌, ◌↔◌, Bool, false, List, [], ◌∷◌, length, Contains, IsTrue, count_by, slice_index_or, if◌then◌else◌}
use Rattle.systems.specs.Path.{IsPath}
use Rattle.systems.specs.System.{System}
use Rattle.calculus.specs.Meaning.{Leads}
use Rattle.calculus.specs.Tree.{Anything, Star, Step}
use Rattle.game.specs.Game.{Game}
use Rattle.evidence.specs.Evidence.{Evidence}
use Rattle.evidence.specs.Witness.{Goes}

-- The vertex is marked.
abbrev pub is_marked : List Bool → ℕ → Bool
is_marked marks u = slice_index_or marks u false

-- how many vertices are not marked
abbrev pub unmarked_vertices : List Bool → ℕ
unmarked_vertices [] = 0
unmarked_vertices (m ∷ marks) = if m then unmarked_vertices marks else suc (unmarked_vertices marks)

-- how many vertices are not marked, or wait
abbrev pub vertices_left : List Bool → List ℕ → ℕ
vertices_left marks waiting = unmarked_vertices marks + length waiting

-- These vertices are marked, and those of them that were not marked before wait.
pub record Visits (marks : List Bool) (waiting targets : List ℕ) (new_marks : List Bool) (new_waiting : List ℕ) : Type 0 where
  pub long : length new_marks ≡ length marks
  pub kept : (u : ℕ) → IsTrue (is_marked marks u) → IsTrue (is_marked new_marks u)
  pub all : (u : ℕ) → Contains targets u → IsTrue (is_marked new_marks u)
  pub only : (u : ℕ) → IsTrue (is_marked new_marks u) → IsTrue (is_marked marks u) ⊎ (Contains targets u × Contains new_waiting u)
  pub waits : (u : ℕ) → Contains waiting u → Contains new_waiting u
  pub from : (u : ℕ) → Contains new_waiting u → Contains waiting u ⊎ Contains targets u
  pub rest : vertices_left new_marks new_waiting ≡ vertices_left marks waiting

-- the numbers to which the relation leads from u
abbrev pub AreTargets : (ℕ → ℕ → Type 0) → ℕ → List ℕ → Type 0
AreTargets R u targets = (t : ℕ) → R u t ↔ Contains targets t

-- the vertices to which the play may go from u
abbrev pub AreGoals : Game → Evidence → ℕ → List ℕ → Type 0
AreGoals g e u targets = AreTargets (Goes g e) u targets

-- What is marked is reached from the root along the relation, and where that leads from a marked number to one that is not marked, the first one waits.
pub record IsMarkedWalk (size : ℕ) (R : ℕ → ℕ → Type 0) (root : ℕ) (marks : List Bool) (waiting : List ℕ) : Type 0 where
  pub long : length marks ≡ size
  pub begins : IsTrue (is_marked marks root)
  pub reached : (t : ℕ) → IsTrue (is_marked marks t) → (others : List ℕ) × IsPath R root others t
  pub follows : (u t : ℕ) → IsTrue (is_marked marks u) → R u t → IsTrue (is_marked marks t) ⊎ Contains waiting u
  pub known : (u : ℕ) → Contains waiting u → IsTrue (is_marked marks u)

-- The state is reachable from that one by steps of any label.
abbrev pub CanBeReached : System → (from : ℕ) → ℕ → Type 0
CanBeReached l from s = Leads l (Star (Step Anything)) from s

-- one mark for each state, true where it is reachable from that one
pub record MarksReached (l : System) (from : ℕ) (marks : List Bool) : Type 0 where
  pub long : length marks ≡ l.states
  pub exact : (s : ℕ) → IsTrue (is_marked marks s) ↔ CanBeReached l from s

-- So many states are reachable from that one.
pub record CountsReached (l : System) (from n : ℕ) : Type 0 where
  pub marks : List Bool
  pub reached : MarksReached l from marks
  pub count : n ≡ count_by (λ mark. mark) marks
