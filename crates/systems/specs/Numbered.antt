-- A system whose labels have numbers.
use Rattle.std.specs.Prelude.{ℕ, ◌<◌, List, [], length, map, filter, IsTrue, ◌==◌}
use Rattle.std.specs.List.{slice_index_or, Contains, AllByRecursion, AllByRecursion-prop}
use Rattle.std.specs.Coded.{le_prop}
use Rattle.std.specs.Ordering.{is_lt}
use Rattle.systems.specs.Label.{bytes_cmp}
use Rattle.systems.specs.System.{System, Arrow}
use Rattle.systems.specs.declared.system.Transition.{Transition}

pub record Numbered : Type 0 where
  pub system : System
  pub labels : List (List ℕ)

-- the arrows from a state, in order
abbrev pub arrows_from : System → ℕ → List Arrow
arrows_from l s = filter (λ a. a.source == s) l.arrows

-- the label of this number
abbrev pub label_at : List (List ℕ) → ℕ → List ℕ
label_at labels k = slice_index_or labels k []

-- the arrow that a transition with a label's number stands for
abbrev pub arrow_of : List (List ℕ) → Transition → Arrow
arrow_of labels t = record { source = t.source; label = label_at labels t.label; target = t.target }

-- The labels rise in the order of their bytes, so none stands twice.
abbrev pub AreAscending : List (List ℕ) → Type 0
AreAscending labels = (j k : ℕ) → j < k → k < length labels → IsTrue (is_lt (bytes_cmp (label_at labels j) (label_at labels k)))

-- each of these labels is that of one of these arrows
abbrev pub AreLabelsOf : List Arrow → List (List ℕ) → Type 0
AreLabelsOf arrows labels = AllByRecursion (Contains (map (λ a. a.label) arrows)) labels

-- Each label is that of an arrow.
abbrev pub AreUsed : Numbered → Type 0
AreUsed l = AreLabelsOf l.system.arrows l.labels

-- a transition between states of the system, with one of its labels
pub record IsTransitionOf (l : Numbered) (t : Transition) : Type 0 where
  pub source : t.source < l.system.states
  pub label : t.label < length l.labels
  pub target : t.target < l.system.states

abbrev pub IsInside : Numbered → List Transition → Type 0
IsInside l transitions = AllByRecursion (IsTransitionOf l) transitions

pub IsInside-prop : (l : Numbered) (transitions : List Transition) → IsProp (IsInside l transitions)
IsInside-prop l transitions = AllByRecursion-prop (IsTransitionOf l)
    (λ t p q i. record { source = le_prop p.source q.source i; label = le_prop p.label q.label i; target = le_prop p.target q.target i }) transitions

-- the system with these of its transitions, and all its states
abbrev pub system_with : Numbered → List Transition → System
system_with l transitions = record { states = l.system.states; initial = l.system.initial; arrows = map (arrow_of l.labels) transitions }
