-- What a system of the program stands for.
use Rattle.std.specs.Prelude.{◌≡◌, ℕ, ◌+◌, ◌<◌, ◌≤◌, List, length, map, filter, slice_index, slice_range, ◌==◌}
use Rattle.systems.specs.declared.limits.TheConstants.{MOST_TRANSITIONS}
use Rattle.systems.specs.System.{Arrow, IsSystem}
use Rattle.systems.specs.Numbered.{Numbered, arrow_of, AreAscending, AreUsed, IsInside}
use Rattle.systems.specs.declared.system.Transition.{Transition}
use Rattle.systems.specs.declared.system.Lts.TheInside.{Inside}

abbrev pub labels_of : Inside → List (List ℕ)
labels_of a = map (λ l. l.bytes.items) a.labels.items

abbrev pub arrows_of : Inside → List Arrow
arrows_of a = map (arrow_of (labels_of a)) a.transitions.items

abbrev pub numbered : Inside → Numbered
numbered a = record { system = record { states = a.states; initial = a.initial; arrows = arrows_of a }; labels = labels_of a }

-- The transitions from a state are those between its start and the next one's.
pub record IsRow (starts : List ℕ) (transitions : List Transition) (s : ℕ) : Type 0 where
  pub rises : slice_index starts s ≤ slice_index starts (s + 1)
  pub ends : slice_index starts (s + 1) ≤ length transitions
  pub row : slice_range transitions (slice_index starts s) (slice_index starts (s + 1)) ≡ filter (λ t. t.source == s) transitions

-- each transition once, in order, with a label that has a number, no label beside those, no more transitions than a text may have, and a start for each source
pub record IsStored (a : Inside) : Type 0 where
  pub system : IsSystem (numbered a).system
  pub labels : AreAscending (labels_of a)
  pub used : AreUsed (numbered a)
  pub inside : IsInside (numbered a) a.transitions.items
  pub few : length a.transitions.items ≤ MOST_TRANSITIONS
  pub starts : length a.starts.items ≡ a.states + 1
  pub rows : (s : ℕ) → s < a.states → IsRow a.starts.items a.transitions.items s
