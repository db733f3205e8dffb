-- Transitions as they come, with labels numbered as they come.
use Rattle.std.specs.Prelude.{◌≡◌, ℕ, ◌<◌, List, ◌++◌, length, map}
use Rattle.std.specs.List.{AllByRecursion}
use Rattle.systems.specs.System.{Arrow}
use Rattle.systems.specs.Numbered.{label_at, arrow_of, AreLabelsOf}
use Rattle.systems.specs.declared.system.Transition.{Transition}

-- the label of this number is there
pub record HasLabel (labels : List (List ℕ)) (number : ℕ) (label : List ℕ) : Type 0 where
  pub within : number < length labels
  pub is : label_at labels number ≡ label

-- labels were added at the end, none but this one
pub record Extends (old new : List (List ℕ)) (label : List ℕ) : Type 0 where
  pub more : List (List ℕ)
  pub is : new ≡ old ++ more
  pub only : AllByRecursion (λ other. other ≡ label) more

-- the transitions stand for these arrows, in order, and each label is that of one of them
pub record Gathers (labels : List (List ℕ)) (transitions : List Transition) (arrows : List Arrow) : Type 0 where
  pub spelled : map (arrow_of labels) transitions ≡ arrows
  pub inside : AllByRecursion (λ t. t.label < length labels) transitions
  pub used : AreLabelsOf arrows labels
