-- How labels are counted, and listed: by their numbers.
use Rattle.std.specs.Prelude.{◌≡◌, ℕ, ◌<◌, ◌==◌, List, [], Option, Some, None, length, map, count_by, slice_get, slice_index}
use Rattle.std.specs.Coded.{Coded-set, coded_ℕ, le_prop}
use Rattle.std.specs.List.{AllByRecursion, AllByRecursion-prop}
use Rattle.systems.specs.Numbered.{Numbered, label_at}
use Rattle.systems.specs.declared.system.Transition.{Transition}
use Rattle.calculus.specs.Nodes.{Node}
use Rattle.commands.specs.Labels.{AreRanked, is_taken, label_line, times_of}
use Rattle.commands.specs.declared.label_counts.Counted.{Counted}

-- how many of the transitions have the label of this number
abbrev pub times_among : List Transition → (number : ℕ) → ℕ
times_among transitions number = count_by (λ t. t.label == number) transitions

-- the label of this number with its count
abbrev pub counted_at : (counts : List ℕ) → (number : ℕ) → Counted
counted_at counts number = record { count = record { 0 = slice_index counts number }; number = number }

-- a label of the system, and how many transitions have it
pub record IsCounted (l : Numbered) (c : Counted) : Type 0 where
  pub inside : c.number < length l.labels
  pub count : c.count.0 ≡ times_of l.system (label_at l.labels c.number)

abbrev pub AreCounted : Numbered → List Counted → Type 0
AreCounted l counted = AllByRecursion (IsCounted l) counted

pub AreCounted-prop : (l : Numbered) (counted : List Counted) → IsProp (AreCounted l counted)
AreCounted-prop l counted = AllByRecursion-prop (IsCounted l)
    (λ c p q i. record { inside = le_prop p.inside q.inside i; count = Coded-set coded_ℕ _ _ p.count q.count i }) counted

-- the labels in their order
pub record IsRanking (l : Numbered) (counted : List Counted) : Type 0 where
  pub each : AreCounted l counted
  pub ranked : AreRanked l.system (map (λ c. label_at l.labels c.number) counted)

-- the line of a label
abbrev pub counted_line : List (List ℕ) → List Node → Counted → List ℕ
counted_line labels form c = label_line c.count.0 (label_at labels c.number) (is_taken form (label_at labels c.number))

-- the line of a label, if there is one
abbrev pub counted_line_of : List (List ℕ) → List Node → Option Counted → List ℕ
counted_line_of labels form None = []
counted_line_of labels form (Some c) = counted_line labels form c

-- the line of the label that has this place
abbrev pub counted_line_at : List (List ℕ) → List Node → List Counted → ℕ → List ℕ
counted_line_at labels form counted i = counted_line_of labels form (slice_get counted i)
