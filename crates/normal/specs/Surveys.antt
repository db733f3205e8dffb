-- What a survey of a part finds: the priorities of its nodes, and what the binders around it have to know of it.
use Rattle.std.specs.Prelude.{◌≡◌, ℕ, ◌+◌, ◌<◌, max, Bool, true, false, List, slice_index, slice_index_or, nat_lt, ◌==◌, if◌then◌else◌}
use Rattle.calculus.specs.NormalTree.{Norm, Constant, Junction, Modality, Fixpoint, Variable, size, chain}
use Rattle.calculus.specs.Nodes.{Rule, nodes_by, greatest_nested, greatest_node_priority, parity_from}
use Rattle.calculus.specs.Rules.{above, rule_of}
use Rattle.calculus.specs.declared.priorities.Priorities.{Priorities}
use Rattle.calculus.specs.declared.priorities.Priorities.TheVariants.{Nested, Dependent}
use Rattle.normal.specs.declared.survey.OpenBinder.{OpenBinder}
use Rattle.normal.specs.declared.survey.PartPlace.{PartPlace}
use Rattle.normal.specs.declared.survey.Summary.{Summary}
use Rattle.normal.specs.declared.survey.Survey.{Survey}

-- the number of the last node in the tree that is the variable of binder b, or else this number
abbrev pub last_seen : ℕ → ℕ → Norm → ℕ → ℕ
last_seen b at (Constant flag) last = last
last_seen b at (Junction flag f g) last = last_seen b (at + 1 + size f) g (last_seen b (at + 1) f last)
last_seen b at (Modality flag a f) last = last_seen b (at + 1) f last
last_seen b at (Fixpoint flag f) last = last_seen b (at + 1) f last
last_seen b at (Variable c) last = if c == b then at else last

abbrev pub closed : OpenBinder
closed = record { number = 0; last = 0; above = 0 }

-- the binder that is open at this level
abbrev pub open_at : List OpenBinder → ℕ → OpenBinder
open_at opens i = slice_index_or opens i closed

-- the binder of this number as its operand begins
abbrev pub opened : ℕ → OpenBinder
opened at = record { number = at; last = at; above = 0 }

-- an open binder when a variable of binder c was seen
abbrev pub seen_open : ℕ → ℕ → OpenBinder → OpenBinder
seen_open c at o = record { number = o.number; last = if c == o.number then at else o.last; above = o.above }

-- an open binder when one inside it, of this number, was given a priority
abbrev pub raised : ℕ → ℕ → OpenBinder → OpenBinder
raised at priority o = record { number = o.number; last = o.last; above = if nat_lt at o.last then max o.above priority else o.above }

-- the priority of a binder, from the greatest inside it and the greatest of those inside it that have its variable
abbrev pub chosen : Priorities → Bool → ℕ → ℕ → ℕ
chosen Nested flag inside over = parity_from flag inside
chosen Dependent flag inside over = parity_from flag over

-- an open binder past the tree
abbrev pub past : ℕ → Norm → OpenBinder → OpenBinder
past at f o = record { number = o.number; last = last_seen o.number at f o.last; above = max o.above (above o.number at f) }

-- of no open binder a variable was seen from this number on
abbrev pub AreBefore : List OpenBinder → ℕ → ℕ → Type 0
AreBefore opens level at = (i : ℕ) → i < level → (open_at opens i).last < at

-- the number past the tree, its greatest priorities, and its longest chains by the kind that they begin with
pub record Summarizes (rule : Rule) (at : ℕ) (f : Norm) (s : Summary) : Type 0 where
  pub next : s.next ≡ at + size f
  pub nested : s.nested ≡ greatest_nested f
  pub greatest : s.greatest ≡ greatest_node_priority (nodes_by rule at f)
  pub from_least : s.from_least ≡ chain f true
  pub from_greatest : s.from_greatest ≡ chain f false

-- the priorities of a list, by number
abbrev pub noted_rule : List ℕ → Rule
noted_rule priorities k f = slice_index priorities k

-- the summary of a fixpoint of what is inside, where its binder has this priority
pub record IsFixpointOf (flag : Bool) (inside : Summary) (priority : ℕ) (s : Summary) : Type 0 where
  pub next : s.next ≡ inside.next
  pub nested : s.nested ≡ parity_from flag inside.nested
  pub greatest : s.greatest ≡ max priority inside.greatest
  pub from_least : s.from_least ≡ (if flag then max (1 + inside.from_greatest) inside.from_least else inside.from_least)
  pub from_greatest : s.from_greatest ≡ (if flag then inside.from_greatest else max (1 + inside.from_least) inside.from_greatest)

-- The priorities of the tree's nodes were noted, and what its open binders have to know.
pub record Surveys (old new : Survey) (place : PartPlace) (f : Norm) (s : Summary) : Type 0 where
  pub priorities : nodes_by (noted_rule new.priorities) place.at f ≡ nodes_by (rule_of old.rule) place.at f
  pub kept : (k : ℕ) → k < place.at → slice_index new.priorities k ≡ slice_index old.priorities k
  pub opens : (i : ℕ) → i < place.level → open_at new.opens i ≡ past place.at f (open_at old.opens i)
  pub rule : new.rule ≡ old.rule
  pub summary : Summarizes (rule_of old.rule) place.at f s
