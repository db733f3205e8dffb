-- What the command `labels` answers.
use Rattle.std.specs.Prelude.{◌≡◌, ℕ, Bool, true, false, List, [], ◌∷◌, ◌++◌, count_by, codes, decimal, if◌then◌else◌}
use Rattle.std.specs.Prelude.{Option, Some, None, option_map, Result}
use Rattle.std.specs.List.{AllByRecursion, Contains, flat_map, list_any}
use Rattle.std.specs.List.Sorted.{IsPermutation, IsSorted}
use Rattle.std.specs.Ordering.{nat_cmp, ordering_then}
use Rattle.std.specs.Str.{bytes_eq}
use Rattle.std.specs.declared.cmp.Ordering.{Ordering}
use Rattle.text.specs.Pieces.{line_end}
use Rattle.text.specs.Taken.{Taken}
use Rattle.systems.specs.Label.{bytes_cmp}
use Rattle.systems.specs.Numbered.{AreAscending, AreLabelsOf}
use Rattle.systems.specs.System.{System}
use Rattle.calculus.specs.Holds.{holds}
use Rattle.calculus.specs.Tree.{Formula}
use Rattle.calculus.specs.Nodes.{Node, nodes}
use Rattle.calculus.specs.NormalTree.{Shape, ModalityNode}
use Rattle.calculus.specs.declared.priorities.Priorities.TheVariants.{Nested}
use Rattle.lts.specs.Aut.{HasAutFault}
use Rattle.lts.specs.Left.{RefusesAut}
use Rattle.requests.specs.Check.{AreSpelled, ByGame, BySets, HasForm, HasNoGame, RefusesCheck, SpellsSystem}
use Rattle.requests.specs.Texts.{IsSystemOf}
use Rattle.requests.specs.declared.error.MuError.{MuError}
use Rattle.requests.specs.declared.error.MuError.TheVariants as error
use Rattle.commands.specs.Answers.{Answers}

-- how many transitions have the label
abbrev pub times_of : System → (label : List ℕ) → ℕ
times_of l label = count_by (λ a. bytes_eq a.label label) l.arrows

-- the more frequent label first, and of two that are as frequent that whose bytes come first
abbrev pub rank_cmp : System → List ℕ → List ℕ → Ordering
rank_cmp l one other = ordering_then (nat_cmp (times_of l other) (times_of l one)) (bytes_cmp one other)

-- the labels of the transitions, each once
pub record AreLabels (l : System) (labels : List (List ℕ)) : Type 0 where
  pub once : AreAscending labels
  pub used : AreLabelsOf l.arrows labels
  pub all : AllByRecursion (λ a. Contains labels a.label) l.arrows

-- the same in that order
pub record AreRanked (l : System) (ranked : List (List ℕ)) : Type 0 where
  pub labels : List (List ℕ)
  pub are : AreLabels l labels
  pub moved : IsPermutation labels ranked
  pub sorted : IsSorted (rank_cmp l) ranked

-- a node with an action formula that holds of the label
abbrev pub has_label : (label : List ℕ) → Shape → Bool
has_label label (ModalityNode flag a child) = holds a label
has_label label _ = false

-- one of the nodes of a normal form is such a node
abbrev pub is_taken : List Node → (label : List ℕ) → Bool
is_taken form label = list_any (λ node. has_label label node.shape) form

-- the end of the line of a label that is taken, or of another one
abbrev pub label_end : Bool → List ℕ
label_end taken = 34 ∷ (if taken then codes " taken" else []) ++ line_end

-- how often the label stands, and the label in quotes
abbrev pub label_line : ℕ → (label : List ℕ) → (taken : Bool) → List ℕ
label_line count label taken = decimal count ++ (codes " " ++ (34 ∷ (label ++ label_end taken)))

-- a line for each label
pub record IsLabelsText (l : System) (form : List Node) (text : List ℕ) : Type 0 where
  pub labels : List (List ℕ)
  pub ranked : AreRanked l labels
  pub lines : text ≡ flat_map (λ label. label_line (times_of l label) label (is_taken form label)) labels

-- The first text spells the system, and the second one a formula with this normal form; where there is none, the normal form has no nodes.
abbrev pub AreGiven : List ℕ → Option (List ℕ) → System → List Node → Type 0
AreGiven first None l form = IsSystemOf first l × (form ≡ [])
AreGiven first (Some second) l form = (f : Formula) × AreSpelled first second l f × HasForm Nested f × (form ≡ nodes f)

-- The text is that of the labels that are given so, and the answer is true.
pub record IsListed (first : List ℕ) (second : Option (List ℕ)) (answer : Bool) (text : List ℕ) : Type 0 where
  pub l : System
  pub form : List Node
  pub given : AreGiven first second l form
  pub listed : IsLabelsText l form text
  pub answered : answer ≡ true

-- What a refusal says of the texts: of both what a check's refusal does that lends no writer and makes no game, but for the normal form by the nested rule.
abbrev pub RefusesLabels : (first : List ℕ) → (second : Option (List ℕ)) → MuError → Type 0
RefusesLabels first second error.Memory = SpellsSystem first
RefusesLabels first second (error.System e) = RefusesAut (Some first) HasAutFault e
RefusesLabels first (Some second) (error.Normal e) = HasNoGame (ByGame Nested None) first second (error.Normal e)
RefusesLabels first (Some second) e = RefusesCheck BySets first second [] e
RefusesLabels first None e = ⊥

-- The theorem of the command: of what the reader of the system had left, and that of the formula where there is one, where they tell it, and of what the
-- writer held before and after.
abbrev pub Lists : (aut : Option (List ℕ)) → (formula : Option (Option (List ℕ))) → (old new : Taken) → Result Bool MuError → Type 0
Lists aut formula old new result = (first : List ℕ) (second : Option (List ℕ)) → aut ≡ Some first → formula ≡ option_map Some second
    → Answers (IsListed first second) (RefusesLabels first second) old new result
