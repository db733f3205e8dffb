-- The normal form of a formula: no negation but in action formulas, no regular formula but action formulas, and a number for each node.
use Rattle.std.specs.Prelude.{ℕ, ◌+◌, max, Bool, true, false, not, List, [], ◌∷◌, ◌++◌, replicate, if◌then◌else◌}
use Rattle.std.specs.Str.{bytes_eq}
use Rattle.calculus.specs.Tree.{Action, Regular, Step, Then, Either, Star, Plus, Formula, True, False, Var, Not, And, Or, Implies, Dia, Box, Mu, Nu}

-- The tree. Of each pair the flag `true` means the first: true or false, or or and, diamond or box, mu or nu; so negation turns all flags. A
-- variable names its binder by number.
pub data Norm : Type 0 where
  Constant : (flag : Bool) → Norm
  Junction : (flag : Bool) → Norm → Norm → Norm
  Modality : (flag : Bool) → (action : Action) → Norm → Norm
  Fixpoint : (flag : Bool) → Norm → Norm
  Variable : (binder : ℕ) → Norm

-- how many nodes
abbrev pub size : Norm → ℕ
size (Constant flag) = 1
size (Junction flag f g) = 1 + (size f + size g)
size (Modality flag a f) = 1 + size f
size (Fixpoint flag f) = 1 + size f
size (Variable binder) = 1

-- Below, a part is given as a function of the number that its first node gets.

-- two operands: the numbers of the right one come after those of the left
abbrev pub two : Bool → (ℕ → Norm) → (ℕ → Norm) → ℕ → Norm
two flag left right at = Junction flag (left (at + 1)) (right (at + 1 + size (left (at + 1))))

-- `mu Z. (f || step(Z))` or `nu Z. (f && step(Z))`
abbrev pub loop_of : Bool → ((ℕ → Norm) → ℕ → Norm) → (ℕ → Norm) → ℕ → Norm
loop_of flag step f at = Fixpoint flag (two flag f (step (λ _. Variable at)) (at + 1))

-- `<r>f` or `[r]f`
abbrev pub modal : Bool → Regular → (ℕ → Norm) → ℕ → Norm
modal flag (Step a) f at = Modality flag a (f (at + 1))
modal flag (Then r s) f at = modal flag r (modal flag s f) at
modal flag (Either r s) f at = two flag (modal flag r f) (modal flag s f) at
modal flag (Star r) f at = loop_of flag (modal flag r) f at
modal flag (Plus r) f at = modal flag r (loop_of flag (modal flag r) f) at

-- the number of each variable's innermost binder, with one more binder
abbrev pub with_binder : (List ℕ → ℕ) → List ℕ → ℕ → List ℕ → ℕ
with_binder binders name at other = if bytes_eq other name then at else binders other

-- the formula, or its negation where the flag is false
abbrev pub norm : Bool → (List ℕ → ℕ) → Formula → ℕ → Norm
norm flag binders True at = Constant flag
norm flag binders False at = Constant (not flag)
norm flag binders (Var name) at = Variable (binders name)
norm flag binders (Not f) at = norm (not flag) binders f at
norm flag binders (And f g) at = two (not flag) (norm flag binders f) (norm flag binders g) at
norm flag binders (Or f g) at = two flag (norm flag binders f) (norm flag binders g) at
norm flag binders (Implies f g) at = two flag (norm (not flag) binders f) (norm flag binders g) at
norm flag binders (Dia r f) at = modal flag r (norm flag binders f) at
norm flag binders (Box r f) at = modal (not flag) r (norm flag binders f) at
norm flag binders (Mu name f) at = Fixpoint flag (norm flag (with_binder binders name at) f (at + 1))
norm flag binders (Nu name f) at = Fixpoint (not flag) (norm flag (with_binder binders name at) f (at + 1))

abbrev pub normal_form : Formula → Norm
normal_form f = norm true (λ _. 0) f 0

-- how many nodes `<r>f` and `[r]f` have, where f has x
abbrev pub modal_count : Regular → ℕ → ℕ
modal_count (Step a) x = 1 + x
modal_count (Then r s) x = modal_count r (modal_count s x)
modal_count (Either r s) x = 1 + modal_count r x + modal_count s x
modal_count (Star r) x = 2 + x + modal_count r 1
modal_count (Plus r) x = modal_count r (2 + x + modal_count r 1)

-- how many nodes the formula's normal form has
abbrev pub node_count : Formula → ℕ
node_count True = 1
node_count False = 1
node_count (Var name) = 1
node_count (Not f) = node_count f
node_count (And f g) = 1 + node_count f + node_count g
node_count (Or f g) = 1 + node_count f + node_count g
node_count (Implies f g) = 1 + node_count f + node_count g
node_count (Dia r f) = modal_count r (node_count f)
node_count (Box r f) = modal_count r (node_count f)
node_count (Mu name f) = 1 + node_count f
node_count (Nu name f) = 1 + node_count f

-- the longest chain of nested binders whose kinds alternate, of those that begin with this flag
abbrev pub chain : Norm → Bool → ℕ
chain (Constant flag) first = 0
chain (Junction flag f g) first = max (chain f first) (chain g first)
chain (Modality flag a f) first = chain f first
chain (Fixpoint true f) first = if first then max (1 + chain f false) (chain f true) else chain f false
chain (Fixpoint false f) first = if first then chain f true else max (1 + chain f true) (chain f false)
chain (Variable binder) first = 0

abbrev pub depth : Norm → ℕ
depth f = max (chain f true) (chain f false)

-- What is said of each part of the tree with its number: in preorder, left before right, the first part having this number.
abbrev pub preorder : {A : Type 0} → (ℕ → Norm → A) → ℕ → Norm → List A
preorder say at (Constant flag) = say at (Constant flag) ∷ []
preorder say at (Junction flag f g) = say at (Junction flag f g) ∷ (preorder say (at + 1) f ++ preorder say (at + 1 + size f) g)
preorder say at (Modality flag a f) = say at (Modality flag a f) ∷ preorder say (at + 1) f
preorder say at (Fixpoint flag f) = say at (Fixpoint flag f) ∷ preorder say (at + 1) f
preorder say at (Variable binder) = say at (Variable binder) ∷ []

-- a node as it is numbered, with its children's numbers
pub data Shape : Type 0 where
  ConstantNode : (flag : Bool) → Shape
  JunctionNode : (flag : Bool) → (left right : ℕ) → Shape
  ModalityNode : (flag : Bool) → (action : Action) → (child : ℕ) → Shape
  FixpointNode : (flag : Bool) → (child : ℕ) → Shape
  VariableNode : (binder : ℕ) → Shape

-- the shape of the tree's first node, which has this number
abbrev pub shape_at : ℕ → Norm → Shape
shape_at at (Constant flag) = ConstantNode flag
shape_at at (Junction flag f g) = JunctionNode flag (at + 1) (at + 1 + size f)
shape_at at (Modality flag a f) = ModalityNode flag a (at + 1)
shape_at at (Fixpoint flag f) = FixpointNode flag (at + 1)
shape_at at (Variable binder) = VariableNode binder

-- a name for each binder: `Z` and as many `_` as its number
abbrev pub binder_name : ℕ → List ℕ
binder_name at = 90 ∷ replicate at 95

abbrev pub constant_formula : Bool → Formula
constant_formula true = True
constant_formula false = False

abbrev pub junction_formula : Bool → Formula → Formula → Formula
junction_formula true f g = Or f g
junction_formula false f g = And f g

abbrev pub modality_formula : Bool → Action → Formula → Formula
modality_formula true a f = Dia (Step a) f
modality_formula false a f = Box (Step a) f

abbrev pub fixpoint_formula : Bool → List ℕ → Formula → Formula
fixpoint_formula true name f = Mu name f
fixpoint_formula false name f = Nu name f

-- the formula that the tree spells, its first node having this number
abbrev pub formula_from : ℕ → Norm → Formula
formula_from at (Constant flag) = constant_formula flag
formula_from at (Junction flag f g) = junction_formula flag (formula_from (at + 1) f) (formula_from (at + 1 + size f) g)
formula_from at (Modality flag a f) = modality_formula flag a (formula_from (at + 1) f)
formula_from at (Fixpoint flag f) = fixpoint_formula flag (binder_name at) (formula_from (at + 1) f)
formula_from at (Variable binder) = Var (binder_name binder)
