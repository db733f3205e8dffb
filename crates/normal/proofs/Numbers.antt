-- The numbers in the nodes of a normal form are numbers of nodes.
use Rattle.std.proofs.Common.{◌≡◌, ◌+◌, ◌≤◌, ◌<◌, ℕ, Bool, true, false, not, List, [], ◌∷◌, ◌++◌, length, cond, sym, subst, arith}
use Rattle.std.specs.List.{AllByRecursion}
use Rattle.std.specs.Str.{bytes_eq}
use Rattle.calculus.specs.Tree.{Regular, Step, Then, Either, Star, Plus, Formula, True, False, Var, Not, And, Or, Implies, Dia, Box, Mu, Nu}
use Rattle.calculus.specs.NormalTree.{Norm, Constant, Junction, Modality, Fixpoint, Variable, size, two, loop_of, modal, with_binder, norm, normal_form, node_count}
use Rattle.calculus.specs.Nodes.{Rule, nodes_by, node_at, parity_from, greatest_node_priority}
use Rattle.calculus.specs.Rules.{rule_of, nodes_with}
use Rattle.calculus.specs.declared.priorities.Priorities.{Priorities}
use Rattle.calculus.specs.Form.{IsNode, IsForm}
use Rattle.normal.proofs.Counts.{norm_size}
use Rattle.normal.proofs.Surveying.{greatest_append}
use Rattle.calculus.proofs.Sizes.{no_less, preorder_length, size_some}

-- each variable's number is below n
abbrev VariablesBelow : ℕ → Norm → Type 0
VariablesBelow n (Constant flag) = Unit {0}
VariablesBelow n (Junction flag f g) = VariablesBelow n f × VariablesBelow n g
VariablesBelow n (Modality flag a f) = VariablesBelow n f
VariablesBelow n (Fixpoint flag f) = VariablesBelow n f
VariablesBelow n (Variable binder) = binder < n

all_append : {X : Type 0} (P : X → Type 0) (xs ys : List X) → AllByRecursion P xs → AllByRecursion P ys → AllByRecursion P (xs ++ ys)
all_append P [] ys h k = k
all_append P (x ∷ xs) ys h k = (h.0, all_append P xs ys h.1 k)

numbered : (rule : Rule) (n at : ℕ) (f : Norm) → VariablesBelow n f → at + size f ≤ n → greatest_node_priority (nodes_by rule at f) ≤ 31
    → AllByRecursion (IsNode n) (nodes_by rule at f)
numbered rule n at (Constant flag) v fits low = ((omega arith, tt), tt)
numbered rule n at (Junction flag f g) v fits low =
    let both = greatest_append (nodes_by rule (at + 1) f) (nodes_by rule (at + 1 + size f) g) in (
      (omega arith, (omega (arith, size_some f), omega (arith, size_some g))),
      all_append (IsNode n) (nodes_by rule (at + 1) f) (nodes_by rule (at + 1 + size f) g) (numbered rule n (at + 1) f v.0 (omega arith) (omega arith))
          (numbered rule n (at + 1 + size f) g v.1 (omega arith) (omega arith)),
    )
numbered rule n at (Modality flag a f) v fits low = ((omega arith, omega (arith, size_some f)), numbered rule n (at + 1) f v (omega arith) (omega arith))
numbered rule n at (Fixpoint flag f) v fits low = ((omega arith, omega (arith, size_some f)), numbered rule n (at + 1) f v (omega arith) (omega arith))
numbered rule n at (Variable binder) v fits low = ((omega arith, v), tt)

-- an operand whose variables are below n wherever it finds room below n
abbrev IsBelow : ℕ → (ℕ → Norm) → Type 0
IsBelow n f = (at : ℕ) → at + size (f at) ≤ n → VariablesBelow n (f at)

two_below : (n : ℕ) (flag : Bool) (f g : ℕ → Norm) → IsBelow n f → IsBelow n g → IsBelow n (two flag f g)
two_below n flag f g h k at fits = (h (at + 1) (omega arith), k (at + 1 + size (f (at + 1))) (omega arith))

modal_below : (n : ℕ) (flag : Bool) (r : Regular) (f : ℕ → Norm) → IsBelow n f → IsBelow n (modal flag r f)
modal_below n flag (Step a) f h at fits = h (at + 1) (omega arith)
modal_below n flag (Then r s) f h at fits = modal_below n flag r (modal flag s f) (modal_below n flag s f h) at fits
modal_below n flag (Either r s) f h at fits = two_below n flag (modal flag r f) (modal flag s f) (modal_below n flag r f h) (modal_below n flag s f h) at fits
modal_below n flag (Star r) f h at fits = two_below n flag f (modal flag r (λ _. Variable at)) h
    (modal_below n flag r (λ _. Variable at) (λ b room. omega (arith, fits))) (at + 1) (omega (arith, fits))
modal_below n flag (Plus r) f h at fits =
    modal_below n flag r (loop_of flag (modal flag r) f)
    (λ b room. two_below n flag f (modal flag r (λ _. Variable b)) h (modal_below n flag r (λ _. Variable b) (λ d space. omega (arith, room))) (b + 1)
    (omega (arith, room)))
    at fits

binder_below : (n at : ℕ) (binders : List ℕ → ℕ) (name : List ℕ) → ((x : List ℕ) → binders x < n) → at < n → (other : List ℕ)
    → with_binder binders name at other < n
binder_below n at binders name h k other = elim (bytes_eq other name) as (λ b. cond b at (binders other) < n) [ true ↦ k | false ↦ h other ]

norm_below : (n : ℕ) (flag : Bool) (binders : List ℕ → ℕ) (f : Formula) → ((x : List ℕ) → binders x < n) → IsBelow n (norm flag binders f)
norm_below n flag binders True b at fits = tt
norm_below n flag binders False b at fits = tt
norm_below n flag binders (Var name) b at fits = b name
norm_below n flag binders (Not f) b at fits = norm_below n (not flag) binders f b at fits
norm_below n flag binders (And f g) b at fits = two_below n (not flag) (norm flag binders f) (norm flag binders g) (norm_below n flag binders f b)
    (norm_below n flag binders g b) at fits
norm_below n flag binders (Or f g) b at fits = two_below n flag (norm flag binders f) (norm flag binders g) (norm_below n flag binders f b)
    (norm_below n flag binders g b) at fits
norm_below n flag binders (Implies f g) b at fits = two_below n flag (norm (not flag) binders f) (norm flag binders g) (norm_below n (not flag) binders f b)
    (norm_below n flag binders g b) at fits
norm_below n flag binders (Dia r f) b at fits = modal_below n flag r (norm flag binders f) (norm_below n flag binders f b) at fits
norm_below n flag binders (Box r f) b at fits = modal_below n (not flag) r (norm flag binders f) (norm_below n flag binders f b) at fits
norm_below n flag binders (Mu name f) b at fits = norm_below n flag (with_binder binders name at) f (binder_below n at binders name b (omega (arith, fits)))
    (at + 1) (omega (arith, fits))
norm_below n flag binders (Nu name f) b at fits = norm_below n flag (with_binder binders name at) f (binder_below n at binders name b (omega (arith, fits)))
    (at + 1) (omega (arith, fits))

-- The nodes of a normal form within the limits are those of a `Normal`.
pub is_form : (priorities : Priorities) (f : Formula) → node_count f ≤ 4096 → greatest_node_priority (nodes_with priorities f) ≤ 31 → IsForm (nodes_with priorities f)
is_form priorities f few low =
    let tree = normal_form f in
    let rule = rule_of priorities in
    let n : length (nodes_by rule 0 tree) ≡ size tree = preorder_length (node_at rule) 0 tree in
    let below : VariablesBelow (size tree) tree = norm_below (size tree) true (λ _. 0) f (λ x. omega (arith, size_some tree)) 0 (omega arith) in
    record {
      some = omega (arith, n, size_some tree);
      limit = omega (arith, n, norm_size true (λ _. 0) f 0, few);
      numbered = subst (λ k. AllByRecursion (IsNode k) (nodes_by rule 0 tree)) (sym n) (numbered rule (size tree) 0 tree below (omega arith) low);
    }
