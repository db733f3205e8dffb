-- How many nodes normal forms have.
use Rattle.std.proofs.Common.{◌≡◌, ◌+◌, ◌<◌, ℕ, Bool, List, not, refl, ap, arith}
use Rattle.calculus.specs.Tree.{Regular, Step, Then, Either, Star, Plus, Formula, True, False, Var, Not, And, Or, Implies, Dia, Box, Mu, Nu}
use Rattle.calculus.specs.NormalTree.{Norm, Variable, size, two, loop_of, modal, norm, with_binder, modal_count, node_count}

-- A modality has more nodes than its operand.
pub modal_count_grows : (r : Regular) (x : ℕ) → x < modal_count r x
modal_count_grows (Step a) x = omega arith
modal_count_grows (Then r s) x = omega (arith, modal_count_grows r (modal_count s x), modal_count_grows s x)
modal_count_grows (Either r s) x = omega (arith, modal_count_grows r x)
modal_count_grows (Star r) x = omega arith
modal_count_grows (Plus r) x = omega (arith, modal_count_grows r (2 + x + modal_count r 1))

-- An operand that has x nodes wherever it begins.
abbrev pub HasSize : ℕ → (ℕ → Norm) → Type 0
HasSize x f = (at : ℕ) → size (f at) ≡ x

pub two_size : (flag : Bool) (f g : ℕ → Norm) (x y : ℕ) → HasSize x f → HasSize y g → HasSize (1 + x + y) (two flag f g)
two_size flag f g x y h k at = omega (arith, h (at + 1), k (at + 1 + size (f (at + 1))))

pub modal_size : (flag : Bool) (r : Regular) (f : ℕ → Norm) (x : ℕ) → HasSize x f → HasSize (modal_count r x) (modal flag r f)
modal_size flag (Step a) f x h at = ap (λ n. 1 + n) (h (at + 1))
modal_size flag (Then r s) f x h at = modal_size flag r (modal flag s f) (modal_count s x) (modal_size flag s f x h) at
modal_size flag (Either r s) f x h at = two_size flag (modal flag r f) (modal flag s f) (modal_count r x) (modal_count s x) (modal_size flag r f x h)
    (modal_size flag s f x h) at
modal_size flag (Star r) f x h at = omega (
  arith,
  two_size flag f (modal flag r (λ _. Variable at)) x (modal_count r 1) h
      (modal_size flag r (λ _. Variable at) 1 (λ _. refl)) (at + 1),
)
modal_size flag (Plus r) f x h at =
    modal_size flag r (loop_of flag (modal flag r) f) (2 + x + modal_count r 1)
    (λ b. omega (arith, two_size flag f (modal flag r (λ _. Variable b)) x (modal_count r 1) h (modal_size flag r (λ _. Variable b) 1 (λ _. refl)) (b + 1)))
    at

pub norm_size : (flag : Bool) (binders : List ℕ → ℕ) (f : Formula) → HasSize (node_count f) (norm flag binders f)
norm_size flag binders True at = refl
norm_size flag binders False at = refl
norm_size flag binders (Var name) at = refl
norm_size flag binders (Not f) at = norm_size (not flag) binders f at
norm_size flag binders (And f g) at = two_size (not flag) (norm flag binders f) (norm flag binders g) (node_count f) (node_count g) (norm_size flag binders f)
    (norm_size flag binders g) at
norm_size flag binders (Or f g) at = two_size flag (norm flag binders f) (norm flag binders g) (node_count f) (node_count g) (norm_size flag binders f)
    (norm_size flag binders g) at
norm_size flag binders (Implies f g) at = two_size flag (norm (not flag) binders f) (norm flag binders g) (node_count f) (node_count g)
    (norm_size (not flag) binders f) (norm_size flag binders g) at
norm_size flag binders (Dia r f) at = modal_size flag r (norm flag binders f) (node_count f) (norm_size flag binders f) at
norm_size flag binders (Box r f) at = modal_size (not flag) r (norm flag binders f) (node_count f) (norm_size flag binders f) at
norm_size flag binders (Mu name f) at = ap (λ n. 1 + n) (norm_size flag (with_binder binders name at) f (at + 1))
norm_size flag binders (Nu name f) at = ap (λ n. 1 + n) (norm_size flag (with_binder binders name at) f (at + 1))
