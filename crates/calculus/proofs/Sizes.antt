-- How many nodes a tree has.
use Rattle.std.proofs.Common.{◌≡◌, ◌+◌, ◌≤◌, ℕ, Bool, true, false, List, length, refl, arith, length-append}
use Rattle.calculus.specs.NormalTree.{Norm, Constant, Junction, Modality, Fixpoint, Variable, size, preorder}
use Rattle.calculus.specs.Nodes.{parity_from}

pub size_some : (f : Norm) → 1 ≤ size f
size_some (Constant flag) = omega arith
size_some (Junction flag f g) = omega arith
size_some (Modality flag a f) = omega arith
size_some (Fixpoint flag f) = omega arith
size_some (Variable binder) = omega arith

-- A tree has as many nodes as are listed.
pub preorder_length : {A : Type 0} (say : ℕ → Norm → A) (at : ℕ) (f : Norm) → length (preorder say at f) ≡ size f
preorder_length say at (Constant flag) = refl
preorder_length say at (Junction flag f g) =
    omega (
      arith,
      length-append (preorder say (at + 1) f) (preorder say (at + 1 + size f) g),
      preorder_length say (at + 1) f,
      preorder_length say (at + 1 + size f) g,
    )
preorder_length say at (Modality flag a f) = omega (arith, preorder_length say (at + 1) f)
preorder_length say at (Fixpoint flag f) = omega (arith, preorder_length say (at + 1) f)
preorder_length say at (Variable binder) = refl

pub no_less : (flag : Bool) (n : ℕ) → n ≤ parity_from flag n
no_less true n = omega arith
no_less false n = omega arith
