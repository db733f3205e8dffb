-- What each node of a normal form means.
use Rattle.std.specs.Prelude.{◌≡◌, ℕ, ◌+◌, ◌⊎◌}
use Rattle.systems.specs.System.{System}
use Rattle.calculus.specs.Meaning.{Env, with_set, mean}
use Rattle.calculus.specs.NormalTree.{Norm, Constant, Junction, Modality, Fixpoint, Variable, size, binder_name, formula_from}

-- the states at which the tree holds, its first node having this number
abbrev pub tree_mean : System → ℕ → Norm → Env → ℕ → Type 0
tree_mean l at f e s = mean l (formula_from at f) e s

-- The state is in the meaning of the node of this number, each free variable standing for its binder's meaning.
abbrev pub node_mean : System → ℕ → Norm → Env → ℕ → ℕ → Type 0
node_mean l at (Constant flag) e k s = (k ≡ at) × tree_mean l at (Constant flag) e s
node_mean l at (Junction flag f g) e k s =
    ((k ≡ at) × tree_mean l at (Junction flag f g) e s) ⊎ (node_mean l (at + 1) f e k s ⊎ node_mean l (at + 1 + size f) g e k s)
node_mean l at (Modality flag a f) e k s = ((k ≡ at) × tree_mean l at (Modality flag a f) e s) ⊎ node_mean l (at + 1) f e k s
node_mean l at (Fixpoint flag f) e k s =
    ((k ≡ at) × tree_mean l at (Fixpoint flag f) e s) ⊎ node_mean l (at + 1) f (with_set e (binder_name at) (tree_mean l at (Fixpoint flag f) e)) k s
node_mean l at (Variable b) e k s = (k ≡ at) × tree_mean l at (Variable b) e s
