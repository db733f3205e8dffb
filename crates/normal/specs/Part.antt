-- What a part of a normal form stands for: a tree for each number that its first node may get.
use Rattle.std.specs.Prelude.{ℕ, List}
use Rattle.calculus.specs.View.{regular_of, formula_of}
use Rattle.calculus.specs.NormalTree.{Norm, Variable, two, modal, loop_of, with_binder, norm}
use Rattle.normal.specs.declared.part.NumberedScope.{NumberedScope}
use Rattle.normal.specs.declared.part.NumberedScope.TheVariants as scope
use Rattle.normal.specs.declared.part.Part.{Part}
use Rattle.normal.specs.declared.part.Part.TheVariants as part

-- the number of each variable's innermost binder
abbrev pub binders_of : NumberedScope → List ℕ → ℕ
binders_of scope.Empty other = 0
binders_of (scope.Binder' name number p outer) other = with_binder (binders_of outer) name.now number other

abbrev pub tree_of : Part → ℕ → Norm
tree_of (part.Variable binder) at = Variable binder
tree_of (part.Formula flag f scope) at = norm flag (binders_of scope.now) (formula_of f.now) at
tree_of (part.Two' flag p left q right) at = two flag (tree_of left) (tree_of right) at
tree_of (part.Modal' flag r p f) at = modal flag (regular_of r.now) (tree_of f) at
tree_of (part.Loop' flag r p f) at = loop_of flag (modal flag (regular_of r.now)) (tree_of f) at
