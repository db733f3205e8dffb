-- How much work is left to write a part.
use Rattle.std.proofs.Common.{ℕ, ◌+◌}
use Rattle.calculus.specs.Tree.{Regular, Step, Then, Either, Star, Plus, Formula, True, False, Var, Not, And, Or, Implies, Dia, Box, Mu, Nu}
use Rattle.calculus.specs.View.{regular_of, formula_of}
use Rattle.normal.specs.declared.part.Part.{Part}
use Rattle.normal.specs.declared.part.Part.TheVariants as part

abbrev pub modal_cost : Regular → ℕ → ℕ
modal_cost (Step a) x = 2 + x
modal_cost (Then r s) x = 1 + modal_cost r (1 + modal_cost s x)
modal_cost (Either r s) x = 4 + modal_cost r x + modal_cost s x
modal_cost (Star r) x = 6 + x + modal_cost r 1
modal_cost (Plus r) x = 1 + modal_cost r (6 + x + modal_cost r 1)

abbrev pub formula_cost : Formula → ℕ
formula_cost True = 1
formula_cost False = 1
formula_cost (Var name) = 1
formula_cost (Not f) = 1 + formula_cost f
formula_cost (And f g) = 4 + formula_cost f + formula_cost g
formula_cost (Or f g) = 4 + formula_cost f + formula_cost g
formula_cost (Implies f g) = 4 + formula_cost f + formula_cost g
formula_cost (Dia r f) = 1 + modal_cost r (1 + formula_cost f)
formula_cost (Box r f) = 1 + modal_cost r (1 + formula_cost f)
formula_cost (Mu name f) = 3 + formula_cost f
formula_cost (Nu name f) = 3 + formula_cost f

abbrev pub part_cost : Part → ℕ
part_cost (part.Variable binder) = 1
part_cost (part.Formula flag f scope) = 1 + formula_cost (formula_of f.now)
part_cost (part.Two' flag p left q right) = 2 + part_cost left + part_cost right
part_cost (part.Modal' flag r p f) = 1 + modal_cost (regular_of r.now) (part_cost f)
part_cost (part.Loop' flag r p f) = 6 + part_cost f + modal_cost (regular_of r.now) 1
