-- What a closed formula stands for.
use Rattle.calculus.specs.Tree.{Formula}
use Rattle.calculus.specs.View.{formula_of}
use Rattle.calculus.specs.declared.closed.Closed.{Closed}

abbrev pub closed_formula : Closed → Formula
closed_formula f = formula_of f.tree.value
