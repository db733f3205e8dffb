-- What a list of bound names says.
use Rattle.std.specs.Prelude.{ℕ, List, [], ◌∷◌}
use Rattle.meaning.specs.declared.free.Bound.{Bound}
use Rattle.meaning.specs.declared.free.Bound.TheVariants.{Empty, More'}

abbrev pub names_of : Bound → List (List ℕ)
names_of Empty = []
names_of (More' name p outer) = name.now.items ∷ names_of outer
