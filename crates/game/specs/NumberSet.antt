-- Sets of numbers, as their ascending lists.
use Rattle.std.specs.Prelude.{ℕ, List, [], ◌∷◌, nat_lt, ◌==◌, if◌then◌else◌}

-- one more number in its place, unless it is there
abbrev pub with_number : ℕ → List ℕ → List ℕ
with_number t [] = t ∷ []
with_number t (u ∷ us) = if nat_lt t u then t ∷ u ∷ us else (if t == u then u ∷ us else u ∷ with_number t us)

-- the set of these numbers: each once
abbrev pub number_set : List ℕ → List ℕ
number_set [] = []
number_set (t ∷ ts) = with_number t (number_set ts)
