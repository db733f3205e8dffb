-- Variables that occur free.
use Rattle.std.specs.Prelude.{ℕ, Bool, true, false, not, ◌&&◌, ◌||◌, List, ◌∷◌}
use Rattle.std.specs.List.{list_any}
use Rattle.std.specs.Str.{bytes_eq}
use Rattle.calculus.specs.Tree.{Formula, True, False, Var, Not, And, Or, Implies, Dia, Box, Mu, Nu}

-- the variable stands in the formula outside of all its binders there
abbrev pub is_free_in : List ℕ → Formula → Bool
is_free_in x True = false
is_free_in x False = false
is_free_in x (Var name) = bytes_eq name x
is_free_in x (Not f) = is_free_in x f
is_free_in x (And f g) = is_free_in x f || is_free_in x g
is_free_in x (Or f g) = is_free_in x f || is_free_in x g
is_free_in x (Implies f g) = is_free_in x f || is_free_in x g
is_free_in x (Dia r f) = is_free_in x f
is_free_in x (Box r f) = is_free_in x f
is_free_in x (Mu name f) = not (bytes_eq name x) && is_free_in x f
is_free_in x (Nu name f) = not (bytes_eq name x) && is_free_in x f

-- each variable that is free in the formula is one of these names
abbrev pub are_among : List (List ℕ) → Formula → Bool
are_among names True = true
are_among names False = true
are_among names (Var name) = list_any (bytes_eq name) names
are_among names (Not f) = are_among names f
are_among names (And f g) = are_among names f && are_among names g
are_among names (Or f g) = are_among names f && are_among names g
are_among names (Implies f g) = are_among names f && are_among names g
are_among names (Dia r f) = are_among names f
are_among names (Box r f) = are_among names f
are_among names (Mu name f) = are_among (name ∷ names) f
are_among names (Nu name f) = are_among (name ∷ names) f
