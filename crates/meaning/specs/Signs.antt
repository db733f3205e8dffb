-- The signs `*` and `+` behind a regular formula.
use Rattle.std.specs.Prelude.{Bool, true, false}
use Rattle.calculus.specs.Tree.{Regular, Step, Then, Either, Star, Plus}

-- what stands before them
abbrev pub without_signs : Regular → Regular
without_signs (Step a) = Step a
without_signs (Then r q) = Then r q
without_signs (Either r q) = Either r q
without_signs (Star r) = without_signs r
without_signs (Plus r) = without_signs r

-- one of them is `*`
abbrev pub has_star : Regular → Bool
has_star (Star r) = true
has_star (Plus r) = has_star r
has_star _ = false
