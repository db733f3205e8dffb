-- A test of numbers that rise.
use Rattle.std.specs.Prelude.{ℕ, ◌+◌, Bool, true, ◌&&◌, List, [], ◌∷◌, nat_le, nat_lt}

-- The numbers rise from the least one on, and are below the limit.
abbrev pub rises : ℕ → ℕ → List ℕ → Bool
rises limit least [] = true
rises limit least (x ∷ xs) = nat_le least x && nat_lt x limit && rises limit (x + 1) xs
