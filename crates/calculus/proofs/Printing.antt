-- The names of an action between bars.
use Rattle.std.proofs.Common.{◌≡◌, ℕ, ◌+◌, ◌<◌, ◌≤◌, List, [], ◌∷◌, ◌++◌, length, drop, get_or, drop-cons, add-one, codes, Vec, Global, refl, sym, ap}
use Rattle.std.proofs.Common.{append-nil}
use Rattle.std.proofs.Math.ListN.{drop_of_length-le}
use Rattle.systems.specs.Label.{texts}
use Rattle.calculus.specs.Canon.{names_text, barred}

-- the first name, and the others after bars
pub names_text-cons : (name : List ℕ) (names : List (List ℕ)) → name ++ barred names ≡ names_text (name ∷ names)
names_text-cons name [] = append-nil name
names_text-cons name (other ∷ names) = ap (λ text. name ++ (124 ∷ text)) (names_text-cons other names)

-- what is left begins with the next name
pub next_barred : (names : List (Vec ℕ Global)) (i : ℕ) (name : Vec ℕ Global) (bytes : List ℕ) → i < length names → name ≡ get_or names i name
    → bytes ≡ name.items
    → barred (texts (drop i names)) ≡ (codes "|" ++ bytes) ++ barred (texts (drop (i + 1) names))
next_barred names i name bytes below at same = rw (drop-cons names i name below, add-one i, sym at, same) refl

pub none_barred : (names : List (Vec ℕ Global)) (i : ℕ) → length names ≤ i → barred (texts (drop i names)) ≡ []
none_barred names i past = ap (λ l. barred (texts l)) (drop_of_length-le names past)
