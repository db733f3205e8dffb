-- Counts with a comma between two, as they are written.
use Rattle.std.proofs.Common.{◌≡◌, ℕ, ◌+◌, ◌<◌, ◌≤◌, List, [], ◌∷◌, ◌++◌, length, map, drop, get_or, codes, decimal, refl, sym, ap, ◌∙◌, add-one, append-nil}
use Rattle.std.proofs.Common.{append_assoc}
use Rattle.std.specs.List.{flat_map, join_with_byte}
use Rattle.std.proofs.Math.Seq.{drop-cons}
use Rattle.std.proofs.Math.ListN.{drop_of_length-le}
use Rattle.measures.specs.MeasureText.{counts_text}

-- The texts of what is left begin with that of the next.
pub next_in : {X : Type 0} (f : X → List ℕ) (xs : List X) (i : ℕ) (d : X) → i < length xs
    → flat_map f (drop i xs) ≡ f (get_or xs i d) ++ flat_map f (drop (i + 1) xs)
next_in f xs i d h = rw (drop-cons xs i d h, add-one i) refl

-- Past the last one there is none.
pub none_in : {X : Type 0} (f : X → List ℕ) (xs : List X) (i : ℕ) → length xs ≤ i → flat_map f (drop i xs) ≡ []
none_in f xs i past = ap (flat_map f) (drop_of_length-le xs past)

-- a count behind a comma
abbrev pub more : ℕ → List ℕ
more k = 44 ∷ decimal k

joined : (k : ℕ) (ks : List ℕ) → join_with_byte 44 (decimal k ∷ map decimal ks) ≡ decimal k ++ flat_map more ks
joined k [] = sym (append-nil (decimal k))
joined k (j ∷ ks) = ap (λ l. decimal k ++ 44 ∷ l) (joined j ks)

-- the first count behind the bracket, and each other one behind a comma
pub counts_begin : (counts : List ℕ) (k : ℕ) (ks : List ℕ) → counts ≡ k ∷ ks → (codes "(" ++ decimal k) ++ (flat_map more ks ++ codes ")") ≡ counts_text counts
counts_begin counts k ks e =
    ap (λ l. 40 ∷ l) (sym (append_assoc (decimal k) (flat_map more ks) (codes ")")) ∙ ap (λ l. l ++ codes ")") (sym (joined k ks))) ∙ ap counts_text (sym e)
