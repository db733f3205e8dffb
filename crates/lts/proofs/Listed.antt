-- Lines by number are those of a list.
use Rattle.std.proofs.Common.{◌≡◌, ℕ, suc, ◌+◌, List, [], ◌∷◌, ◌++◌, Some, length, map, refl, sym, ap₂, subst, ◌∙◌, arith}
use Rattle.std.specs.Prelude.{slice_get}
use Rattle.std.specs.List.{flat_map}
use Rattle.std.proofs.lemmas.List.Concat.{flat_map-cons}
use Rattle.text.specs.Wrote.{lines_from}

-- Where the line of each number is that of the element there, the lines are those of the list.
pub listed : {A B : Type 0} → (f : B → List ℕ) (g : A → B) (line : ℕ → List ℕ) (v : ℕ) (xs : List A)
    → ((i : ℕ) (x : A) → slice_get xs i ≡ Some x → line (v + i) ≡ f (g x))
    → lines_from line v (length xs) ≡ flat_map f (map g xs)
listed f g line v [] each = refl
listed f g line v (x ∷ xs) each =
    let none_more : v + 0 ≡ v = omega arith in
    let one_more : (i : ℕ) → v + suc i ≡ (v + 1) + i = λ i. omega arith in
    let rest = listed f g line (v + 1) xs (λ i y h. subst (λ n. line n ≡ f (g y)) (one_more i) (each (suc i) y h)) in
    ap₂ (λ a b. a ++ b) (subst (λ n. line n ≡ f (g x)) none_more (each 0 x refl)) rest ∙ sym (flat_map-cons f (g x) (map g xs))
