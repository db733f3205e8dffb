-- The transitions from a state.
use Rattle.std.proofs.Common.{◌≡◌, ◌==◌, ◌+◌, ◌-◌, ◌<◌, ◌≤◌, ℕ, Bool, true, false, List, [], ◌∷◌, length, map, filter, take, drop, get_or, ap, sym, ◌∙◌, refl}
use Rattle.std.proofs.Common.{cond, arith}
use Rattle.std.proofs.lemmas.List.{get_or_read_under}
use Rattle.systems.specs.System.{System}
use Rattle.systems.specs.Numbered.{arrow_of, arrows_from}
use Rattle.systems.specs.View.{IsRow}
use Rattle.systems.specs.declared.system.Transition.{Transition}

-- To pick from the images is to pick by them.
pub filter-map : {A B : Type 0} (p : B → Bool) (f : A → B) (xs : List A) → filter p (map f xs) ≡ map f (filter (λ x. p (f x)) xs)
filter-map p f [] = refl
filter-map p f (x ∷ xs) = elim (p (f x)) as (λ b. cond b (f x ∷ filter p (map f xs)) (filter p (map f xs))
    ≡ map f (cond b (x ∷ filter (λ y. p (f y)) xs) (filter (λ y. p (f y)) xs)))
    [ true ↦ ap (λ ys. f x ∷ ys) (filter-map p f xs) | false ↦ filter-map p f xs ]

-- What lies between the start of a state and the next one's are its transitions.
pub row_is : (labels : List (List ℕ)) (l : System) (starts : List ℕ) (ts us : List Transition) (s i j : ℕ) → l.arrows ≡ map (arrow_of labels) ts
    → IsRow starts ts s
    → us ≡ ts → s + 1 < length starts → i ≡ get_or starts s i → j ≡ get_or starts (s + 1) j → map (arrow_of labels) (take (j - i) (drop i us)) ≡ arrows_from l s
row_is labels l starts ts us s i j is row same short first last =
    let start : i ≡ get_or starts s 0 = get_or_read_under starts s (length starts) i 0 first (omega arith) refl in
    let end : j ≡ get_or starts (s + 1) 0 = get_or_read_under starts (s + 1) (length starts) j 0 last short refl in
    let cut : take (j - i) (drop i us) ≡ take (get_or starts (s + 1) 0 - get_or starts s 0) (drop (get_or starts s 0) ts) =
    (λ k. take (end k - start k) (drop (start k) (same k))) in
    ap (map (arrow_of labels)) (cut ∙ row.row) ∙ (sym (filter-map (λ a. a.source == s) (arrow_of labels) ts) ∙ ap (filter (λ a. a.source == s)) (sym is))

-- they lie in order
pub row_rises : (starts : List ℕ) (ts : List Transition) (s i j : ℕ) → IsRow starts ts s → s + 1 < length starts → i ≡ get_or starts s i
    → j ≡ get_or starts (s + 1) j → i ≤ j
row_rises starts ts s i j row short first last =
    let start : i ≡ get_or starts s 0 = get_or_read_under starts s (length starts) i 0 first (omega arith) refl in
    let end : j ≡ get_or starts (s + 1) 0 = get_or_read_under starts (s + 1) (length starts) j 0 last short refl in
    omega (arith, start, end, row.rises)
