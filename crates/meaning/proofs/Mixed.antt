-- A loop that writes f of two lists' elements over the first list.
use Rattle.std.proofs.Common.{◌≡◌, ℕ, zero, suc, ◌<◌, Bool, List, [], ◌∷◌, length, map, get_or, refl, ap, ◌+◌, ◌∙◌, add-one, false, arith}
use Rattle.std.specs.Prelude.{zip, slice_set, slice_index_or}
use Rattle.std.proofs.lemmas.List.{get_or_default}

module _ (f : Bool × Bool → Bool) where
  -- after i turns
  abbrev pub mixed : ℕ → List Bool → List Bool → List Bool
  mixed zero xs ys = xs
  mixed (suc i) [] ys = []
  mixed (suc i) (x ∷ xs) [] = x ∷ xs
  mixed (suc i) (x ∷ xs) (y ∷ ys) = f (x, y) ∷ mixed i xs ys

  pub length-mixed : (i : ℕ) (xs ys : List Bool) → length (mixed i xs ys) ≡ length xs
  length-mixed zero xs ys = refl
  length-mixed (suc i) [] ys = refl
  length-mixed (suc i) (x ∷ xs) [] = refl
  length-mixed (suc i) (x ∷ xs) (y ∷ ys) = ap suc (length-mixed i xs ys)

  pub mixed_more : (i : ℕ) (xs ys : List Bool) (d e : Bool) → length xs ≡ length ys → i < length ys
      → slice_set (mixed i xs ys) i (f (get_or (mixed i xs ys) i d, get_or ys i e)) ≡ mixed (suc i) xs ys
  mixed_more i xs [] d e same lt = absurd (omega arith)
  mixed_more i [] (y ∷ ys) d e same lt = absurd (omega arith)
  mixed_more zero (x ∷ xs) (y ∷ ys) d e same lt = refl
  mixed_more (suc i) (x ∷ xs) (y ∷ ys) d e same lt = ap (λ zs. f (x, y) ∷ zs) (mixed_more i xs ys d e (omega arith) (omega arith))

  -- a turn that reads the mark before it writes it
  pub mixed_turn : (i : ℕ) (xs ys now : List Bool) (read : Bool) → now ≡ mixed i xs ys → read ≡ slice_index_or now i read → length xs ≡ length ys
      → i < length ys
      → slice_set now i (f (read, slice_index_or ys i false)) ≡ mixed (i + 1) xs ys
  mixed_turn i xs ys now read same at sized lt =
      let within : i < length now = omega (arith, ap length same, length-mixed i xs ys) in
      let before : read ≡ slice_index_or (mixed i xs ys) i false = at ∙ (get_or_default now i read false within ∙ ap (λ ms. slice_index_or ms i false) same) in
      rw add-one
      (ap (λ b. slice_set now i (f (b, slice_index_or ys i false))) before
      ∙ ap (λ ms. slice_set ms i (f (slice_index_or (mixed i xs ys) i false, slice_index_or ys i false))) same
      ∙ mixed_more i xs ys false false sized lt)

  pub mixed_all : (i : ℕ) (xs ys : List Bool) → length xs ≡ length ys → i ≡ length ys → mixed i xs ys ≡ map f (zip xs ys)
  mixed_all zero [] [] same e = refl
  mixed_all zero [] (y ∷ ys) same e = absurd (omega arith)
  mixed_all zero (x ∷ xs) [] same e = absurd (omega arith)
  mixed_all zero (x ∷ xs) (y ∷ ys) same e = absurd (omega arith)
  mixed_all (suc i) [] [] same e = refl
  mixed_all (suc i) [] (y ∷ ys) same e = absurd (omega arith)
  mixed_all (suc i) (x ∷ xs) [] same e = absurd (omega arith)
  mixed_all (suc i) (x ∷ xs) (y ∷ ys) same e = ap (λ zs. f (x, y) ∷ zs) (mixed_all i xs ys (omega arith) (omega arith))
