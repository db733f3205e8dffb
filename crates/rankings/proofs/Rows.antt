-- Rows of transitions, one after another.
use Rattle.std.proofs.Common.{◌≡◌, ℕ, ◌+◌, ◌<◌, ◌≤◌, List, length, sym, ap, subst, ◌∙◌, inl, inr, arith}
use Rattle.std.specs.Prelude.{Contains, Some, slice_get, slice_index_or}
use Rattle.std.proofs.lemmas.Bool.Decides.{eqb_tells}
use Rattle.std.proofs.lemmas.Option.{get_or_from_slice_get, slice_get-get_or, slice_get_within}

some_same : {X : Type 0} (x y : X) → Some x ≡ Some y → x ≡ y
some_same x y e = cc

-- what stands at a place
pub stands : {X : Type 0} (xs : List X) (i : ℕ) (d : X) → i < length xs → slice_get xs i ≡ Some (slice_index_or xs i d)
stands xs i d h = slice_get-get_or xs i d h

-- one more
pub more_at : {X : Type 0} (P : X → Type 0) (xs : List X) (n : ℕ) (d : X) → n < length xs → ((i : ℕ) (t : X) → i < n → slice_get xs i ≡ Some t → P t)
    → P (slice_index_or xs n d) → (i : ℕ) (t : X) → i < n + 1 → slice_get xs i ≡ Some t → P t
more_at P xs n d inside f p i t h e = elim (eqb_tells i n) [
  | inl w ↦ subst P (some_same (slice_index_or xs n d) t (sym (stands xs n d inside) ∙ (ap (slice_get xs) (sym w.1) ∙ e))) p
  | inr w ↦ (let m = w.1 in f i t (omega arith) e)
]

-- what all places have, what is contained has
pub contained_at : {X : Type 0} (P : X → Type 0) (xs : List X) (n : ℕ) → length xs ≤ n → ((i : ℕ) (t : X) → i < n → slice_get xs i ≡ Some t → P t)
    → (t : X) → Contains xs t → P t
contained_at P xs n long f t (i, h, e) = f i t (omega arith) (stands xs i t h ∙ ap Some e)

-- what stands at a place is contained
pub at_contained : {X : Type 0} (xs : List X) (i : ℕ) (t : X) → slice_get xs i ≡ Some t → Contains xs t
at_contained xs i t e = (i, slice_get_within xs i t e, get_or_from_slice_get xs i t t e)

-- one state more of a span
pub more_states : (P : ℕ → Type 0) (first n : ℕ) → ((s : ℕ) → first ≤ s → s < n → P s) → P n → (s : ℕ) → first ≤ s → s < n + 1 → P s
more_states P first n f p s h i = elim (eqb_tells s n) [
  | inl w ↦ subst P (sym w.1) p
  | inr w ↦ (let m = w.1 in f s h (omega arith))
]

-- one element more of a list
pub more_nodes : {X : Type 0} (P : ℕ → X → Type 0) (xs : List X) (n : ℕ) (x : X) → slice_get xs n ≡ Some x
    → ((i : ℕ) (t : X) → i < n → slice_get xs i ≡ Some t → P i t) → P n x → (i : ℕ) (t : X) → i < n + 1 → slice_get xs i ≡ Some t → P i t
more_nodes P xs n x at f p i t h e = elim (eqb_tells i n) [
  | inl w ↦ (
      let q : x ≡ t = some_same x t (sym at ∙ (ap (slice_get xs) (sym w.1) ∙ e)) in
      subst (λ j. P j t) (sym w.1) (subst (P n) q p))
  | inr w ↦ (let m = w.1 in f i t (omega arith) e)
]
