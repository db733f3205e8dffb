-- What sets of numbers have, and lists after a write.
use Rattle.std.proofs.Common.{◌≡◌, ◌≢◌, ℕ, zero, suc, ◌+◌, ◌<◌, ◌≤◌, ◌⊎◌, Bool, true, false, not, ◌&&◌, ◌||◌, if◌then◌else◌, List, [], ◌∷◌, map, eqb, refl}
use Rattle.std.proofs.Common.{sym, ◌∙◌, ap, ap₂, subst, inl, inr, arith, true≢false, Contains, Some, slice_set}
use Rattle.std.specs.Prelude.{filter, slice_get, nat_lt, ◌==◌}
use Rattle.std.specs.List.{list_any, range_with_len}
use Rattle.std.proofs.lemmas.Bool.Decides.{eqb_tells}
use Rattle.std.proofs.lemmas.Option.{none-some, same_Some}
use Rattle.measures.proofs.Lists.{contains_cases, contains_first, contains_later, contains_none}
use Rattle.game.specs.NumberSet.{with_number}
use Rattle.liftcore.specs.Core.{without}

pub cases : (b : Bool) → (b ≡ true) ⊎ (b ≡ false)
cases true = inl refl
cases false = inr refl

pub and_both : (a b : Bool) → (a && b) ≡ true → (a ≡ true) × (b ≡ true)
and_both true b h = (refl, h)
and_both false b h = absurd (true≢false (sym h))

or_left : (a b : Bool) → a ≡ true → (a || b) ≡ true
or_left true b h = refl
or_left false b h = absurd (true≢false (sym h))

pub or_right : (a b : Bool) → b ≡ true → (a || b) ≡ true
or_right true b h = refl
or_right false b h = h

pub eqb_same : (a b : ℕ) → eqb a b ≡ true → a ≡ b
eqb_same a b e = elim (eqb_tells a b) [ inl w ↦ w.1 | inr w ↦ absurd (true≢false (sym e ∙ w.0)) ]

pub same_eqb : (a b : ℕ) → a ≡ b → eqb a b ≡ true
same_eqb a b e = elim (eqb_tells a b) [ inl w ↦ w.0 | inr w ↦ absurd (w.1 e) ]

-- ---- tests of lists

pub gives_any : {X : Type 0} (p : X → Bool) (xs : List X) (x : X) → Contains xs x → p x ≡ true → list_any p xs ≡ true
gives_any p [] x h k = absurd (contains_none x h)
gives_any p (y ∷ xs) x h k = elim (contains_cases y x xs h) [
  | inl e ↦ or_left (p y) (list_any p xs) (ap p e ∙ k)
  | inr m ↦ or_right (p y) (list_any p xs) (gives_any p xs x m k)
]

pub gives_filter : (p : ℕ → Bool) (xs : List ℕ) (x : ℕ) → Contains xs x → p x ≡ true → Contains (filter p xs) x
gives_filter p [] x h t = absurd (contains_none x h)
gives_filter p (y ∷ xs) x (zero, h, e) t = let q : p y ≡ true = ap p e ∙ t in rw q (0, omega arith, e)
gives_filter p (y ∷ xs) x (suc k, h, e) t =
    let w = gives_filter p xs x (k, omega arith, e) t in
    elim (cases (p y)) [ inl q ↦ rw q (contains_later y x (filter p xs) w) | inr q ↦ rw q w ]

pub gives_range : (a n x : ℕ) → a ≤ x → x < a + n → Contains (range_with_len a n) x
gives_range a zero x h k = absurd (omega arith)
gives_range a (suc n) x h k = elim (same_or_more a x h) [
  | inl e ↦ subst (λ z. Contains (a ∷ range_with_len (a + 1) n) z) e (contains_first a (range_with_len (a + 1) n))
  | inr m ↦ contains_later a x (range_with_len (a + 1) n) (gives_range (a + 1) n x m (omega arith))
]
  where
    same_or_more : (a x : ℕ) → a ≤ x → (a ≡ x) ⊎ (a + 1 ≤ x)
    same_or_more a x h = grind arith

pub map_same : {X Y : Type 0} (f h : X → Y) (xs : List X) → ((x : X) → Contains xs x → f x ≡ h x) → map f xs ≡ map h xs
map_same f h [] same = refl
map_same f h (x ∷ xs) same = ap₂ (λ y ys. y ∷ ys) (same x (contains_first x xs)) (map_same f h xs (λ y c. same y (contains_later x y xs c)))

-- ---- sets

pub in_with_itself : (v : ℕ) (xs : List ℕ) → Contains (with_number v xs) v
in_with_itself v [] = contains_first v []
in_with_itself v (u ∷ us) = by (nat_lt v u) (v == u) (eqb_same v u) (in_with_itself v us)
  where
    by : (b c : Bool) → (c ≡ true → v ≡ u) → Contains (with_number v us) v → Contains (if b then v ∷ u ∷ us else (if c then u ∷ us else u ∷ with_number v us)) v
    by true c f r = contains_first v (u ∷ us)
    by false true f r = subst (λ z. Contains (u ∷ us) z) (sym (f refl)) (contains_first u us)
    by false false f r = contains_later u v (with_number v us) r

pub in_with_kept : (v y : ℕ) (xs : List ℕ) → Contains xs y → Contains (with_number v xs) y
in_with_kept v y [] h = absurd (contains_none y h)
in_with_kept v y (u ∷ us) h = by (nat_lt v u) (v == u) (λ k. in_with_kept v y us k)
  where
    by : (b c : Bool) → (Contains us y → Contains (with_number v us) y) → Contains (if b then v ∷ u ∷ us else (if c then u ∷ us else u ∷ with_number v us)) y
    by true c r = contains_later v y (u ∷ us) h
    by false true r = h
    by false false r = elim (contains_cases u y us h) [
      | inl e ↦ subst (λ z. Contains (u ∷ with_number v us) z) e (contains_first u (with_number v us))
      | inr k ↦ contains_later u y (with_number v us) (r k)
    ]

pub without_kept : (v y : ℕ) (xs : List ℕ) → y ≢ v → Contains xs y → Contains (without v xs) y
without_kept v y xs n h = gives_filter (λ u. not (u == v)) xs y h (elim (eqb_tells y v) [ inl w ↦ absurd (n w.1) | inr w ↦ ap not w.0 ])

-- ---- a list after a write

pub set_get_same : {X : Type 0} (xs : List X) (i : ℕ) (x y : X) → slice_get xs i ≡ Some y → slice_get (slice_set xs i x) i ≡ Some x
set_get_same [] i x y e = absurd (none-some y e)
set_get_same (z ∷ zs) zero x y e = refl
set_get_same (z ∷ zs) (suc i) x y e = set_get_same zs i x y e

pub set_get_other : {X : Type 0} (xs : List X) (i j : ℕ) (x : X) → j ≢ i → slice_get (slice_set xs i x) j ≡ slice_get xs j
set_get_other [] i j x n = refl
set_get_other (z ∷ zs) zero zero x n = absurd (n refl)
set_get_other (z ∷ zs) zero (suc j) x n = refl
set_get_other (z ∷ zs) (suc i) zero x n = refl
set_get_other (z ∷ zs) (suc i) (suc j) x n = set_get_other zs i j x (λ e. n (ap suc e))

-- what holds something else stands elsewhere, and stays
pub get_kept : {X : Type 0} (xs : List X) (i j : ℕ) (x a b : X) → slice_get xs i ≡ Some a → slice_get xs j ≡ Some b → (a ≡ b → ⊥)
    → slice_get (slice_set xs i x) j ≡ Some b
get_kept xs i j x a b e d n = set_get_other xs i j x (λ q. n (same_Some a b (sym e ∙ (ap (slice_get xs) (sym q) ∙ d)))) ∙ d

-- what stands there after the write was written, or stood there
pub get_back : {X : Type 0} (xs : List X) (i j : ℕ) (x a b : X) → slice_get xs i ≡ Some a → slice_get (slice_set xs i x) j ≡ Some b → (x ≡ b)
    ⊎ (slice_get xs j ≡ Some b)
get_back xs i j x a b e d = elim (eqb_tells j i) [
  | inl w ↦ inl (same_Some x b (sym (set_get_same xs i x a e) ∙ (ap (slice_get (slice_set xs i x)) (sym w.1) ∙ d)))
  | inr w ↦ inr (sym (set_get_other xs i j x w.1) ∙ d)
]

-- one place has one thing
pub get_same : {X : Type 0} (xs : List X) (i j : ℕ) (a b : X) → j ≡ i → slice_get xs i ≡ Some a → slice_get xs j ≡ Some b → b ≡ a
get_same xs i j a b q e d = same_Some b a (sym d ∙ (ap (slice_get xs) q ∙ e))
