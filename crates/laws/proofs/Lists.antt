-- What lists have.
use Rattle.std.proofs.Common.{◌≡◌, ℕ, zero, suc, ◌+◌, ◌<◌, ◌≤◌, ◌⊎◌, Bool, true, List, [], ◌∷◌, ◌++◌, length, map, refl, sym, ◌∙◌, ap, subst, inl, inr, arith}
use Rattle.std.specs.Prelude.{Contains, Some, filter, slice_get}
use Rattle.std.specs.List.{list_any, list_all, range_with_len}
use Rattle.measures.proofs.Lists.{contains_cases, contains_first, contains_later, contains_none}
use Rattle.laws.proofs.Flags.{cases, both, and_true, either, or_left, or_right}

-- what a list of one has
pub only_in : {X : Type 0} (y x : X) → Contains (y ∷ []) x → x ≡ y
only_in y x h = elim (contains_cases y x [] h) [ inl e ↦ sym e | inr k ↦ absurd (contains_none x k) ]

-- what a list of two has
pub of_two : {X : Type 0} (u v x : X) → Contains (u ∷ v ∷ []) x → (x ≡ u) ⊎ (x ≡ v)
of_two u v x h = elim (contains_cases u x (v ∷ []) h) [ inl e ↦ inl (sym e) | inr k ↦ inr (only_in v x k) ]

-- what a mapped list has
pub in_map : {X Y : Type 0} (f : X → Y) (xs : List X) (x : X) → Contains xs x → Contains (map f xs) (f x)
in_map f [] x h = absurd (contains_none x h)
in_map f (a ∷ xs) x (zero, h, e) = (0, omega arith, ap f e)
in_map f (a ∷ xs) x (suc k, h, e) = contains_later (f a) (f x) (map f xs) (in_map f xs x (k, omega arith, e))

-- where it comes from
pub of_map : {X Y : Type 0} (f : X → Y) (xs : List X) (y : Y) → Contains (map f xs) y → (x : X) × Contains xs x × (f x ≡ y)
of_map f [] y h = absurd (contains_none y h)
of_map f (a ∷ xs) y (zero, h, e) = (a, contains_first a xs, e)
of_map f (a ∷ xs) y (suc k, h, e) = let w = of_map f xs y (k, omega arith, e) in (w.0, contains_later a w.0 xs w.1, w.2)

-- ---- tests of lists

-- some passes
pub any_gives : {X : Type 0} (p : X → Bool) (xs : List X) → list_any p xs ≡ true → (x : X) × Contains xs x × (p x ≡ true)
any_gives p [] h = cc
any_gives p (x ∷ xs) h = elim (either (p x) (list_any p xs) h) [
  | inl e ↦ (x, contains_first x xs, e)
  | inr e ↦ (let w = any_gives p xs e in (w.0, contains_later x w.0 xs w.1, w.2))
]

-- where one passes some does
pub gives_any : {X : Type 0} (p : X → Bool) (xs : List X) (x : X) → Contains xs x → p x ≡ true → list_any p xs ≡ true
gives_any p [] x h k = absurd (contains_none x h)
gives_any p (y ∷ xs) x h k = elim (contains_cases y x xs h) [
  | inl e ↦ or_left (p y) (list_any p xs) (ap p e ∙ k)
  | inr m ↦ or_right (p y) (list_any p xs) (gives_any p xs x m k)
]

-- all pass
pub all_gives : {X : Type 0} (p : X → Bool) (xs : List X) (x : X) → list_all p xs ≡ true → Contains xs x → p x ≡ true
all_gives p [] x all h = absurd (contains_none x h)
all_gives p (y ∷ xs) x all h =
    let w = both (p y) (list_all p xs) all in
    elim (contains_cases y x xs h) [ inl e ↦ ap p (sym e) ∙ w.0 | inr m ↦ all_gives p xs x w.1 m ]

-- where each passes all do
pub gives_all : {X : Type 0} (p : X → Bool) (xs : List X) → ((x : X) → Contains xs x → p x ≡ true) → list_all p xs ≡ true
gives_all p [] h = refl
gives_all p (x ∷ xs) h = and_true (p x) (list_all p xs) (h x (contains_first x xs)) (gives_all p xs (λ y k. h y (contains_later x y xs k)))

-- what a filtered list has
pub filter_gives : {X : Type 0} (p : X → Bool) (xs : List X) (x : X) → Contains (filter p xs) x → Contains xs x × (p x ≡ true)
filter_gives p [] x h = absurd (contains_none x h)
filter_gives p (y ∷ xs) x h = elim (cases (p y)) [
  | inl e ↦ elim (contains_cases y x (filter p xs) (rw e at h)) [
    | inl q ↦ (subst (λ z. Contains (y ∷ xs) z) q (contains_first y xs), subst (λ z. p z ≡ true) q e)
    | inr k ↦ (let w = filter_gives p xs x k in (contains_later y x xs w.0, w.1))
  ]
  | inr e ↦ (let w = filter_gives p xs x (rw e at h) in (contains_later y x xs w.0, w.1))
]

-- it has what passes
pub gives_filter : {X : Type 0} (p : X → Bool) (xs : List X) (x : X) → Contains xs x → p x ≡ true → Contains (filter p xs) x
gives_filter p [] x h t = absurd (contains_none x h)
gives_filter p (y ∷ xs) x (zero, h, e) t = let q : p y ≡ true = ap p e ∙ t in rw q (0, omega arith, e)
gives_filter p (y ∷ xs) x (suc k, h, e) t =
    let w = gives_filter p xs x (k, omega arith, e) t in
    elim (cases (p y)) [ inl q ↦ rw q (contains_later y x (filter p xs) w) | inr q ↦ rw q w ]

-- what a range has
pub range_gives : (a n x : ℕ) → Contains (range_with_len a n) x → x < a + n
range_gives a zero x h = absurd (contains_none x h)
range_gives a (suc n) x h = elim (contains_cases a x (range_with_len (a + 1) n) h) [ inl e ↦ omega arith | inr k ↦ omega (arith, range_gives (a + 1) n x k) ]

-- it has what is between
pub gives_range : (a n x : ℕ) → a ≤ x → x < a + n → Contains (range_with_len a n) x
gives_range a zero x h k = absurd (omega arith)
gives_range a (suc n) x h k = elim (same_or_more a x h) [
  | inl e ↦ subst (λ z. Contains (a ∷ range_with_len (a + 1) n) z) e (contains_first a (range_with_len (a + 1) n))
  | inr m ↦ contains_later a x (range_with_len (a + 1) n) (gives_range (a + 1) n x m (omega arith))
]
  where
    same_or_more : (a x : ℕ) → a ≤ x → (a ≡ x) ⊎ (a + 1 ≤ x)
    same_or_more a x h = grind arith

-- ---- places

-- a place in the first of two lists
pub get_left : {X : Type 0} (xs ys : List X) (k : ℕ) (x : X) → slice_get xs k ≡ Some x → slice_get (xs ++ ys) k ≡ Some x
get_left [] ys k x e = cc
get_left (y ∷ xs) ys zero x e = e
get_left (y ∷ xs) ys (suc k) x e = get_left xs ys k x e

-- a place in the second
pub get_right : {X : Type 0} (xs ys : List X) (j k : ℕ) → j ≡ length xs + k → slice_get (xs ++ ys) j ≡ slice_get ys k
get_right [] ys j k e = let h : j ≡ k = omega arith in ap (slice_get ys) h
get_right (x ∷ xs) ys zero k e = absurd (omega arith)
get_right (x ∷ xs) ys (suc j) k e = get_right xs ys j k (omega arith)

-- a place in a mapped list
pub get_map : {X Y : Type 0} (f : X → Y) (xs : List X) (k : ℕ) (x : X) → slice_get xs k ≡ Some x → slice_get (map f xs) k ≡ Some (f x)
get_map f [] k x e = cc
get_map f (y ∷ xs) zero x e = let h : y ≡ x = cc in ap (λ z. Some (f z)) h
get_map f (y ∷ xs) (suc k) x e = get_map f xs k x e

-- what stands in a mapped list comes from the list
pub map_get : {X Y : Type 0} (f : X → Y) (xs : List X) (k : ℕ) (y : Y) → slice_get (map f xs) k ≡ Some y → (x : X) × (slice_get xs k ≡ Some x) × (f x ≡ y)
map_get f [] k y e = cc
map_get f (x ∷ xs) zero y e = (x, refl, cc)
map_get f (x ∷ xs) (suc k) y e = map_get f xs k y e

-- a place in a range
pub get_range : (a n i : ℕ) → i < n → slice_get (range_with_len a n) i ≡ Some (a + i)
get_range a zero i h = absurd (omega arith)
get_range a (suc n) zero h = let e : a ≡ a + 0 = omega arith in ap Some e
get_range a (suc n) (suc i) h = let e : a + 1 + i ≡ a + suc i = omega arith in get_range (a + 1) n i (omega arith) ∙ ap Some e
