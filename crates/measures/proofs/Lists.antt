-- Lists: what they contain, place by place.
use Rattle.measures.proofs.Common.{◌≡◌, ℕ, zero, suc, ◌+◌, ◌<◌, ◌≤◌, ◌⊎◌, List, [], ◌∷◌, length, map, refl, sym, ap, subst, ◌∙◌, inl, inr, arith, Contains}
use Rattle.measures.proofs.Common.{Some, slice_get, slice_index_or, Bool, true, false, cond, count_by, true≢false, AllZip, AllByRecursion, All-from_recursion}
use Rattle.measures.proofs.Common.{sum_by-cons, get_or_from_slice_get, slice_get_within}

pub contains_first : {X : Type 0} (x : X) (xs : List X) → Contains (x ∷ xs) x
contains_first x xs = (0, omega arith, refl)

pub contains_later : {X : Type 0} (x y : X) (xs : List X) → Contains xs y → Contains (x ∷ xs) y
contains_later x y xs (k, h, q) = (suc k, omega arith, q)

pub contains_none : {X : Type 0} (x : X) → Contains [] x → ⊥
contains_none x (k, h, q) = omega arith

pub contains_cases : {X : Type 0} (x y : X) (xs : List X) → Contains (x ∷ xs) y → (x ≡ y) ⊎ Contains xs y
contains_cases x y xs (zero, h, q) = inl q
contains_cases x y xs (suc k, h, q) = inr (k, omega arith, q)

pub all_contained : {X : Type 0} (P : X → Type 0) (xs : List X) (x : X) → AllByRecursion P xs → Contains xs x → P x
all_contained P xs x h (k, l, q) = subst P q (All-from_recursion P xs h k x l)

pub all_got : {X : Type 0} (P : X → Type 0) (xs : List X) (i : ℕ) (x : X) → AllByRecursion P xs → slice_get xs i ≡ Some x → P x
all_got P xs i x h e = subst P (get_or_from_slice_get xs i x x e) (All-from_recursion P xs h i x (slice_get_within xs i x e))

pub all_or : {X : Type 0} (P : X → Type 0) (xs : List X) (i : ℕ) (d : X) → AllByRecursion P xs → P d → P (slice_index_or xs i d)
all_or P [] i d h p = p
all_or P (y ∷ ys) zero d h p = h.0
all_or P (y ∷ ys) (suc i) d h p = all_or P ys i d h.1 p

pub all_weaker : {X : Type 0} (P Q : X → Type 0) (xs : List X) → ((x : X) → P x → Q x) → AllByRecursion P xs → AllByRecursion Q xs
all_weaker P Q [] f h = tt
all_weaker P Q (x ∷ xs) f h = (f x h.0, all_weaker P Q xs f h.1)

-- from the second list back to the first
pub zip_back : {X Y Z : Type 0} (R : Y → Z → Type 0) (f : X → Y) (xs : List X) (zs : List Z) (z : Z) → AllZip R (map f xs) zs → Contains zs z → (x : X)
    × Contains xs x × R (f x) z
zip_back R f [] [] z h c = absurd (contains_none z c)
zip_back R f [] (w ∷ ws) z h c = absurd h
zip_back R f (x ∷ xs) [] z h c = absurd h
zip_back R f (x ∷ xs) (w ∷ ws) z h c = elim (contains_cases w z ws c) [
  | inl e ↦ (x, contains_first x xs, subst (λ u. R (f x) u) e h.0)
  | inr d ↦ (let r = zip_back R f xs ws z h.1 d in (r.0, contains_later x r.0 xs r.1, r.2))
]

-- from the first list on to the second
pub zip_on : {X Y Z : Type 0} (R : Y → Z → Type 0) (P : Z → Type 0) (f : X → Y) (xs : List X) (zs : List Z) (x : X)
    → AllZip R (map f xs) zs → AllByRecursion P zs → Contains xs x → (z : Z) × R (f x) z × P z
zip_on R P f [] zs x h a c = absurd (contains_none x c)
zip_on R P f (y ∷ ys) [] x h a c = absurd h
zip_on R P f (y ∷ ys) (w ∷ ws) x h a c = elim (contains_cases y x ys c) [
  | inl e ↦ (w, subst (λ u. R (f u) w) e h.0, a.0)
  | inr d ↦ zip_on R P f ys ws x h.1 a.1 d
]

pub zip_made : {X Y Z : Type 0} (R : Y → Z → Type 0) (f : X → Y) (xs : List X) → ((x : X) → (z : Z) × R (f x) z) → (zs : List Z) × AllZip R (map f xs) zs
zip_made R f [] make = ([], tt)
zip_made R f (x ∷ xs) make = let r = make x in let rest = zip_made R f xs make in (r.0 ∷ rest.0, (r.1, rest.1))

-- a list with an item has one that is best by a total order
pub best_of : {X : Type 0} (R : X → X → Type 0) → ((x : X) → R x x) → ((x y z : X) → R x y → R y z → R x z) → ((x y : X) → R x y ⊎ R y x)
    → (xs : List X) → 1 ≤ length xs → (b : X) × Contains xs b × AllByRecursion (λ x. R b x) xs
best_of R itself trans either [] h = absurd (omega arith)
best_of R itself trans either (x ∷ []) h = (x, contains_first x [], (itself x, tt))
best_of R itself trans either (x ∷ y ∷ ys) h =
    let r = best_of R itself trans either (y ∷ ys) (omega arith) in
    elim (either x r.0) [
      | inl first ↦ (x, contains_first x (y ∷ ys), (itself x, all_weaker (λ z. R r.0 z) (λ z. R x z) (y ∷ ys) (λ z. trans x r.0 z first) r.2))
      | inr later ↦ (r.0, contains_later x r.0 (y ∷ ys) r.1, (later, r.2))
    ]

pub count_yes : {X : Type 0} (p : X → Bool) (x : X) (xs : List X) → p x ≡ true → count_by p (x ∷ xs) ≡ suc (count_by p xs)
count_yes p x xs e = let s : count_by p (x ∷ xs) ≡ cond {A = ℕ} (p x) 1 0 + count_by p xs = sum_by-cons (λ y. cond (p y) 1 0) x xs
    in let t : cond {A = ℕ} (p x) 1 0 ≡ 1 = ap (λ b. cond {A = ℕ} b 1 0) e in omega arith

pub count_no : {X : Type 0} (p : X → Bool) (x : X) (xs : List X) → p x ≡ false → count_by p (x ∷ xs) ≡ count_by p xs
count_no p x xs e = let s : count_by p (x ∷ xs) ≡ cond {A = ℕ} (p x) 1 0 + count_by p xs = sum_by-cons (λ y. cond (p y) 1 0) x xs
    in let t : cond {A = ℕ} (p x) 1 0 ≡ 0 = ap (λ b. cond {A = ℕ} b 1 0) e in omega arith

-- what passes more is counted more often
pub count_more : {X : Type 0} (p q : X → Bool) (xs : List X) → ((x : X) → p x ≡ true → q x ≡ true) → count_by p xs ≤ count_by q xs
count_more p q [] f = omega arith
count_more p q (x ∷ xs) f = by (count_more p q xs f) (p x) (q x) refl refl
  where
    by : count_by p xs ≤ count_by q xs → (b c : Bool) → p x ≡ b → q x ≡ c → count_by p (x ∷ xs) ≤ count_by q (x ∷ xs)
    by h true true e d = omega (arith, count_yes p x xs e, count_yes q x xs d)
    by h true false e d = absurd (true≢false (sym (f x e) ∙ d))
    by h false true e d = omega (arith, count_no p x xs e, count_yes q x xs d)
    by h false false e d = omega (arith, count_no p x xs e, count_no q x xs d)

pub all_from : {X : Type 0} (P : X → Type 0) (xs : List X) (d : X) → ((i : ℕ) → i < length xs → P (slice_index_or xs i d)) → AllByRecursion P xs
all_from P [] d h = tt
all_from P (x ∷ xs) d h = (h 0 (omega arith), all_from P xs d (λ i l. h (suc i) (omega arith)))

pub all_map : {X Y : Type 0} (P : Y → Type 0) (f : X → Y) (xs : List X) → ((x : X) → P (f x)) → AllByRecursion P (map f xs)
all_map P f [] h = tt
all_map P f (x ∷ xs) h = (h x, all_map P f xs h)

-- a list from the second of two, place by place
pub zip_from : {X Y : Type 0} (R : Y → X → Type 0) (P : X → Type 0) (f : X → Y) (ps : List X) → AllByRecursion P ps → ((p : X) → P p → R (f p) p)
    → AllZip R (map f ps) ps
zip_from R P f [] h make = tt
zip_from R P f (p ∷ ps) h make = (make p h.0, zip_from R P f ps h.1 make)
