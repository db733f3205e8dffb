-- Identifiers, and the lines on which they stand.
use Rattle.std.proofs.Common.{◌≡◌, ◌≢◌, ℕ, zero, suc, ◌+◌, ◌<◌, ◌≤◌, ◌⊎◌, inl, inr, true, false, cond, ◌==◌, List, [], ◌∷◌, ◌++◌, length, map, Some, refl}
use Rattle.std.proofs.Common.{sym, ap, ◌∙◌, subst, arith}
use Rattle.std.specs.Prelude.{slice_get, AllPairs}
use Rattle.std.proofs.lemmas.Bool.{eqb-true, eqb-false}
use Rattle.std.proofs.lemmas.List.{length-map}
use Rattle.systems.proofs.Ordered.{Has, Contains-from_Has}
use Rattle.pgsolver.specs.Spelling.{VertexLine}

-- ---- numbers that are all different are no more than there are below a bound

-- no number stands twice
abbrev pub AreApart : List ℕ → Type 0
AreApart [] = Unit {0}
AreApart (x ∷ xs) = (Has xs x → ⊥) × AreApart xs

without_one : ℕ → List ℕ → List ℕ
without_one m [] = []
without_one m (x ∷ xs) = cond (x == m) xs (x ∷ without_one m xs)

less_has : (m z : ℕ) (xs : List ℕ) → Has (without_one m xs) z → Has xs z
unfolding without_one
less_has m z [] h = h
less_has m z (x ∷ xs) h = elim (x == m) as (λ b. Has (cond b xs (x ∷ without_one m xs)) z → Has (x ∷ xs) z)
    [ true ↦ λ h. inr h | false ↦ λ h. elim h [ inl e ↦ inl e | inr k ↦ inr (less_has m z xs k) ] ] h

less_apart : (m : ℕ) (xs : List ℕ) → AreApart xs → AreApart (without_one m xs)
unfolding without_one
less_apart m [] h = h
less_apart m (x ∷ xs) h = elim (x == m) as (λ b. AreApart (cond b xs (x ∷ without_one m xs)))
    [ true ↦ h.1 | false ↦ (λ k. h.0 (less_has m x xs k), less_apart m xs h.1) ]

less_none : (m : ℕ) (xs : List ℕ) → AreApart xs → Has (without_one m xs) m → ⊥
unfolding without_one
less_none m [] h k = k
less_none m (x ∷ xs) h k =
    elim (x == m) as (λ b. (x == m) ≡ b → Has (cond b xs (x ∷ without_one m xs)) m → ⊥) [
      | true ↦ λ e k. h.0 (subst (Has xs) (sym (eqb-true x m e)) k)
      | false ↦ λ e k. elim k [ inl same ↦ eqb-false x m e same | inr more ↦ less_none m xs h.1 more ]
    ] refl k

less_length : (m : ℕ) (xs : List ℕ) → length xs ≤ length (without_one m xs) + 1
unfolding without_one
less_length m [] = omega arith
less_length m (x ∷ xs) = elim (x == m) as (λ b. length (x ∷ xs) ≤ length (cond b xs (x ∷ without_one m xs)) + 1)
    [ true ↦ omega arith | false ↦ omega (arith, less_length m xs) ]

few_apart : (m : ℕ) (xs : List ℕ) → AreApart xs → ((z : ℕ) → Has xs z → z < m) → length xs ≤ m
few_apart zero [] h below = omega arith
few_apart zero (x ∷ xs) h below = absurd (omega (arith, below x (inl refl)))
few_apart (suc m) xs h below =
    omega (
      arith,
      less_length m xs,
      few_apart m (without_one m xs) (less_apart m xs h) (λ z k.
          let apart : z ≡ m → ⊥ = λ e. less_none m xs h (subst (Has (without_one m xs)) e k) in
          omega (arith, below z (less_has m z xs k), apart)),
    )

has_or_not : (v : ℕ) (xs : List ℕ) → Has xs v ⊎ (Has xs v → ⊥)
has_or_not v [] = inr (λ h. h)
has_or_not v (x ∷ xs) =
    elim (x == v) as (λ b. (x == v) ≡ b → Has (x ∷ xs) v ⊎ (Has (x ∷ xs) v → ⊥)) [
      | true ↦ λ e. inl (inl (eqb-true x v e))
      | false ↦ λ e. elim (has_or_not v xs) [ inl h ↦ inl (inr h) | inr none ↦ inr (λ h. elim h [ inl same ↦ eqb-false x v e same | inr k ↦ none k ]) ]
    ] refl

-- as many as there are below the bound: each of them is there
all_there : (m v : ℕ) (xs : List ℕ) → AreApart xs → ((z : ℕ) → Has xs z → z < m) → length xs ≡ m → v < m → Has xs v
all_there m v xs h below count inside =
    elim (has_or_not v xs) [
      | inl there ↦ there
      | inr none ↦ absurd (omega (arith, count, few_apart m (v ∷ xs) (none, h) (λ z k. elim k [ inl e ↦ subst (λ z. z < m) e inside | inr l ↦ below z l ])))
    ]

-- ---- the identifiers of lines

abbrev pub ids : List VertexLine → List ℕ
ids = map (λ x. x.id)

abbrev pub Differ : List VertexLine → Type 0
Differ spelled = AllPairs (λ x y. x.id ≢ y.id) spelled

pub has_id : (spelled : List VertexLine) (v : ℕ) → Has (ids spelled) v → (x : VertexLine) × Has spelled x × (x.id ≡ v)
has_id [] v h = absurd h
has_id (y ∷ spelled) v (inl e) = (y, inl refl, e)
has_id (y ∷ spelled) v (inr h) = let (x, k, e) = has_id spelled v h in (x, inr k, e)

pub differ_rest : (x : VertexLine) (spelled : List VertexLine) → Differ (x ∷ spelled) → Differ spelled
differ_rest x spelled h = λ i j d less below. h (suc i) (suc j) d (omega arith) (omega arith)

pub differ_first : (x y : VertexLine) (spelled : List VertexLine) → Differ (x ∷ spelled) → Has spelled y → x.id ≡ y.id → ⊥
differ_first x y spelled h there same =
    let (k, below, at) = Contains-from_Has spelled y there in
    h 0 (suc k) y (omega arith) (omega arith) (same ∙ ap (λ (l : VertexLine). l.id) (sym at))

apart_ids : (spelled : List VertexLine) → Differ spelled → AreApart (ids spelled)
apart_ids [] h = tt
apart_ids (x ∷ spelled) h = (
  λ k. let (y, there, same) = has_id spelled x.id k in differ_first x y spelled h there (sym same),
  apart_ids spelled (differ_rest x spelled h),
)

-- one line for each identifier
pub one_line : (spelled : List VertexLine) (x y : VertexLine) → Differ spelled → Has spelled x → Has spelled y → x.id ≡ y.id → x ≡ y
one_line [] x y h p q same = absurd p
one_line (z ∷ spelled) x y h (inl e) (inl f) same = sym e ∙ f
one_line (z ∷ spelled) x y h (inl e) (inr q) same = absurd (differ_first z y spelled h q (ap (λ (l : VertexLine). l.id) e ∙ same))
one_line (z ∷ spelled) x y h (inr p) (inl f) same = absurd (differ_first z x spelled h p (ap (λ (l : VertexLine). l.id) f ∙ sym same))
one_line (z ∷ spelled) x y h (inr p) (inr q) same = one_line spelled x y (differ_rest z spelled h) p q same

below_from : (n : ℕ) (spelled : List VertexLine) → ((x : VertexLine) → Has spelled x → x.id ≤ n) → (z : ℕ) → Has (ids spelled) z → z < n + 1
below_from n spelled within z h = let (x, there, is) = has_id spelled z h in omega (arith, within x there, is)

-- lines with different identifiers up to n are no more than n + 1
pub few_lines : (n : ℕ) (spelled : List VertexLine) → Differ spelled → ((x : VertexLine) → Has spelled x → x.id ≤ n) → length spelled ≤ n + 1
few_lines n spelled h within = omega (
  arith,
  length-map spelled (λ (x : VertexLine). x.id),
  few_apart (n + 1) (ids spelled) (apart_ids spelled h) (below_from n spelled within),
)

-- where there are so many, each identifier has a line
pub each_there : (n v : ℕ) (spelled : List VertexLine) → Differ spelled → ((x : VertexLine) → Has spelled x → x.id ≤ n) → length spelled ≡ n + 1 → v ≤ n → (x : VertexLine)
    × Has spelled x × (x.id ≡ v)
each_there n v spelled h within count inside =
    has_id spelled v (all_there (n + 1) v (ids spelled) (apart_ids spelled h) (below_from n spelled within) (length-map spelled (λ (x : VertexLine). x.id) ∙ count)
    (omega arith))

-- ---- an element by its place

pub has_at : {X : Type 0} (xs : List X) (k : ℕ) (x : X) → slice_get xs k ≡ Some x → Has xs x
has_at [] k x e = absurd cc
has_at (y ∷ xs) zero x e = inl cc
has_at (y ∷ xs) (suc k) x e = inr (has_at xs k x e)

pub has_left : {X : Type 0} (xs ys : List X) (x : X) → Has xs x → Has (xs ++ ys) x
has_left [] ys x h = absurd h
has_left (y ∷ xs) ys x (inl e) = inl e
has_left (y ∷ xs) ys x (inr h) = inr (has_left xs ys x h)

pub has_end : {X : Type 0} (xs : List X) (y x : X) → Has (xs ++ y ∷ []) x → Has xs x ⊎ (y ≡ x)
has_end [] y x (inl e) = inr e
has_end [] y x (inr h) = absurd h
has_end (z ∷ xs) y x (inl e) = inl (inl e)
has_end (z ∷ xs) y x (inr h) = elim (has_end xs y x h) [ inl k ↦ inl (inr k) | inr e ↦ inr e ]

pub at_left : {X : Type 0} (xs : List X) (y x : X) (k : ℕ) → slice_get xs k ≡ Some x → slice_get (xs ++ y ∷ []) k ≡ Some x
at_left [] y x k e = absurd cc
at_left (z ∷ xs) y x zero e = e
at_left (z ∷ xs) y x (suc k) e = at_left xs y x k e

pub at_end : {X : Type 0} (xs : List X) (y : X) → slice_get (xs ++ y ∷ []) (length xs) ≡ Some y
at_end [] y = refl
at_end (z ∷ xs) y = at_end xs y
