-- Marks, and the numbers that are marked.
use Rattle.std.proofs.Common.{◌≡◌, ◌≢◌, ℕ, zero, suc, ◌+◌, ◌<◌, ◌≤◌, ◌==◌, ◌&&◌, ◌||◌, ◌⊎◌, Bool, true, false, cond, not, List, [], ◌∷◌, length}
use Rattle.std.proofs.Common.{filter, count_by, replicate, refl, sym, ◌∙◌, ap, subst, inl, inr, arith, true≢false, Contains, slice_index_or}
use Rattle.std.proofs.Common.{slice_set}
use Rattle.std.specs.Prelude.{nat_lt}
use Rattle.std.proofs.lemmas.Bool.{cases_eq, ne_eqb, ltb-true, lt-ltb, cases_lt}
use Rattle.std.proofs.lemmas.List.{get_or-set_other, get_or-set_same, get_or_past, get_or-replicate, length-set, length-replicate}
use Rattle.std.specs.List.{list_any, range_with_len}
use Rattle.game.specs.NumberSet.{with_number}
use Rattle.measures.proofs.Lists.{contains_cases, contains_first, contains_later, contains_none, count_no, count_yes}
use Rattle.liftcore.specs.Core.{without}
use Rattle.liftcore.specs.Marks.{IsMarked, members}
use Rattle.liftcore.specs.Work.{AreOwed}
use Rattle.liftcore.proofs.Sets.{cases, eqb_same, gives_any, gives_filter, gives_range, same_eqb}

-- ---- filters of ranges

filter_same : (p q : ℕ → Bool) (a n : ℕ) → ((x : ℕ) → a ≤ x → p x ≡ q x) → filter p (range_with_len a n) ≡ filter q (range_with_len a n)
filter_same p q a zero h = refl
filter_same p q a (suc n) h =
    ap (λ b. cond b (a ∷ filter p (range_with_len (a + 1) n)) (filter p (range_with_len (a + 1) n))) (h a (omega arith))
    ∙ ap (λ xs. cond (q a) (a ∷ xs) xs) (filter_same p q (a + 1) n (λ x l. h x (omega arith)))

filter_within : (p q : ℕ → Bool) (a n : ℕ) → ((x : ℕ) → a ≤ x → x < a + n → p x ≡ q x) → filter p (range_with_len a n) ≡ filter q (range_with_len a n)
filter_within p q a zero h = refl
filter_within p q a (suc n) h =
    ap (λ b. cond b (a ∷ filter p (range_with_len (a + 1) n)) (filter p (range_with_len (a + 1) n))) (h a (omega arith) (omega arith))
    ∙ ap (λ xs. cond (q a) (a ∷ xs) xs) (filter_within p q (a + 1) n (λ x l k. h x (omega arith) (omega arith)))

-- what a test of a list found is in it
any_has : (v : ℕ) (xs : List ℕ) → list_any (λ t. t == v) xs ≡ true → Contains xs v
any_has v [] e = absurd (true≢false (sym e))
any_has v (x ∷ xs) e = elim (cases (x == v)) [
  | inl q ↦ subst (λ z. Contains (x ∷ xs) z) (eqb_same x v q) (contains_first x xs)
  | inr q ↦ contains_later x v xs (any_has v xs (ap (λ b. b || list_any (λ t. t == v) xs) (sym q) ∙ e))
]

-- what is first goes first
with_first : (p : ℕ → Bool) (v a n : ℕ) → v < a → with_number v (filter p (range_with_len a n)) ≡ v ∷ filter p (range_with_len a n)
with_first p v a zero h = refl
with_first p v a (suc n) h = elim (cases (p a)) [
  | inl e ↦ (let l = lt-ltb v a h in rw (e, l) refl)
  | inr e ↦ rw e (with_first p v (a + 1) n (omega arith))
]

nat_lt_no : (a b : ℕ) → b ≤ a → nat_lt a b ≡ false
nat_lt_no a b h = elim (cases (nat_lt a b)) [ inl e ↦ absurd (let l = ltb-true a b e in omega arith) | inr e ↦ e ]

-- one more number that passes
with_passing : (p q : ℕ → Bool) (v a n : ℕ) → a ≤ v → v < a + n → q v ≡ true → ((x : ℕ) → x ≢ v → q x ≡ p x)
    → filter q (range_with_len a n) ≡ with_number v (filter p (range_with_len a n))
with_passing p q v a zero h l here other = absurd (omega arith)
with_passing p q v a (suc n) h l here other = elim (cases_eq a v) [
  | inl e ↦ first e
  | inr e ↦ (
      let rest = with_passing p q v (a + 1) n (omega arith) (omega arith) here other in
      let same = other a e in
      let below = nat_lt_no v a h in
      let apart = ne_eqb v a (λ r. e (sym r)) in
      elim (cases (p a)) [
        | inl t ↦ rw (same, t, rest) (rw (below, apart) refl)
        | inr t ↦ rw (same, t) rest
      ]
      )
]
  where
    first : a ≡ v → filter q (range_with_len a (suc n)) ≡ with_number v (filter p (range_with_len a (suc n)))
    first e =
        let now : q a ≡ true = ap q e ∙ here in
        let after = filter_same q p (a + 1) n (λ x k. other x (λ r. omega arith)) in
        let below = nat_lt_no v a (omega arith) in
        let same = same_eqb v a (sym e) in
        elim (cases (p a)) [
          | inl t ↦ rw (now, t, after) (rw (below, same) refl)
          | inr t ↦ rw (now, t, after) (ap (λ x. x ∷ filter p (range_with_len (a + 1) n)) e ∙ sym (with_first p v (a + 1) n (omega arith)))
        ]

filter_twice : (p q : ℕ → Bool) (xs : List ℕ) → filter q (filter p xs) ≡ filter (λ x. p x && q x) xs
filter_twice p q [] = refl
filter_twice p q (x ∷ xs) = elim (cases (p x)) [
  | inl t ↦ rw t (ap (λ ys. cond (q x) (x ∷ ys) ys) (filter_twice p q xs))
  | inr t ↦ rw t (filter_twice p q xs)
]

-- ---- marks

pub insert_members : (marks : List Bool) (v : ℕ) → v < length marks → members (slice_set marks v true) ≡ with_number v (members marks)
insert_members marks v h =
    ap (λ n. filter (λ x. slice_index_or (slice_set marks v true) x false) (range_with_len 0 n)) (length-set marks v true)
    ∙ with_passing (λ x. slice_index_or marks x false) (λ x. slice_index_or (slice_set marks v true) x false) v 0 (length marks) (omega arith) (omega arith)
    (get_or-set_same marks v true false h)
    (λ x n. get_or-set_other marks v x true false n)

and_no : (b : Bool) → (b && not true) ≡ false
and_no true = refl
and_no false = refl

and_yes : (b : Bool) → (b && not false) ≡ b
and_yes true = refl
and_yes false = refl

pub remove_members : (marks : List Bool) (v : ℕ) → v < length marks → members (slice_set marks v false) ≡ without v (members marks)
remove_members marks v h =
    ap (λ n. filter (λ x. slice_index_or (slice_set marks v false) x false) (range_with_len 0 n)) (length-set marks v false)
    ∙ filter_same (λ x. slice_index_or (slice_set marks v false) x false) (λ x. slice_index_or marks x false && not (x == v)) 0 (length marks) (λ x l. at x)
    ∙ sym (filter_twice (λ x. slice_index_or marks x false) (λ x. not (x == v)) (range_with_len 0 (length marks)))
  where
    at : (x : ℕ) → slice_index_or (slice_set marks v false) x false ≡ (slice_index_or marks x false && not (x == v))
    at x = elim (cases_eq x v) [
      | inl e ↦ (
          let same = same_eqb x v e in
          let now : slice_index_or (slice_set marks v false) x false ≡ false = ap (λ k. slice_index_or (slice_set marks v false) k false) e
          ∙ get_or-set_same marks v false false h in
          rw (now, same) (sym (and_no (slice_index_or marks x false)))
          )
      | inr e ↦ (let apart = ne_eqb x v e in rw apart (get_or-set_other marks v x false false e ∙ sym (and_yes (slice_index_or marks x false))))
    ]

passes : (p : ℕ → Bool) (xs : List ℕ) (v : ℕ) → Contains (filter p xs) v → p v ≡ true
passes p [] v h = absurd (contains_none v h)
passes p (x ∷ xs) v h = elim (cases (p x)) [
  | inl t ↦ elim (contains_cases x v (filter p xs) (rw t at h)) [ inl e ↦ subst (λ z. p z ≡ true) e t | inr k ↦ passes p xs v k ]
  | inr t ↦ passes p xs v (rw t at h)
]

pub member_marked : (marks : List Bool) (v : ℕ) → Contains (members marks) v → IsMarked marks v
member_marked marks v h = passes (λ x. slice_index_or marks x false) (range_with_len 0 (length marks)) v h

pub marked_member : (marks : List Bool) (v : ℕ) → IsMarked marks v → Contains (members marks) v
marked_member marks v h =
    gives_filter (λ x. slice_index_or marks x false) (range_with_len 0 (length marks)) v (gives_range 0 (length marks) v (omega arith) inside) h
  where
    inside : v < 0 + length marks
    inside = elim (cases (nat_lt v (length marks))) [
      | inl e ↦ (let l = ltb-true v (length marks) e in omega arith)
      | inr e ↦ absurd (true≢false (sym h ∙ get_or_past marks v false
          (elim (cases_lt v (length marks)) [ inl l ↦ absurd (true≢false (sym (lt-ltb v (length marks) l) ∙ e)) | inr l ↦ l ])))
    ]

-- ---- how many there are

none_counted : (marks : List Bool) (v : ℕ) → count_by (λ b. b) marks ≡ 0 → slice_index_or marks v false ≡ false
none_counted [] v e = refl
none_counted (true ∷ bs) v e = absurd (omega (arith, count_yes (λ (b : Bool). b) true bs refl))
none_counted (false ∷ bs) zero e = refl
none_counted (false ∷ bs) (suc v) e = none_counted bs v (omega (arith, count_no (λ (b : Bool). b) false bs refl))

some_counted : (marks : List Bool) → (count_by (λ b. b) marks ≡ 0) ⊎ ((v : ℕ) × IsMarked marks v)
some_counted [] = inl refl
some_counted (true ∷ bs) = inr (0, refl)
some_counted (false ∷ bs) = elim (some_counted bs) [ inl e ↦ inl (count_no (λ (b : Bool). b) false bs refl ∙ e) | inr w ↦ inr (suc w.0, w.1) ]

filter_none : (xs : List ℕ) → filter (λ x. false) xs ≡ []
filter_none [] = refl
filter_none (x ∷ xs) = filter_none xs

pub no_members : (marks : List Bool) → count_by (λ b. b) marks ≡ 0 → members marks ≡ []
no_members marks e =
    filter_same (λ x. slice_index_or marks x false) (λ x. false) 0 (length marks) (λ x l. none_counted marks x e)
    ∙ filter_none (range_with_len 0 (length marks))

pub members_none : (marks : List Bool) → members marks ≡ [] → count_by (λ b. b) marks ≡ 0
members_none marks e = elim (some_counted marks) [
  | inl n ↦ n
  | inr w ↦ absurd (contains_none w.0 (subst (λ (xs : List ℕ). Contains xs w.0) e (marked_member marks w.0 w.1)))
]

-- none of any number
pub none_members : (n : ℕ) → members (replicate n false) ≡ []
none_members n = no_members (replicate n false) (counted n)
  where
    counted : (n : ℕ) → count_by (λ b. b) (replicate n false) ≡ 0
    counted zero = refl
    counted (suc n) = count_no (λ (b : Bool). b) false (replicate n false) refl ∙ counted n

-- where there are no members nothing is marked
pub unmarked : (marks : List Bool) (v : ℕ) → members marks ≡ [] → slice_index_or marks v false ≡ false
unmarked marks v e = none_counted marks v (members_none marks e)

-- the marks of the predecessors are those of no other
pub owed_members : (p : ℕ → Bool) (n : ℕ) (owed : List Bool) → length owed ≡ n → AreOwed (filter p (range_with_len 0 n)) owed
    → members owed ≡ filter p (range_with_len 0 n)
owed_members p n owed long are =
    ap (λ n. filter (λ v. slice_index_or owed v false) (range_with_len 0 n)) long
    ∙ filter_within (λ v. slice_index_or owed v false) p 0 n (λ v l h. are v ∙ at v h)
  where
    at : (v : ℕ) → v < 0 + n → list_any (λ t. t == v) (filter p (range_with_len 0 n)) ≡ p v
    at v h = elim (cases (p v)) [
      | inl e ↦ gives_any (λ t. t == v) (filter p (range_with_len 0 n)) v (gives_filter p (range_with_len 0 n) v (gives_range 0 n v (omega arith) h) e)
          (same_eqb v v refl) ∙ sym e
      | inr e ↦ elim (cases (list_any (λ t. t == v) (filter p (range_with_len 0 n)))) [
        | inl i ↦ absurd (true≢false (sym (passes p (range_with_len 0 n) v (any_has v (filter p (range_with_len 0 n)) i)) ∙ e))
        | inr i ↦ i ∙ sym e
      ]
    ]

filter_all : (xs : List ℕ) → filter (λ x. true) xs ≡ xs
filter_all [] = refl
filter_all (x ∷ xs) = ap (λ ys. x ∷ ys) (filter_all xs)

-- all of so many
pub all_members : (n : ℕ) → members (replicate n true) ≡ range_with_len 0 n
all_members n =
    ap (λ k. filter (λ v. slice_index_or (replicate n true) v false) (range_with_len 0 k)) (length-replicate n true)
    ∙ (filter_within (λ v. slice_index_or (replicate n true) v false) (λ x. true) 0 n (λ v l h. get_or-replicate n v true false (omega (arith, h)))
    ∙ filter_all (range_with_len 0 n))
