-- Values that are proposed, as numbers have them.
use Rattle.measures.proofs.Common.{◌≡◌, ◌≢◌, ◌↔◌, ◌∙◌, ◌+◌, ◌-◌, ◌/◌, ◌<◌, ◌≤◌, ℕ, Bool, true, false, true≢false, IsTrue, MatchBool, List, drop, drop_all, length, take, ap, ap₂, arith, refl, subst, sym, get_or}
use Rattle.measures.proofs.Common.{get_or_from_slice_get, option_map, slice_get-map, suc, zero, Counts, Equal, Game, Greater, IsAtMost, IsBelow, Less, Measure, Ordering, Reaches, Top, components, is_odd, kept, measure_cmp, nat_cmp, if◌then◌else◌}
use Rattle.measures.proofs.Components.{kept_is}
use Rattle.std.specs.Prelude.{Some, min, slice_get}
use Rattle.std.specs.Cmp.Lexicographic.{slice_cmp}
use Rattle.std.specs.Ordering.{is_ne, ordering_then}
use Rattle.std.proofs.lemmas.List.{at_drop_more, take-map, take_min}
use Rattle.measures.specs.declared.field.CountField.{CountField}
use Rattle.measures.specs.declared.proposal.PlayerLayout.{PlayerLayout}
use Rattle.measures.specs.Measure.{cut, digit_of}
use Rattle.measures.specs.StoredProposal.{count_in, counts_in, value_said}
use Rattle.measures.specs.declared.value.ProposedValue.{ProposedValue}

-- ------------------------------------------------------------------ counts, one field after the other

then_ne : (r s : Ordering) → is_ne r ≡ true → ordering_then r s ≡ r
then_ne Less s h = refl
then_ne Equal s h = absurd (true≢false (sym h))
then_ne Greater s h = refl

then_eq : (r s : Ordering) → is_ne r ≡ false → ordering_then r s ≡ s
then_eq Less s h = absurd (true≢false h)
then_eq Equal s h = refl
then_eq Greater s h = absurd (true≢false h)

module _ (fields : List CountField) (n m : ℕ) where
  abbrev compared : List CountField → Ordering
  compared xs = slice_cmp nat_cmp (counts_in xs n) (counts_in xs m)

  -- the fields before this one have the same of both numbers
  module _ (i : ℕ) (none : CountField) (here : i < length fields) (so : compared fields ≡ compared (drop i fields)) (r : Ordering)
      (is : r ≡ nat_cmp (count_in (get_or fields i none) n) (count_in (get_or fields i none) m)) where
    next : compared fields ≡ ordering_then r (compared (drop (i + 1) fields))
    next = so ∙ (at_drop_more compared fields i none here ∙ ap (λ z. ordering_then z (compared (drop (i + 1) fields))) (sym is))

    pub differs : is_ne r ≡ true → r ≡ compared fields
    differs h = sym (next ∙ then_ne r (compared (drop (i + 1) fields)) h)

    pub agrees : is_ne r ≡ false → compared fields ≡ compared (drop (i + 1) fields)
    agrees h = next ∙ then_eq r (compared (drop (i + 1) fields)) h

  pub all_agree : (i : ℕ) → length fields ≤ i → compared fields ≡ compared (drop i fields) → Equal ≡ compared fields
  all_agree i past so = sym (so ∙ ap compared (drop_all i fields past))

-- ------------------------------------------------------------------ the first counts of a value

said : (x : ProposedValue) (fields : List CountField) → x.layout.now.fields.items ≡ fields → x.is_top ≡ false → value_said x ≡ Counts (counts_in fields x.number)
said x fields same counted = ap (λ b. if b then Top else Counts (counts_in x.layout.now.fields.items x.number)) counted ∙ ap (λ fs. Counts (counts_in fs x.number)) same

pub top_said : (x : ProposedValue) → x.is_top ≡ true → value_said x ≡ Top
top_said x is = ap (λ b. if b then Top else Counts (counts_in x.layout.now.fields.items x.number)) is

-- a digit that counts is what its field has
pub digit_said : (x : ProposedValue) (digit : ℕ) (field : CountField) → digit ≢ 0 → x.is_top ≡ false
    → slice_get x.layout.now.fields.items (digit - 1) ≡ Some field → count_in field x.number ≡ digit_of (value_said x) digit
digit_said x zero field some counted at = absurd (some refl)
digit_said x (suc k) field some counted at =
    let fields = x.layout.now.fields.items in
    let count = λ (f : CountField). count_in f x.number in
    let one : k ≡ suc k - 1 = omega arith in
    let here : slice_get fields k ≡ Some field = ap (slice_get fields) one ∙ at in
    sym (ap (λ m. digit_of m (suc k)) (said x fields refl counted)
    ∙ get_or_from_slice_get (counts_in fields x.number) k (count field) 0 (slice_get-map count fields k ∙ ap (option_map count) here))

first_in : (fields : List CountField) (k n : ℕ) → counts_in (take (min k (length fields)) fields) n ≡ take k (counts_in fields n)
first_in fields k n = ap (λ fs. counts_in fs n) (take_min k fields) ∙ sym (take-map (λ (f : CountField). count_in f n) k fields)

pub first_compared : (x y : ProposedValue) (k : ℕ) (first : List CountField) → x.layout.now ≡ y.layout.now → x.is_top ≡ false → y.is_top ≡ false
    → first ≡ take (min k (length x.layout.now.fields.items)) x.layout.now.fields.items → (r : Ordering)
    → r ≡ slice_cmp nat_cmp (counts_in first x.number) (counts_in first y.number) → r ≡ measure_cmp (cut k (value_said x)) (cut k (value_said y))
first_compared x y k first same counted other is r compared =
    let fields = x.layout.now.fields.items in
    let begun = λ (n : ℕ). ap (λ fs. counts_in fs n) is ∙ first_in fields k n in
    compared ∙ (ap₂ (slice_cmp nat_cmp) (begun x.number) (begun y.number)
    ∙ ap₂ (λ m n. measure_cmp (cut k m) (cut k n)) (sym (said x fields refl counted))
    (sym (said y fields (ap (λ (layout : PlayerLayout). layout.fields.items) (sym same)) other)))

-- ------------------------------------------------------------------ a value that reaches another

module _ (g : Game) (p k w : ℕ) (keeps : k ≡ w - p / 2) (wide : length (components g) ≡ w) (b : Bool) where
  kept_here : k ≡ kept g p
  kept_here = let e = kept_is g p in omega arith

  abbrev Reached : ℕ → Measure → Measure → Type 0
  Reached n next own = MatchBool (is_odd p) (IsBelow (cut n next) (cut n own)) (IsAtMost (cut n next) (cut n own))

  neither : (o : Bool) → MatchBool o (IsTrue false) (IsTrue false) → ⊥
  neither true h = true≢false (sym h)
  neither false h = true≢false (sym h)

  as_cut : (next own : Measure) → own ≢ Top → (IsTrue b ↔ Reached (kept g p) next own) → IsTrue b ↔ Reaches g p next own
  as_cut m Top never h = absurd (never refl)
  as_cut Top (Counts d) never h = (λ so. neither (is_odd p) (h.0 so), λ none. absurd none)
  as_cut (Counts c) (Counts d) never h = h

  pub reaches_by : (next own : Measure) → own ≢ Top → (IsTrue b ↔ Reached k next own) → IsTrue b ↔ Reaches g p next own
  reaches_by next own never h = as_cut next own never (subst (λ n. IsTrue b ↔ Reached n next own) kept_here h)

pub not_top : (x : ProposedValue) → x.is_top ≡ false → value_said x ≢ Top
not_top x h e = let q : Counts (counts_in x.layout.now.fields.items x.number) ≡ Top = sym (said x x.layout.now.fields.items refl h) ∙ e in absurd cc
