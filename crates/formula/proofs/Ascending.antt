-- A multiset of names is an ascending list, and an ascending list is its own multiset.
use Rattle.std.proofs.Common.{◌≡◌, ℕ, Bool, true, false, List, [], ◌∷◌, refl, ap, ◌∙◌}
use Rattle.std.specs.Prelude.{if◌then◌else◌}
use Rattle.std.specs.List.{AllByRecursion}
use Rattle.std.specs.declared.cmp.Ordering.{Ordering}
use Rattle.std.specs.declared.cmp.Ordering.TheVariants.{Less, Equal, Greater}
use Rattle.std.specs.Ordering.{is_gt, ordering_reverse}
use Rattle.std.proofs.lemmas.Cmp.{nat_list_cmp_total}
use Rattle.systems.specs.Label.{bytes_cmp, with_name, multiset}

abbrev is_after : List ℕ → List ℕ → Bool
is_after x y = is_gt (bytes_cmp x y)

reversed : (o : Ordering) → is_gt o ≡ true → is_gt (ordering_reverse o) ≡ false
reversed Less h = cc
reversed Equal h = refl
reversed Greater h = refl

before : (x y : List ℕ) → is_after x y ≡ true → is_after y x ≡ false
before x y h = ap is_gt (nat_list_cmp_total.antisymm y x) ∙ reversed (bytes_cmp x y) h

abbrev AreOrdered : List (List ℕ) → Type 0
AreOrdered [] = Unit {0}
AreOrdered (x ∷ []) = Unit {0}
AreOrdered (x ∷ y ∷ names) = (is_after x y ≡ false) × AreOrdered (y ∷ names)

-- a name in its place among ordered ones, after one that it comes after
placed_after : (y x : List ℕ) (names : List (List ℕ)) → is_after y x ≡ false → AreOrdered (y ∷ names) → AreOrdered (with_name x names)
    → AreOrdered (y ∷ with_name x names)
placed_after y x [] h o w = (h, tt)
placed_after y x (z ∷ names) h o w =
    elim (is_after x z) as (λ b. AreOrdered (if b then z ∷ with_name x names else x ∷ z ∷ names)
    → AreOrdered (y ∷ (if b then z ∷ with_name x names else x ∷ z ∷ names))) [
      | true ↦ λ w. (o.0, w)
      | false ↦ λ w. (h, w)
    ] w

with_name_ordered : (x : List ℕ) (names : List (List ℕ)) → AreOrdered names → AreOrdered (with_name x names)
with_name_ordered x [] o = tt
with_name_ordered x (y ∷ names) o =
    let w = with_name_ordered x names (tail y names o) in
    elim (is_after x y) as (λ b. is_after x y ≡ b → AreOrdered (if b then y ∷ with_name x names else x ∷ y ∷ names)) [
      | true ↦ λ e. placed_after y x names (before x y e) o w
      | false ↦ λ e. (e, o)
    ] refl
  where
    tail : (y : List ℕ) (names : List (List ℕ)) → AreOrdered (y ∷ names) → AreOrdered names
    tail y [] o = tt
    tail y (z ∷ names) o = o.1

multiset_ordered : (names : List (List ℕ)) → AreOrdered (multiset names)
multiset_ordered [] = tt
multiset_ordered (x ∷ names) = with_name_ordered x (multiset names) (multiset_ordered names)

ordered_multiset : (names : List (List ℕ)) → AreOrdered names → multiset names ≡ names
ordered_multiset [] o = refl
ordered_multiset (x ∷ []) o = refl
ordered_multiset (x ∷ y ∷ names) o =
    ap (with_name x) (ordered_multiset (y ∷ names) o.1) ∙ ap (λ b. if b then y ∷ with_name x names else x ∷ y ∷ names) o.0

pub multiset_again : (names : List (List ℕ)) → multiset (multiset names) ≡ multiset names
multiset_again names = ordered_multiset (multiset names) (multiset_ordered names)

with_name_all : (P : List ℕ → Type 0) (x : List ℕ) (names : List (List ℕ)) → P x → AllByRecursion P names → AllByRecursion P (with_name x names)
with_name_all P x [] h all = (h, tt)
with_name_all P x (y ∷ names) h all =
    elim (is_after x y) as (λ b. AllByRecursion P (if b then y ∷ with_name x names else x ∷ y ∷ names)) [
      | true ↦ (all.0, with_name_all P x names h all.1)
      | false ↦ (h, all)
    ]

pub multiset_all : (P : List ℕ → Type 0) (names : List (List ℕ)) → AllByRecursion P names → AllByRecursion P (multiset names)
multiset_all P [] all = tt
multiset_all P (x ∷ names) all = with_name_all P x (multiset names) all.0 (multiset_all P names all.1)
