-- The parts of a label, and what they are read as.
use Rattle.std.proofs.Common.{◌≡◌, ℕ, suc, ◌+◌, ◌<◌, ◌≤◌, Bool, true, false, cond, ◌&&◌, ◌||◌, ◌==◌, List, [], ◌∷◌, ◌++◌, length, drop, get_or, Option, Some}
use Rattle.std.proofs.Common.{None, refl, sym, ap, ◌∙◌, append_assoc, append-nil, arith, Ordering, Less, Equal, Greater}
use Rattle.std.specs.List.{list_all, list_any, AllByRecursion}
use Rattle.std.specs.List.Sorted.{IsSorted, IsPermutation}
use Rattle.std.specs.Ordering.{is_lt, is_gt, is_eq}
use Rattle.std.specs.Str.{bytes_eq}
use Rattle.std.specs.Global.{Vec}
use Rattle.std.proofs.Math.Bool.{and-true, or-false, and-false}
use Rattle.std.proofs.Math.Seq.{drop-cons}
use Rattle.std.proofs.Math.ListN.{drop_of_length-le}
use Rattle.std.proofs.lemmas.Bool.{eq-eqb, ne_eqb}
use Rattle.std.proofs.lemmas.List.{get_or-map, length-map, map-append}
use Rattle.std.proofs.lemmas.Cmp.{nat_list_cmp_total, nat_list_eq_equiv, upto}
use Rattle.std.proofs.lemmas.Map.Lookups.{exact_bytes}
use Rattle.std.proofs.lemmas.List.Sorted.{sum_by-IsPermutation, IsPermutation-map}
use Rattle.text.specs.Text.{with_first, is_name}
use Rattle.systems.specs.Label.{parts_of, reading_of_parts, multi_action_of, multiset, with_name, bytes_cmp, tau, texts}
use Rattle.systems.proofs.Ordered.{IsRising, times, rising_unique, rising_from_sorted, times_is_sum, turned_test}

-- a front before the first part
abbrev pub glued : List ℕ → List (List ℕ) → List (List ℕ)
glued front [] = front ∷ []
glued front (part ∷ parts) = (front ++ part) ∷ parts

parts_some : (bytes : List ℕ) → (part : List ℕ) × (parts : List (List ℕ)) × (parts_of bytes ≡ part ∷ parts)
parts_some [] = ([], [], refl)
parts_some (b ∷ bytes) =
    let (part, parts, e) = parts_some bytes in
    elim (b == 124) as (λ t. (part : List ℕ) × (parts : List (List ℕ)) × (cond t ([] ∷ parts_of bytes) (with_first b (parts_of bytes)) ≡ part ∷ parts)) [
      | true ↦ ([], parts_of bytes, refl)
      | false ↦ (b ∷ part, parts, ap (with_first b) e)
    ]

pub glued_none : (bytes : List ℕ) → glued [] (parts_of bytes) ≡ parts_of bytes
glued_none bytes = let (part, parts, e) = parts_some bytes in ap (glued []) e ∙ sym e

glued_bar : (front : List ℕ) (b : ℕ) (rest : List ℕ) → b ≡ 124 → glued front (parts_of (b ∷ rest)) ≡ front ∷ glued [] (parts_of rest)
glued_bar front b rest e = rw (eq-eqb b 124 e, append-nil front, glued_none rest) refl

glued_byte : (front : List ℕ) (b : ℕ) (rest : List ℕ) → (b ≡ 124 → ⊥) → glued front (parts_of (b ∷ rest)) ≡ glued (front ++ b ∷ []) (parts_of rest)
glued_byte front b rest ne =
    let (part, parts, e) = parts_some rest in
    rw (ne_eqb b 124 ne) (ap (λ p. glued front (with_first b p)) e ∙ ap (λ l. l ∷ parts) (sym (append_assoc front (b ∷ []) part))
    ∙ ap (glued (front ++ b ∷ [])) (sym e))

-- a bar ends a part
pub part_ends : (bytes : List ℕ) (i : ℕ) (done : List (List ℕ)) (part : List ℕ) → i < length bytes → get_or bytes i 0 ≡ 124
    → parts_of bytes ≡ done ++ glued part (parts_of (drop i bytes))
    → parts_of bytes ≡ (done ++ part ∷ []) ++ glued [] (parts_of (drop (i + 1) bytes))
part_ends bytes i done part below bar so =
    let next : i + 1 ≡ suc i = omega arith in
    rw next (so ∙ ap (λ l. done ++ glued part (parts_of l)) (drop-cons bytes i 0 below)
    ∙ ap (λ l. done ++ l) (glued_bar part (get_or bytes i 0) (drop (suc i) bytes) bar)
    ∙ sym (append_assoc done (part ∷ []) (glued [] (parts_of (drop (suc i) bytes)))))

-- any other byte goes on with it
pub part_grows : (bytes : List ℕ) (i : ℕ) (done : List (List ℕ)) (part : List ℕ) → i < length bytes → (get_or bytes i 0 ≡ 124 → ⊥)
    → parts_of bytes ≡ done ++ glued part (parts_of (drop i bytes))
    → parts_of bytes ≡ done ++ glued (part ++ get_or bytes i 0 ∷ []) (parts_of (drop (i + 1) bytes))
part_grows bytes i done part below other so =
    let next : i + 1 ≡ suc i = omega arith in
    rw next (so ∙ ap (λ l. done ++ glued part (parts_of l)) (drop-cons bytes i 0 below)
    ∙ ap (λ l. done ++ l) (glued_byte part (get_or bytes i 0) (drop (suc i) bytes) other))

-- the last part ends with the bytes
pub parts_end : (bytes : List ℕ) (i : ℕ) (parts new : List (Vec ℕ)) (part : Vec ℕ) → length bytes ≤ i
    → parts_of bytes ≡ texts parts ++ glued part.items (parts_of (drop i bytes)) → new ≡ parts ++ part ∷ [] → texts new ≡ parts_of bytes
parts_end bytes i parts new part past so pushed =
    ap texts pushed ∙ map-append (λ (v : Vec ℕ). v.items) parts (part ∷ [])
    ∙ sym (so ∙ ap (λ l. texts parts ++ glued part.items (parts_of l)) (drop_of_length-le bytes past) ∙ ap (λ l. texts parts ++ l ∷ []) (append-nil part.items))

-- ---- the order of names

all_with : (P : List ℕ → Type 0) (name : List ℕ) (names : List (List ℕ)) → P name → AllByRecursion P names → AllByRecursion P (with_name name names)
all_with P name [] one all = (one, tt)
all_with P name (other ∷ names) one all =
    elim (is_gt (bytes_cmp name other)) as (λ t. AllByRecursion P (cond t (other ∷ with_name name names) (name ∷ other ∷ names))) [
      | true ↦ (all.0, all_with P name names one all.1)
      | false ↦ (one, (all.0, all.1))
    ]

all_past : (name other : List ℕ) (names : List (List ℕ)) → is_gt (bytes_cmp name other) ≡ false
    → AllByRecursion (λ y. is_lt (bytes_cmp y other) ≡ false) names → AllByRecursion (λ y. is_lt (bytes_cmp y name) ≡ false) names
all_past name other [] low all = tt
all_past name other (y ∷ names) low all = (
  turned_test nat_list_cmp_total name y ∙ upto nat_list_cmp_total name other y low (sym (turned_test nat_list_cmp_total other y) ∙ all.0),
  all_past name other names low all.1,
)

rising_with : (name : List ℕ) (names : List (List ℕ)) → IsRising bytes_cmp names → IsRising bytes_cmp (with_name name names)
rising_with name [] up = (tt, tt)
rising_with name (other ∷ names) up =
    elim (is_gt (bytes_cmp name other)) as (λ t. is_gt (bytes_cmp name other) ≡ t
    → IsRising bytes_cmp (cond t (other ∷ with_name name names) (name ∷ other ∷ names))) [
      | true ↦ λ e. (all_with (λ y. is_lt (bytes_cmp y other) ≡ false) name names (above_not_below (bytes_cmp name other) e) up.0, rising_with name names up.1)
      | false ↦ λ e. ((turned_test nat_list_cmp_total name other ∙ e, all_past name other names e up.0), up)
    ] refl
  where
    above_not_below : (o : Ordering) → is_gt o ≡ true → is_lt o ≡ false
    above_not_below Less e = absurd cc
    above_not_below Equal e = refl
    above_not_below Greater e = refl

times_with : (z name : List ℕ) (names : List (List ℕ)) → times bytes_cmp z (with_name name names) ≡ times bytes_cmp z (name ∷ names)
times_with z name [] = refl
times_with z name (other ∷ names) =
    elim (is_gt (bytes_cmp name other)) as (λ t. times bytes_cmp z (cond t (other ∷ with_name name names) (name ∷ other ∷ names))
    ≡ times bytes_cmp z (name ∷ other ∷ names)) [
      | true ↦ omega (arith, times_with z name names)
      | false ↦ refl
    ]

rising_multiset : (names : List (List ℕ)) → IsRising bytes_cmp (multiset names)
rising_multiset [] = tt
rising_multiset (name ∷ names) = rising_with name (multiset names) (rising_multiset names)

times_multiset : (z : List ℕ) (names : List (List ℕ)) → times bytes_cmp z (multiset names) ≡ times bytes_cmp z names
times_multiset z [] = refl
times_multiset z (name ∷ names) = times_with z name (multiset names) ∙ (omega (arith, times_multiset z names))

-- names that were sorted are the multiset of what they were
pub sorted_multiset : (old new : List (List ℕ)) → IsPermutation old new → IsSorted bytes_cmp new → new ≡ multiset old
sorted_multiset old new moved up =
    rising_unique nat_list_cmp_total exact_bytes new (multiset old) (rising_from_sorted nat_list_cmp_total new up) (rising_multiset old)
    (λ z. times_is_sum bytes_cmp z new ∙ sum_by-IsPermutation (λ y. cond (is_eq (bytes_cmp z y)) 1 0) old new moved ∙ sym (times_is_sum bytes_cmp z old)
    ∙ sym (times_multiset z old))

-- ---- what parts are read as

all_texts : (p : List ℕ → Bool) (parts : List (Vec ℕ)) → list_all (λ part. p part.items) parts ≡ list_all p (texts parts)
all_texts p [] = refl
all_texts p (x ∷ parts) = ap (λ b. p x.items && b) (all_texts p parts)

any_texts : (p : List ℕ → Bool) (parts : List (Vec ℕ)) → list_any (λ part. p part.items) parts ≡ list_any p (texts parts)
any_texts p [] = refl
any_texts p (x ∷ parts) = ap (λ b. p x.items || b) (any_texts p parts)

-- one of the parts is no name
no_names : (parts : List (List ℕ)) → list_all is_name parts ≡ false → reading_of_parts parts ≡ None
no_names [] h = refl
no_names (name ∷ []) h = let one : is_name name ≡ false = sym (and-true (is_name name)) ∙ h in rw one refl
no_names (name ∷ other ∷ names) h = rw h refl

-- `tau` is alone
only_tau : (parts : List (List ℕ)) → list_all is_name parts ≡ true → list_any (bytes_eq tau) parts ≡ true → length parts ≡ 1 → reading_of_parts parts ≡ Some []
only_tau [] h t one = absurd cc
only_tau (name ∷ other ∷ names) h t one = absurd (omega arith)
only_tau (name ∷ []) h t one =
    let named : is_name name ≡ true = sym (and-true (is_name name)) ∙ h in
    let is_tau : bytes_eq name tau ≡ true = nat_list_eq_equiv.symm name tau ∙ sym (or-false (bytes_eq tau name)) ∙ t in
    rw (named, is_tau) refl

-- `tau` is not alone
more_than_tau : (parts : List (List ℕ)) → list_any (bytes_eq tau) parts ≡ true → (length parts ≡ 1 → ⊥) → reading_of_parts parts ≡ None
more_than_tau [] t more = refl
more_than_tau (name ∷ []) t more = absurd (more refl)
more_than_tau (name ∷ other ∷ names) t more = rw (t, and-false (list_all is_name (name ∷ other ∷ names))) refl

-- only names, and none of them `tau`
all_names : (parts : List (List ℕ)) → 0 < length parts → list_all is_name parts ≡ true → list_any (bytes_eq tau) parts ≡ false
    → reading_of_parts parts ≡ Some (multiset parts)
all_names [] some h t = absurd (omega arith)
all_names (name ∷ []) some h t =
    let named : is_name name ≡ true = sym (and-true (is_name name)) ∙ h in
    let no_tau : bytes_eq name tau ≡ false = nat_list_eq_equiv.symm name tau ∙ sym (or-false (bytes_eq tau name)) ∙ t in
    rw (named, no_tau) refl
all_names (name ∷ other ∷ names) some h t = rw (h, t) refl

abbrev pub nothing : Option (List (List ℕ))
nothing = None

abbrev pub the_names : List (List ℕ) → Option (List (List ℕ))
the_names names = Some names

sorted_texts : (parts : List (Vec ℕ)) → IsSorted (λ (x y : Vec ℕ). bytes_cmp x.items y.items) parts → IsSorted bytes_cmp (texts parts)
sorted_texts [] up = λ k d low high. absurd (omega arith)
sorted_texts (part ∷ parts) up = λ k d low high.
    let all = part ∷ parts in
    let items : Vec ℕ → List ℕ = λ (v : Vec ℕ). v.items in
    let inside : k + 1 < length all = omega (arith, length-map all items) in
    let first : get_or (texts all) (k + 1) d ≡ (get_or all (k + 1) part).items = get_or-map items all (k + 1) part d inside in
    let second : get_or (texts all) k d ≡ (get_or all k part).items = get_or-map items all k part d (omega arith) in
    rw (first, second) (up k part low inside)

-- the four ways in which parts are read
pub read_no_names : (bytes : List ℕ) (parts : List (Vec ℕ)) (r : Bool) → texts parts ≡ parts_of bytes → r ≡ list_all (λ part. is_name part.items) parts
    → r ≡ false → nothing ≡ multi_action_of bytes
read_no_names bytes parts r cut is none = sym (ap reading_of_parts (sym cut) ∙ no_names (texts parts) (sym (all_texts is_name parts) ∙ sym is ∙ none))

pub read_only_tau : (bytes : List ℕ) (parts : List (Vec ℕ)) (r t : Bool) → texts parts ≡ parts_of bytes → r ≡ list_all (λ part. is_name part.items) parts
    → r ≡ true → t ≡ list_any (λ part. bytes_eq tau part.items) parts → t ≡ true
    → length parts ≡ 1 → the_names [] ≡ multi_action_of bytes
read_only_tau bytes parts r t cut is all has found one =
    sym (ap reading_of_parts (sym cut) ∙ only_tau (texts parts) (sym (all_texts is_name parts) ∙ sym is ∙ all)
    (sym (any_texts (bytes_eq tau) parts) ∙ sym has ∙ found) (length-map parts (λ (v : Vec ℕ). v.items) ∙ one))

pub read_more_than_tau : (bytes : List ℕ) (parts : List (Vec ℕ)) (t : Bool) → texts parts ≡ parts_of bytes
    → t ≡ list_any (λ part. bytes_eq tau part.items) parts → t ≡ true → (length parts ≡ 1 → ⊥) → nothing ≡ multi_action_of bytes
read_more_than_tau bytes parts t cut has found more =
    sym (ap reading_of_parts (sym cut) ∙ more_than_tau (texts parts) (sym (any_texts (bytes_eq tau) parts) ∙ sym has ∙ found)
    (λ e. more (sym (length-map parts (λ (v : Vec ℕ). v.items)) ∙ e)))

pub read_all_names : (bytes : List ℕ) (parts sorted : List (Vec ℕ)) (r t : Bool) → texts parts ≡ parts_of bytes
    → r ≡ list_all (λ part. is_name part.items) parts → r ≡ true → t ≡ list_any (λ part. bytes_eq tau part.items) parts → t ≡ false
    → IsPermutation parts sorted → IsSorted (λ (x y : Vec ℕ). bytes_cmp x.items y.items) sorted → the_names (texts sorted) ≡ multi_action_of bytes
read_all_names bytes parts sorted r t cut is all has none moved up =
    let (part, more, e) = parts_some bytes in
    let some : 0 < length (texts parts) = omega (arith, ap length cut, ap length e) in
    let names = all_names (texts parts) some (sym (all_texts is_name parts) ∙ sym is ∙ all) (sym (any_texts (bytes_eq tau) parts) ∙ sym has ∙ none) in
    let same : texts sorted ≡ multiset (texts parts) = sorted_multiset (texts parts) (texts sorted)
    (IsPermutation-map (λ (v : Vec ℕ). v.items) parts sorted moved) (sorted_texts sorted up) in
    ap the_names same ∙ sym (ap reading_of_parts (sym cut) ∙ names)
