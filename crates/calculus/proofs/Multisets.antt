-- Names compared, whatever their order.
use Rattle.std.proofs.Common.{◌≡◌, ℕ, ◌==◌, ◌&&◌, List, [], ◌∷◌, length, Bool, true, refl, sym, ap, ◌∙◌}
use Rattle.std.specs.List.{list_all}
use Rattle.std.specs.Global.{Vec}
use Rattle.std.specs.Str.{bytes_eq}
use Rattle.std.specs.Cmp.Derive.Mapped.{pointwise-map}
use Rattle.std.proofs.lemmas.Bool.{eq-eqb}
use Rattle.std.proofs.lemmas.List.{length-map}
use Rattle.std.proofs.lemmas.List.Folds.{list_all-map}
use Rattle.std.proofs.lemmas.Slice.Eq.{bytes_eq-Decides, slice_eq-Decides}
use lib.Pointwise.{pointwise}
use Rattle.systems.specs.Label.{texts}
use Rattle.calculus.specs.Holds.{is_same_multiset, times_named}

abbrev bytes_of : Vec ℕ → List ℕ
bytes_of name = name.items

all_true : {X : Type 0} (p : X → Bool) → ((x : X) → p x ≡ true) → (xs : List X) → list_all p xs ≡ true
all_true p h [] = refl
all_true p h (x ∷ xs) = rw (h x) (all_true p h xs)

itself : (names : List (List ℕ)) → is_same_multiset names names ≡ true
itself names = rw (eq-eqb (length names) (length names) refl)
    (all_true (λ name. times_named name names == times_named name names) (λ name. eq-eqb (times_named name names) (times_named name names) refl) names)

-- equal, name by name
pub same_names : (read names : List (Vec ℕ)) (r : Bool) → r ≡ pointwise (λ x y. bytes_eq x.items y.items) read names → r ≡ true
    → r ≡ is_same_multiset (texts read) (texts names)
same_names read names r is equal =
    let same : texts read ≡ texts names = (slice_eq-Decides bytes_eq-Decides (texts read) (texts names) r
    (is ∙ sym (pointwise-map bytes_of bytes_eq read names))).0 equal in
    equal ∙ sym (itself (texts names)) ∙ ap (λ l. is_same_multiset l (texts names)) (sym same)

-- as many, and each as often
pub as_often : (read names : List (Vec ℕ)) (r : Bool) → length read ≡ length names
    → r ≡ list_all (λ (name : Vec ℕ). times_named name.items (texts read) == times_named name.items (texts names)) names → r ≡ is_same_multiset (texts read) (texts names)
as_often read names r long often =
    let long' = eq-eqb (length (texts read)) (length (texts names)) (length-map read bytes_of ∙ long ∙ sym (length-map names bytes_of)) in
    let often' = often ∙ sym (list_all-map (λ name. times_named name (texts read) == times_named name (texts names)) bytes_of names) in
    often' ∙ ap (λ b. b && list_all (λ name. times_named name (texts read) == times_named name (texts names)) (texts names)) (sym long')
