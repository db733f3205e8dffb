-- Labels that are added keep the arrows of the transitions so far.
use Rattle.std.proofs.Common.{◌≡◌, ℕ, ◌<◌, List, [], ◌∷◌, ◌++◌, length, map, get_or, true, refl, sym, ap, ◌∙◌}
use Rattle.std.proofs.Common.{arith}
use Rattle.std.specs.Prelude.{nat_eq}
use Rattle.std.specs.List.{Contains, AllByRecursion}
use Rattle.std.specs.Global.{Vec}
use Rattle.std.specs.Cmp.Lexicographic.{pointwise}
use Rattle.std.proofs.lemmas.List.{get_or_append_left, get_or-map, length-map, length-append, map-append}
use Rattle.std.proofs.lemmas.List.Elements.{Contains-append_left, Contains-append_right}
use Rattle.std.proofs.lemmas.Slice.Eq.{bytes_eq-Decides}
use Rattle.systems.specs.System.{Arrow}
use Rattle.systems.specs.Numbered.{label_at, arrow_of, AreLabelsOf}
use Rattle.systems.specs.declared.system.Transition.{Transition}
use Rattle.systems.specs.Label.{texts}
use Rattle.lts.specs.Gathered.{HasLabel, Extends, Gathers}

-- the piece of this number is the label
pub label_here : (pieces : List (Vec ℕ)) (label : List ℕ) (i : ℕ) (piece : Vec ℕ) (bytes : List ℕ) → i < length pieces → piece ≡ get_or pieces i piece
    → bytes ≡ piece.items → pointwise nat_eq bytes label ≡ true → HasLabel (texts pieces) i label
label_here pieces label i piece bytes within there is alike = record {
  within = omega (arith, length-map pieces (λ (v : Vec ℕ). v.items), within);
  is = get_or-map (λ (v : Vec ℕ). v.items) pieces i piece [] within ∙ ap (λ (v : Vec ℕ). v.items) (sym there) ∙ sym is ∙ (bytes_eq-Decides bytes label).0 alike;
}

pub all_append : {X : Type 0} (P : X → Type 0) (xs ys : List X) → AllByRecursion P xs → AllByRecursion P ys → AllByRecursion P (xs ++ ys)
all_append P [] ys p q = q
all_append P (x ∷ xs) ys p q = (p.0, all_append P xs ys p.1 q)

abbrev label_of : Arrow → List ℕ
label_of a = a.label

label_kept : (old more : List (List ℕ)) (k : ℕ) → k < length old → label_at (old ++ more) k ≡ label_at old k
label_kept old more k h = get_or_append_left old more [] k h

arrows_kept : (old more : List (List ℕ)) (ts : List Transition) → AllByRecursion (λ t. t.label < length old) ts
    → map (arrow_of (old ++ more)) ts ≡ map (arrow_of old) ts
arrows_kept old more [] all = refl
arrows_kept old more (t ∷ ts) all =
    let same = label_kept old more t.label all.0 in
    λ i. record { source = t.source; label = same i; target = t.target } ∷ arrows_kept old more ts all.1 i

inside_kept : (old more : List (List ℕ)) (ts : List Transition) → AllByRecursion (λ t. t.label < length old) ts
    → AllByRecursion (λ t. t.label < length (old ++ more)) ts
inside_kept old more [] all = tt
inside_kept old more (t ∷ ts) all = (omega (arith, length-append old more, all.0), inside_kept old more ts all.1)

-- the labels of the arrows so far are still labels of arrows
used_kept : (arrows : List Arrow) (a : Arrow) (labels : List (List ℕ)) → AreLabelsOf arrows labels → AreLabelsOf (arrows ++ a ∷ []) labels
used_kept arrows a [] used = tt
used_kept arrows a (l ∷ labels) used = (
  rw (map-append label_of arrows (a ∷ [])) (Contains-append_left (map label_of arrows) (a.label ∷ []) l used.0),
  used_kept arrows a labels used.1,
)

-- so are those that are the last one's
used_last : (arrows : List Arrow) (a : Arrow) (labels : List (List ℕ)) → AllByRecursion (λ l. l ≡ a.label) labels → AreLabelsOf (arrows ++ a ∷ []) labels
used_last arrows a [] only = tt
used_last arrows a (l ∷ labels) only = (
  rw (map-append label_of arrows (a ∷ [])) (Contains-append_right (map label_of arrows) (a.label ∷ []) l (0, omega arith, sym only.0)),
  used_last arrows a labels only.1,
)

-- one more transition
pub gathers_more : (old new : List (List ℕ)) (ts : List Transition) (arrows : List Arrow) (s k t : ℕ) (label : List ℕ) → Extends old new label
    → HasLabel new k label → Gathers old ts arrows
    → Gathers new (ts ++ record { source = s; label = k; target = t } ∷ []) (arrows ++ record { source = s; label = label; target = t } ∷ [])
gathers_more old new ts arrows s k t label grown numbered so_far =
    let last : Transition = record { source = s; label = k; target = t } in
    let arrow : Arrow = record { source = s; label = label; target = t } in
    let kept : map (arrow_of new) ts ≡ arrows = rw grown.is (arrows_kept old grown.more ts so_far.inside) ∙ so_far.spelled in
    record {
      spelled = map-append (arrow_of new) ts (last ∷ []) ∙ (λ i. kept i ++ record { source = s; label = numbered.is i; target = t } ∷ []);
      inside = all_append (λ (t : Transition). t.label < length new) ts (last ∷ []) (rw grown.is (inside_kept old grown.more ts so_far.inside))
          (numbered.within, tt);
      used = rw grown.is (all_append (Contains (map label_of (arrows ++ arrow ∷ []))) old grown.more (used_kept arrows arrow old so_far.used)
          (used_last arrows arrow grown.more grown.only));
    }
