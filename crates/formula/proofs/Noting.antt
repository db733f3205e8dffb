-- Noting the words of a formula that no label has.
use Rattle.std.proofs.Common.{◌≡◌, ◌+◌, ◌<◌, ℕ, suc, Bool, true, false, not, cond, ◌&&◌, ◌||◌, List, [], ◌∷◌, ◌++◌, Option, Some, None, length, map, fold}
use Rattle.std.proofs.Common.{option_map, take, get_or, nat_lt, Vec, Global, Bor, refl, sym, ap, ap₂, ◌∙◌, arith}
use Rattle.std.proofs.Math.Seq.{take-suc}
use Rattle.std.proofs.lemmas.List.{length-map, map-append}
use Rattle.std.proofs.lemmas.List.Folds.{list_any-append}
use Rattle.std.proofs.lemmas.List.Sums.{fold-append}
use Rattle.std.specs.List.{list_any}
use Rattle.std.specs.Str.{bytes_eq}
use Rattle.systems.specs.Label.{multi_action_of, texts}
use Rattle.systems.specs.Numbered.{label_at}
use Rattle.formula.specs.declared.strange.Word.{Word}
use Rattle.formula.specs.declared.strange.TheConstants.{MOST_NOTES}
use Rattle.formula.specs.Strange.{NameOrAtom, Name, has_term, is_among, same_term, name_or_atom}
use Rattle.formula.specs.Noted.{is_known, with_term}

-- ------------------------------------------------------------------ lists

pub any_map : {X Y : Type 0} (f : X → Y) (p : Y → Bool) (xs : List X) → list_any p (map f xs) ≡ list_any (λ x. p (f x)) xs
any_map f p [] = refl
any_map f p (x ∷ xs) = ap (λ b. p (f x) || b) (any_map f p xs)

take_one : {X : Type 0} (xs : List X) (i : ℕ) (d : X) → i < length xs → take (i + 1) xs ≡ take i xs ++ get_or xs i d ∷ []
take_one xs i d below = let next : i + 1 ≡ suc i = omega arith in rw next (take-suc xs i d below)

texts_more : (names : List (Vec ℕ Global)) (i : ℕ) (name : Vec ℕ Global) (bytes : List ℕ) → i < length names → name ≡ get_or names i name
    → bytes ≡ name.items → texts (take (i + 1) names) ≡ texts (take i names) ++ bytes ∷ []
texts_more names i name bytes below at same =
    ap texts (take_one names i name below) ∙ map-append (λ (v : Vec ℕ Global). v.items) (take i names) (get_or names i name ∷ [])
    ∙ ap (λ b. texts (take i names) ++ b ∷ []) (sym (same ∙ ap (λ (v : Vec ℕ Global). v.items) at))

or_false : (b : Bool) → (b || false) ≡ b
or_false true = refl
or_false false = refl

-- ------------------------------------------------------------------ one word

-- a word is to be noted
abbrev pub is_noted : (NameOrAtom → Bool) → List Word → Word → Bool
is_noted known found word = nat_lt (length found) MOST_NOTES && not (list_any (λ other. same_term (name_or_atom word) (name_or_atom other)) found)
    && not (known (name_or_atom word))

with_word : (known : NameOrAtom → Bool) (found : List Word) (word : Word)
    → with_term known (map name_or_atom found) (name_or_atom word) ≡ cond (is_noted known found word) (map name_or_atom found ++ name_or_atom word ∷ []) (map name_or_atom found)
with_word known found word =
    let t = name_or_atom word in
    let e : (nat_lt (length (map name_or_atom found)) MOST_NOTES && not (list_any (same_term t) (map name_or_atom found)) && not (known t)) ≡ is_noted known found word =
    rw (length-map found name_or_atom, any_map name_or_atom (same_term t) found) refl in
    ap (λ b. cond b (map name_or_atom found ++ t ∷ []) (map name_or_atom found)) e

pub word_noted : (known : NameOrAtom → Bool) (found new : List Word) (word : Word) (b : Bool) → b ≡ is_noted known found word → b ≡ true → new ≡ found ++ word ∷ []
    → map name_or_atom new ≡ with_term known (map name_or_atom found) (name_or_atom word)
word_noted known found new word b is holds pushed =
    let e : is_noted known found word ≡ true = sym is ∙ holds in
    ap (map name_or_atom) pushed ∙ map-append name_or_atom found (word ∷ [])
    ∙ sym (with_word known found word ∙ ap (λ b. cond b (map name_or_atom found ++ name_or_atom word ∷ []) (map name_or_atom found)) e)

pub word_left : (known : NameOrAtom → Bool) (found : List Word) (word : Word) (b : Bool) → b ≡ is_noted known found word → b ≡ false
    → map name_or_atom found ≡ with_term known (map name_or_atom found) (name_or_atom word)
word_left known found word b is fails =
    let e : is_noted known found word ≡ false = sym is ∙ fails in
    sym (with_word known found word ∙ ap (λ b. cond b (map name_or_atom found ++ name_or_atom word ∷ []) (map name_or_atom found)) e)

-- ------------------------------------------------------------------ names one by one

pub names_more : (known : NameOrAtom → Bool) (first old new : List NameOrAtom) (names : List (Vec ℕ Global)) (i : ℕ) (name : Vec ℕ Global) (bytes : List ℕ)
    → i < length names → name ≡ get_or names i name → bytes ≡ name.items
    → old ≡ fold (with_term known) first (map Name (texts (take i names))) → new ≡ with_term known old (Name bytes)
    → new ≡ fold (with_term known) first (map Name (texts (take (i + 1) names)))
names_more known first old new names i name bytes below at same so one =
    let cut = texts_more names i name bytes below at same in
    one ∙ ap (λ f. with_term known f (Name bytes)) so
    ∙ sym (ap (λ l. fold (with_term known) first (map Name l)) cut ∙ ap (fold (with_term known) first) (map-append Name (texts (take i names)) (bytes ∷ []))
    ∙ fold-append (with_term known) first (map Name (texts (take i names))) (Name bytes ∷ []))

pub set_more : (before old new : Bool) (bytes : List ℕ) (names : List (Vec ℕ Global)) (i : ℕ) (name : Vec ℕ Global) (key : List ℕ)
    → i < length names → name ≡ get_or names i name → key ≡ name.items
    → old ≡ (before || list_any (λ n. bytes_eq n bytes) (texts (take i names))) → new ≡ cond (bytes_eq key bytes) true old
    → new ≡ (before || list_any (λ n. bytes_eq n bytes) (texts (take (i + 1) names)))
set_more before old new bytes names i name key below at same so one =
    let p : List ℕ → Bool = λ n. bytes_eq n bytes in
    let done = list_any p (texts (take i names)) in
    let cut = texts_more names i name key below at same in
    one ∙ ap (cond (p key) true) so ∙ joined before done (p key)
    ∙ sym (ap (λ l. before || list_any p l) cut ∙ ap (λ b. before || b) (list_any-append p (texts (take i names)) (key ∷ [])))
  where
    joined : (a b c : Bool) → cond c true (a || b) ≡ (a || (b || (c || false)))
    joined true true true = refl
    joined true true false = refl
    joined true false true = refl
    joined true false false = refl
    joined false true true = refl
    joined false true false = refl
    joined false false true = refl
    joined false false false = refl

-- ------------------------------------------------------------------ labels one by one

pub or_cond : (a c : Bool) → cond c true a ≡ (a || c)
or_cond true true = refl
or_cond true false = refl
or_cond false true = refl
or_cond false false = refl

pub names_read : (old new : Bool) (bytes label : List ℕ) (names : Option (Bor (List (Vec ℕ Global)))) (r : Bor (List (Vec ℕ Global)))
    → option_map (λ (n : Bor (List (Vec ℕ Global))). texts n.now) names ≡ multi_action_of label → names ≡ Some r
    → new ≡ (old || list_any (λ n. bytes_eq n bytes) (texts r.now)) → new ≡ (old || is_among bytes (multi_action_of label))
names_read old new bytes label names r read some so =
    so ∙ ap (λ o. old || is_among bytes o) (sym (ap (option_map (λ (n : Bor (List (Vec ℕ Global))). texts n.now)) some) ∙ read)

pub no_names_read : (old : Bool) (bytes label : List ℕ) (names : Option (Bor (List (Vec ℕ Global))))
    → option_map (λ (n : Bor (List (Vec ℕ Global))). texts n.now) names ≡ multi_action_of label → names ≡ None → old ≡ (old || is_among bytes (multi_action_of label))
no_names_read old bytes label names read none =
    sym (or_false old) ∙ ap (λ o. old || is_among bytes o) (sym (ap (option_map (λ (n : Bor (List (Vec ℕ Global))). texts n.now)) none) ∙ read)

pub known_more : (labels : List (List ℕ)) (i : ℕ) (t : NameOrAtom) (old new : Bool) (label : List ℕ) → i < length labels → label ≡ label_at labels i
    → old ≡ is_known (take i labels) t
    → new ≡ (old || has_term t label) → new ≡ is_known (take (i + 1) labels) t
known_more labels i t old new label below at so one =
    one ∙ ap₂ (λ a b. a || has_term t b) so at
    ∙ sym (ap (list_any (has_term t)) (take_one labels i [] below) ∙ list_any-append (has_term t) (take i labels) (label_at labels i ∷ [])
    ∙ ap (λ b. is_known (take i labels) t || b) (or_false (has_term t (label_at labels i))))
