-- What is noted one after the other is the first of what is asked for.
use Rattle.std.proofs.Common.{◌≡◌, ◌+◌, ◌<◌, ◌≤◌, ℕ, Bool, true, false, cond, not, ltb, ◌&&◌, ◌||◌, List, [], ◌∷◌, ◌++◌, length, filter, fold, take, refl}
use Rattle.std.proofs.Common.{sym, ap, ◌∙◌, arith}
use Rattle.std.proofs.lemmas.Bool.{false≢true, ltb-false, ltb-true}
use Rattle.std.proofs.lemmas.List.{append-nil, append_assoc, length-append, take_all, take_at}
use Rattle.std.proofs.lemmas.List.Elements.{filter_agree}
use Rattle.std.proofs.lemmas.List.Folds.{list_any-append}
use Rattle.std.proofs.lemmas.Slice.Eq.{bytes_eq-Decides}
use Rattle.std.specs.List.{list_any}
use Rattle.systems.specs.Numbered.{Numbered}
use Rattle.calculus.specs.Tree.{Formula}
use Rattle.formula.specs.declared.strange.TheConstants.{MOST_NOTES}
use Rattle.formula.specs.Strange.{NameOrAtom, Name, Atom, distinct, formula_terms, same_term, strange_terms}
use Rattle.formula.specs.Noted.{is_known, with_term}

-- ------------------------------------------------------------------ filters

filter_every : (ts : List NameOrAtom) → filter (λ t. true) ts ≡ ts
filter_every [] = refl
filter_every (t ∷ ts) = ap (λ us. t ∷ us) (filter_every ts)

filter_twice : (p q : NameOrAtom → Bool) (ts : List NameOrAtom) → filter p (filter q ts) ≡ filter (λ t. p t && q t) ts
filter_twice p q [] = refl
filter_twice p q (t ∷ ts) = outer (q t) (filter q ts) ∙ ap (λ us. cond (q t) (cond (p t) (t ∷ us) us) us) (filter_twice p q ts)
    ∙ both (q t) (p t) (filter (λ u. p u && q u) ts)
  where
    outer : (b : Bool) (us : List NameOrAtom) → filter p (cond b (t ∷ us) us) ≡ cond b (cond (p t) (t ∷ filter p us) (filter p us)) (filter p us)
    outer true us = refl
    outer false us = refl

    both : (b c : Bool) (us : List NameOrAtom) → cond b (cond c (t ∷ us) us) us ≡ cond (c && b) (t ∷ us) us
    both true true us = refl
    both true false us = refl
    both false true us = refl
    both false false us = refl

-- ------------------------------------------------------------------ what is new

abbrev is_new : List NameOrAtom → NameOrAtom → Bool
is_new found t = not (list_any (same_term t) found)

same : (t u : NameOrAtom) → same_term t u ≡ true → t ≡ u
same (Name a) (Name b) e = ap Name ((bytes_eq-Decides a b).0 e)
same (Atom a) (Atom b) e = ap Atom ((bytes_eq-Decides a b).0 e)
same (Name a) (Atom b) e = absurd (false≢true e)
same (Atom a) (Name b) e = absurd (false≢true e)

-- Beside one more nothing is new that is the same.
new_beside : (found : List NameOrAtom) (t other : NameOrAtom) → is_new (found ++ t ∷ []) other ≡ (is_new found other && not (same_term other t))
new_beside found t other = ap not (list_any-append (same_term other) found (t ∷ [])) ∙ neither (list_any (same_term other) found) (same_term other t)
  where
    neither : (a b : Bool) → not (a || (b || false)) ≡ (not a && not b)
    neither true b = refl
    neither false true = refl
    neither false false = refl

-- What is the same as one that isn't new isn't new either.
new_beside_old : (found : List NameOrAtom) (t other : NameOrAtom) → is_new found t ≡ false → is_new found other ≡ (is_new found other && not (same_term other t))
new_beside_old found t other old = here (same_term other t) refl
  where
    kept : (b : Bool) → b ≡ (b && true)
    kept true = refl
    kept false = refl

    here : (b : Bool) → same_term other t ≡ b → is_new found other ≡ (is_new found other && not (same_term other t))
    here false e = rw e (kept (is_new found other))
    here true e = rw (ap (is_new found) (same other t e) ∙ old) refl

-- ------------------------------------------------------------------ one after the other

-- those found, and the first of the others that are neither known nor among them
abbrev noted : (NameOrAtom → Bool) → List NameOrAtom → List NameOrAtom → List NameOrAtom
noted known found ts = take MOST_NOTES (found ++ filter (is_new found) (distinct (filter (λ t. not (known t)) ts)))

abbrev unknown_of : (NameOrAtom → Bool) → List NameOrAtom → List NameOrAtom
unknown_of known ts = filter (λ t. not (known t)) ts

abbrev others_of : NameOrAtom → List NameOrAtom → List NameOrAtom
others_of t us = filter (λ other. not (same_term other t)) us

unknown_first : (known : NameOrAtom → Bool) (found : List NameOrAtom) (t : NameOrAtom) (ts : List NameOrAtom) (b : Bool) → not (known t) ≡ true → is_new found t ≡ b
    → filter (is_new found) (distinct (unknown_of known (t ∷ ts)))
    ≡ cond b (t ∷ filter (is_new found) (others_of t (distinct (unknown_of known ts)))) (filter (is_new found) (others_of t (distinct (unknown_of known ts))))
unknown_first known found t ts b strange new =
    let us = filter (is_new found) (others_of t (distinct (unknown_of known ts))) in
    ap (λ d. filter (is_new found) (distinct (cond d (t ∷ unknown_of known ts) (unknown_of known ts)))) strange ∙ ap (λ d. cond d (t ∷ us) us) new

known_first : (known : NameOrAtom → Bool) (found : List NameOrAtom) (t : NameOrAtom) (ts : List NameOrAtom) → not (known t) ≡ false
    → filter (is_new found) (distinct (unknown_of known (t ∷ ts))) ≡ filter (is_new found) (distinct (unknown_of known ts))
known_first known found t ts strange = ap (λ d. filter (is_new found) (distinct (cond d (t ∷ unknown_of known ts) (unknown_of known ts)))) strange

-- one more, by whether there is room, it is new, and it isn't known
after : (known : NameOrAtom → Bool) (found : List NameOrAtom) (t : NameOrAtom) (a b c : Bool) → ltb (length found) MOST_NOTES ≡ a → is_new found t ≡ b → not (known t) ≡ c
    → with_term known found t ≡ cond (a && b && c) (found ++ t ∷ []) found
after known found t a b c room new strange = rw (room, new, strange) refl

noted_one : (known : NameOrAtom → Bool) (found : List NameOrAtom) (t : NameOrAtom) (ts : List NameOrAtom) → length found ≤ MOST_NOTES
    → ((old : List NameOrAtom) → length old ≤ MOST_NOTES → fold (with_term known) old ts ≡ noted known old ts)
    → (a b c : Bool) → ltb (length found) MOST_NOTES ≡ a → is_new found t ≡ b → not (known t) ≡ c
    → fold (with_term known) found (t ∷ ts) ≡ noted known found (t ∷ ts)
noted_one known found t ts within rest false b c room new strange =
    let full : length found ≡ MOST_NOTES = omega (arith, within, ltb-false (length found) MOST_NOTES room) in
    ap (λ old. fold (with_term known) old ts) (after known found t false b c room new strange)
    ∙ rest found within ∙ take_at found (filter (is_new found) (distinct (unknown_of known ts))) MOST_NOTES full
    ∙ sym (take_at found (filter (is_new found) (distinct (unknown_of known (t ∷ ts)))) MOST_NOTES full)
noted_one known found t ts within rest true true true room new strange =
    let us = distinct (unknown_of known ts) in
    ap (λ old. fold (with_term known) old ts) (after known found t true true true room new strange)
    ∙ rest (found ++ t ∷ []) (omega (arith, length-append found (t ∷ []), ltb-true (length found) MOST_NOTES room))
    ∙ ap (take MOST_NOTES) (append_assoc found (t ∷ []) (filter (is_new (found ++ t ∷ [])) us)
    ∙ ap (λ others. found ++ t ∷ others) (filter_agree (is_new (found ++ t ∷ [])) (λ other. is_new found other && not (same_term other t))
    (new_beside found t) us
    ∙ sym (filter_twice (is_new found) (λ other. not (same_term other t)) us)))
    ∙ ap (λ others. take MOST_NOTES (found ++ others)) (sym (unknown_first known found t ts true strange new))
noted_one known found t ts within rest true false true room new strange =
    let us = distinct (unknown_of known ts) in
    ap (λ old. fold (with_term known) old ts) (after known found t true false true room new strange)
    ∙ rest found within
    ∙ ap (λ others. take MOST_NOTES (found ++ others)) (filter_agree (is_new found) (λ other. is_new found other && not (same_term other t))
    (λ other. new_beside_old found t other new) us
    ∙ sym (filter_twice (is_new found) (λ other. not (same_term other t)) us) ∙ sym (unknown_first known found t ts false strange new))
noted_one known found t ts within rest true true false room new strange =
    ap (λ old. fold (with_term known) old ts) (after known found t true true false room new strange)
    ∙ rest found within ∙ ap (λ others. take MOST_NOTES (found ++ others)) (sym (known_first known found t ts strange))
noted_one known found t ts within rest true false false room new strange =
    ap (λ old. fold (with_term known) old ts) (after known found t true false false room new strange)
    ∙ rest found within ∙ ap (λ others. take MOST_NOTES (found ++ others)) (sym (known_first known found t ts strange))

noted_all : (known : NameOrAtom → Bool) (found ts : List NameOrAtom) → length found ≤ MOST_NOTES → fold (with_term known) found ts ≡ noted known found ts
noted_all known found [] within = sym (ap (take MOST_NOTES) (append-nil found) ∙ take_all MOST_NOTES found within)
noted_all known found (t ∷ ts) within = noted_one known found t ts within (λ old short. noted_all known old ts short) _ _ _ refl refl refl

-- What is noted of a formula, where what is known is what a label has.
pub noted_strange : (known : NameOrAtom → Bool) (l : Numbered) (f : Formula) (found : List NameOrAtom) → ((t : NameOrAtom) → known t ≡ is_known l.labels t)
    → found ≡ fold (with_term known) [] (formula_terms f) → found ≡ strange_terms l f
noted_strange known l f found as_labels e =
    e ∙ noted_all known [] (formula_terms f) (omega arith)
    ∙ ap (take MOST_NOTES) (filter_every _ ∙ ap distinct (filter_agree _ _ (λ t. ap not (as_labels t)) (formula_terms f)))
