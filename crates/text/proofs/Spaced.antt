-- A line that is spaced tokens is so in one way at most.
use Rattle.std.proofs.Common.{◌≡◌, ℕ, ◌⊎◌, Bool, true, false, not, ◌&&◌, ◌||◌, List, [], ◌∷◌, ◌++◌, refl, sym, ap, ◌∙◌, subst, inl, inr, true≢false}
use Rattle.std.proofs.Common.{append_assoc}
use Rattle.std.specs.Prelude.{nat_le, ◌==◌}
use Rattle.std.specs.List.{list_all, list_any}
use Rattle.std.proofs.lemmas.Bool.{eqb-true, and_parts}
use Rattle.std.proofs.lemmas.List.{append_cancel_left}
use Rattle.text.specs.Text.{is_blank, is_digit, is_numeral, IsSpaced}
use Rattle.text.specs.Tokens.{is_other}

abbrev pub begins : (ℕ → Bool) → List ℕ → Bool
begins p [] = false
begins p (b ∷ bs) = p b

tail_same : (x y : ℕ) (xs ys : List ℕ) → x ∷ xs ≡ y ∷ ys → (x ≡ y) × (xs ≡ ys)
tail_same x y xs ys e = (cc, cc)

-- the longest front that passes is one
pub front_same : (p : ℕ → Bool) (xs ys vs ws : List ℕ) → list_all p xs ≡ true → list_all p ys ≡ true → begins p vs ≡ false → begins p ws ≡ false
    → xs ++ vs ≡ ys ++ ws → (xs ≡ ys) × (vs ≡ ws)
front_same p [] [] vs ws x y a b e = (refl, e)
front_same p [] (c ∷ ys) vs ws x y a b e = absurd (true≢false (sym (and_parts (p c) (list_all p ys) y).0 ∙ (sym (ap (begins p) e) ∙ a)))
front_same p (c ∷ xs) [] vs ws x y a b e = absurd (true≢false (sym (and_parts (p c) (list_all p xs) x).0 ∙ (ap (begins p) e ∙ b)))
front_same p (c ∷ xs) (d ∷ ys) vs ws x y a b e =
    let t = tail_same c d (xs ++ vs) (ys ++ ws) e in
    let r = front_same p xs ys vs ws (and_parts (p c) (list_all p xs) x).1 (and_parts (p d) (list_all p ys) y).1 a b t.1 in
    (λ i. t.0 i ∷ r.0 i, r.1)

blank_cases : (b : ℕ) → is_blank b ≡ true → (b ≡ 32) ⊎ (b ≡ 9)
blank_cases b h =
    elim (b == 32) as (λ c. (b == 32) ≡ c → (b ≡ 32) ⊎ (b ≡ 9)) [
      | true ↦ λ e. inl (eqb-true b 32 e)
      | false ↦ λ e. inr (eqb-true b 9 (sym (ap (λ c. c || (b == 9)) e) ∙ h))
    ] refl

pub blank_no_digit : (b : ℕ) → is_blank b ≡ true → is_digit b ≡ false
blank_no_digit b h = elim (blank_cases b h) [ inl e ↦ ap is_digit e | inr e ↦ ap is_digit e ]

-- a line that goes on with a sign begins with no digit
pub no_digit : (c : ℕ) (cs : List ℕ) (tokens : List (List ℕ)) (line : List ℕ) → is_digit c ≡ false → IsSpaced ((c ∷ cs) ∷ tokens) line
    → begins is_digit line ≡ false
no_digit c cs tokens line h ([], rest, blank, e, more) = ap (begins is_digit) e ∙ h
no_digit c cs tokens line h (g ∷ gap, rest, blank, e, more) = ap (begins is_digit) e ∙ blank_no_digit g (and_parts (is_blank g) (list_all is_blank gap) blank).0

-- what follows the gap
after_gap : (t : ℕ) (ts : List ℕ) (u : ℕ) (us gap gap' rest rest' : List ℕ) → is_blank t ≡ false → is_blank u ≡ false → list_all is_blank gap ≡ true
    → list_all is_blank gap' ≡ true
    → gap ++ ((t ∷ ts) ++ rest) ≡ gap' ++ ((u ∷ us) ++ rest') → (t ∷ ts) ++ rest ≡ (u ∷ us) ++ rest'
after_gap t ts u us gap gap' rest rest' nt nu b b' e = (front_same is_blank gap gap' ((t ∷ ts) ++ rest) ((u ∷ us) ++ rest') b b' nt nu e).1

abbrev pub Two : List (List ℕ) → List (List ℕ) → Type 0
Two ts us = (rest : List ℕ) × IsSpaced ts rest × IsSpaced us rest

-- the same sign
pub sign_step : (c : ℕ) (cs : List ℕ) (ts us : List (List ℕ)) (line : List ℕ) → is_blank c ≡ false → IsSpaced ((c ∷ cs) ∷ ts) line
    → IsSpaced ((c ∷ cs) ∷ us) line → Two ts us
sign_step c cs ts us line h (gap, rest, blank, e, more) (gap', rest', blank', e', more') =
    let q = after_gap c cs c cs gap gap' rest rest' h h blank blank' (sym e ∙ e') in
    (rest, more, subst (IsSpaced us) (sym (append_cancel_left (c ∷ cs) rest rest' q)) more')

-- a numeral is its digits
pub numeral_digits : (bytes : List ℕ) → is_numeral bytes ≡ true → list_all is_digit bytes ≡ true
numeral_digits [] h = cc
numeral_digits (d ∷ []) h = ap (λ b. b && true) h
numeral_digits (d ∷ e ∷ ds) h = (and_parts (nat_le 49 d) (list_all is_digit (d ∷ e ∷ ds)) h).1

pub digit_no_blank : (b : ℕ) → is_digit b ≡ true → is_blank b ≡ false
digit_no_blank b h = elim (is_blank b) as (λ c. is_blank b ≡ c → c ≡ false)
    [ true ↦ λ e. absurd (true≢false (sym h ∙ blank_no_digit b e)) | false ↦ λ e. refl ] refl

-- a numeral before a sign
pub numeral_step : (x y : List ℕ) (c : ℕ) (cs : List ℕ) (ts us : List (List ℕ)) (line : List ℕ) → is_numeral x ≡ true → is_numeral y ≡ true → is_digit c ≡ false
    → IsSpaced (x ∷ (c ∷ cs) ∷ ts) line → IsSpaced (y ∷ (c ∷ cs) ∷ us) line → (x ≡ y) × Two ((c ∷ cs) ∷ ts) ((c ∷ cs) ∷ us)
numeral_step [] y c cs ts us line hx hy h s s' = cc
numeral_step (d ∷ x) [] c cs ts us line hx hy h s s' = cc
numeral_step (d ∷ x) (f ∷ y) c cs ts us line hx hy h (gap, rest, blank, e, more) (gap', rest', blank', e', more') =
    let dx = numeral_digits (d ∷ x) hx in
    let dy = numeral_digits (f ∷ y) hy in
    let q = after_gap d x f y gap gap' rest rest' (digit_no_blank d (and_parts (is_digit d) (list_all is_digit x) dx).0)
    (digit_no_blank f (and_parts (is_digit f) (list_all is_digit y) dy).0) blank blank' (sym e ∙ e') in
    let r = front_same is_digit (d ∷ x) (f ∷ y) rest rest' dx dy (no_digit c cs ts rest h more) (no_digit c cs us rest' h more') q in
    (r.0, (rest, more, subst (IsSpaced ((c ∷ cs) ∷ us)) (sym r.1) more'))

pub all_other : (byte : ℕ) (label : List ℕ) → list_any (λ b. b == byte) label ≡ false → list_all (is_other byte) label ≡ true
all_other byte [] h = refl
all_other byte (b ∷ label) h =
    elim (b == byte) as (λ c. (c || list_any (λ b. b == byte) label) ≡ false → (not c && list_all (is_other byte) label) ≡ true)
    [ true ↦ λ e. cc | false ↦ λ e. all_other byte label e ] h

abbrev pub quoted : List ℕ → List ℕ
quoted label = 34 ∷ label ++ 34 ∷ []

pub label_step : (a b : List ℕ) (ts us : List (List ℕ)) (line : List ℕ) → list_any (λ b. b == 34) a ≡ false → list_any (λ b. b == 34) b ≡ false
    → IsSpaced (quoted a ∷ ts) line → IsSpaced (quoted b ∷ us) line → (a ≡ b) × Two ts us
label_step a b ts us line ha hb (gap, rest, blank, e, more) (gap', rest', blank', e', more') =
    let q = after_gap 34 (a ++ 34 ∷ []) 34 (b ++ 34 ∷ []) gap gap' rest rest' refl refl blank blank' (sym e ∙ e') in
    let w : a ++ (34 ∷ rest) ≡ b ++ (34 ∷ rest') = sym (append_assoc a (34 ∷ []) rest) ∙ ((tail_same 34 34 _ _ q).1 ∙ append_assoc b (34 ∷ []) rest') in
    let r = front_same (is_other 34) a b (34 ∷ rest) (34 ∷ rest') (all_other 34 a ha) (all_other 34 b hb) refl refl w in
    (r.0, (rest, more, subst (IsSpaced us) (sym (tail_same 34 34 rest rest' r.1).1) more'))
