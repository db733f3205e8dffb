-- What the tests on the front of a line say of the line.
use Rattle.std.proofs.Common.{◌≡◌, ℕ, suc, ◌+◌, ◌-◌, ◌*◌, ◌<◌, ◌≤◌, Bool, true, false, cond, not, ◌&&◌, ◌||◌, nat_eq, nat_lt, ◌==◌, min, List, [], ◌∷◌, ◌++◌}
use Rattle.std.proofs.Common.{zero, nat_le, append-nil, true≢false, length, get_or, take, drop, Option, Some, None, refl, sym, ap, ◌∙◌, subst, append_assoc, arith}
use Rattle.std.specs.List.{list_all, list_any, prefix_len}
use Rattle.std.specs.Cmp.Lexicographic.{pointwise}
use Rattle.std.proofs.Math.Seq.{take-append_seam, drop-append-add}
use Rattle.std.proofs.lemmas.Bool.{lt-ltb, le-ltb, ltb-true, eq-eqb, eqb-true, and_parts}
use Rattle.std.proofs.lemmas.List.{take-append-drop, length-append}
use Rattle.std.proofs.lemmas.List.Sums.{fold_more, prefix_len_is}
use Rattle.std.proofs.lemmas.List.Prefix.{front_rest}
use Rattle.std.proofs.lemmas.Slice.Eq.{bytes_eq-Decides}
use Rattle.memchr.specs.Find.{IsFirstByte, is_byte}
use Rattle.text.specs.Text.{is_blank, is_digit, is_numeral, value_of, IsSpaced}
use Rattle.text.specs.Tokens.{capped, past_blanks, sign_at, number_here, number_at, cut_at, quoted_at, end_at, number_before, is_other, whole_number, ◌>>=◌}
use Rattle.text.proofs.Spaced.{begins, numeral_digits, digit_no_blank, no_digit, all_other}

-- digits are a number by the first of them
pub well_begun : (digits : List ℕ) → 2 ≤ length digits → list_all is_digit digits ≡ true → nat_le 49 (get_or digits 0 0) ≡ is_numeral digits
well_begun [] long all = absurd (omega arith)
well_begun (d ∷ []) long all = absurd (omega arith)
well_begun (d ∷ f ∷ ds) long all = rw all (and_true (nat_le 49 d))
  where
    and_true : (b : Bool) → b ≡ (b && true)
    and_true true = refl
    and_true false = refl

-- not where a byte that is none stands among them
pub no_numeral : (bytes : List ℕ) → list_all is_digit bytes ≡ false → is_numeral bytes ≡ false
no_numeral bytes none = elim (is_numeral bytes) as (λ t. is_numeral bytes ≡ t → t ≡ false)
    [ true ↦ λ e. absurd (true≢false (sym (numeral_digits bytes e) ∙ none)) | false ↦ λ e. refl ] refl

-- the number of the digits, with one more
pub value_more : (digits : List ℕ) (i v m d w : ℕ) → i < length digits → v ≡ capped (value_of (take i digits)) → m ≡ min (v * 10) 4294967295
    → d ≡ get_or digits i 0 - 48 → w ≡ min (m + d) 4294967295
    → w ≡ capped (value_of (take (i + 1) digits))
value_more digits i v m d w below so_far by_ten digit added =
    let step : value_of (take (i + 1) digits) ≡ 10 * value_of (take i digits)
    + (get_or digits i 0 - 48) = fold_more (λ n d. 10 * n + (d - 48)) 0 digits i 0 below in
    rw step (omega arith)

-- ---- the run of bytes that pass, at the front

pub run_none : (p : ℕ → Bool) (ys : List ℕ) → begins p ys ≡ false → prefix_len p ys ≡ 0
run_none p [] e = refl
run_none p (y ∷ ys) e = rw e refl

-- it is what passes, where what follows does not
pub run_is : (p : ℕ → Bool) (xs ys : List ℕ) → list_all p xs ≡ true → begins p ys ≡ false → prefix_len p (xs ++ ys) ≡ length xs
run_is p [] ys all stop = run_none p ys stop
run_is p (x ∷ xs) ys all stop = let h = and_parts (p x) (list_all p xs) all in let rest = run_is p xs ys h.1 stop in rw h.0 (omega (arith, rest))

-- it is so long where what stands there doesn't pass
pub run_ends : (p : ℕ → Bool) (line : List ℕ) (n : ℕ) → n < length line → list_all p (take n line) ≡ true → p (get_or line n 0) ≡ false
    → n ≡ prefix_len p line
run_ends p [] n low all stop = absurd (omega (arith, low))
run_ends p (x ∷ line) zero low all stop = rw stop refl
run_ends p (x ∷ line) (suc n) low all stop =
    let h = and_parts (p x) (list_all p (take n line)) all in
    let rest : n ≡ prefix_len p line = run_ends p line n (omega (arith, low)) h.1 stop in
    rw h.0 (omega (arith, rest))

pub prefix_all : (p : ℕ → Bool) (line : List ℕ) → list_all p line ≡ true → prefix_len p line ≡ length line
prefix_all p line all = ap (prefix_len p) (sym (append-nil line)) ∙ run_is p line [] all refl

pub run_passes : (p : ℕ → Bool) (xs : List ℕ) → list_all p (take (prefix_len p xs) xs) ≡ true
run_passes p [] = refl
run_passes p (x ∷ xs) =
    elim (p x) as (λ b. p x ≡ b → list_all p (take (cond b (1 + prefix_len p xs) 0) (x ∷ xs)) ≡ true) [
      | true ↦ λ e. let more : 1 + prefix_len p xs ≡ suc (prefix_len p xs) = omega arith in rw (more, e) (run_passes p xs)
      | false ↦ λ e. refl
    ] refl

-- ---- a byte that is looked for

not_here : (b : Bool) → ¬ (b ≡ true) → not b ≡ true
not_here b never = elim b as (λ b. ¬ (b ≡ true) → not b ≡ true) [ true ↦ λ never. absurd (never refl) | false ↦ λ never. refl ] never

pub byte_none : (byte : ℕ) (line : List ℕ) → IsFirstByte (is_byte byte) line None → cut_at byte line ≡ None
unfolding cut_at
byte_none byte line nowhere =
    let all : prefix_len (is_other byte) line ≡ length line = prefix_len_is (is_other byte) line (length line) 0 (omega arith)
    (λ k low. not_here (get_or line k 0 == byte) (nowhere k (omega arith) low)) (λ more. absurd (omega (arith, more))) in
    rw all (ap (λ c. cond c (Some (take (length line) line, drop (length line + 1) line)) None) (le-ltb (length line) (length line) (omega arith)))

pub byte_some : (byte n : ℕ) (line : List ℕ) → IsFirstByte (is_byte byte) line (Some n) → cut_at byte line ≡ Some (take n line, drop (n + 1) line)
unfolding cut_at
byte_some byte n line (none, here) =
    let count : prefix_len (is_other byte) line ≡ n = prefix_len_is (is_other byte) line n 0 (omega (arith, none.high))
    (λ k low. not_here (get_or line k 0 == byte) (none.before k (omega arith) low)) (λ more. ap not here) in
    rw (count, lt-ltb n (length line) none.high) refl

-- ---- tests that found something

pub bind_some : {A B : Type 0} (o : Option A) (f : A → Option B) (y : B) → (o >>= f) ≡ Some y → (x : A) × (o ≡ Some x) × (f x ≡ Some y)
bind_some (Some x) f y e = (x, refl, e)
bind_some None f y e = absurd cc

pub if_some : {A : Type 0} (b : Bool) (x y : A) → cond b (Some x) None ≡ Some y → (b ≡ true) × (x ≡ y)
if_some true x y e = (refl, cc)
if_some false x y e = absurd cc

abbrev some_of : {A : Type 0} → A → Option A
some_of x = Some x

some_is : {A : Type 0} (x y : A) → some_of x ≡ some_of y → x ≡ y
some_is x y e = cc

-- ---- signs

-- the blanks in front, and the rest
past : (line : List ℕ) → line ≡ take (prefix_len is_blank line) line ++ past_blanks line
past line = sym (take-append-drop (prefix_len is_blank line) line)

pub past_gap : (gap rest : List ℕ) → list_all is_blank gap ≡ true → begins is_blank rest ≡ false → past_blanks (gap ++ rest) ≡ rest
past_gap gap rest blank stop = rw (run_is is_blank gap rest blank stop) (front_rest (gap ++ rest) gap rest refl)

pub sign_cuts : (token line rest : List ℕ) → sign_at token line ≡ Some rest → (gap : List ℕ) × (list_all is_blank gap ≡ true) × (line ≡ gap ++ (token ++ rest))
unfolding sign_at
sign_cuts token line rest e =
    let start = past_blanks line in
    let h = if_some (pointwise nat_eq (take (length token) start) token) (drop (length token) start) rest e in
    let front : take (length token) start ≡ token = (bytes_eq-Decides (take (length token) start) token).0 h.0 in
    let split : start ≡ token ++ rest = sym (take-append-drop (length token) start) ∙ ap (λ l. l ++ drop (length token) start) front
    ∙ ap (λ l. token ++ l) h.1 in
    (take (prefix_len is_blank line) line, run_passes is_blank line, past line ∙ ap (λ l. take (prefix_len is_blank line) line ++ l) split)

pub sign_gives : (token line rest : List ℕ) (ts : List (List ℕ)) → sign_at token line ≡ Some rest → IsSpaced ts rest → IsSpaced (token ∷ ts) line
sign_gives token line rest ts e more = let (gap, blank, cut) = sign_cuts token line rest e in (gap, rest, blank, cut, more)

pub sign_here : (token line rest : List ℕ) → past_blanks line ≡ token ++ rest → sign_at token line ≡ Some rest
unfolding sign_at
sign_here token line rest start =
    let front : take (length token) (token ++ rest) ≡ token = take-append_seam token rest in
    let back : drop (length token) (token ++ rest) ≡ rest = front_rest (token ++ rest) token rest refl in
    let same : pointwise nat_eq token token ≡ true = (bytes_eq-Decides token token).1 refl in
    rw (start, front, same, back) refl

pub sign_finds : (c : ℕ) (cs line : List ℕ) (ts : List (List ℕ)) → is_blank c ≡ false → IsSpaced ((c ∷ cs) ∷ ts) line → (rest : List ℕ)
    × (sign_at (c ∷ cs) line ≡ Some rest) × IsSpaced ts rest
sign_finds c cs line ts h (gap, rest, blank, e, more) = (rest, sign_here (c ∷ cs) line rest (ap past_blanks e ∙ past_gap gap ((c ∷ cs) ++ rest) blank h), more)

-- ---- numbers

digits_numeral : (x : List ℕ) → is_numeral x ≡ true → (d : ℕ) × (ds : List ℕ) × (x ≡ d ∷ ds)
digits_numeral [] h = absurd cc
digits_numeral (d ∷ ds) h = (d, ds, refl)

pub number_gives : (line : List ℕ) (v : ℕ) (rest : List ℕ) → number_at line ≡ Some (v, rest)
    → (x : List ℕ) × (is_numeral x ≡ true) × (v ≡ capped (value_of x)) × ((ts : List (List ℕ)) → IsSpaced ts rest → IsSpaced (x ∷ ts) line)
unfolding number_at
number_gives line v rest e =
    let start = past_blanks line in
    let n = prefix_len is_digit start in
    let h = if_some (is_numeral (take n start)) (capped (value_of (take n start)), drop n start) (v, rest) e in
    let v-is : capped (value_of (take n start)) ≡ v = ap (λ (p : ℕ × List ℕ). p.0) h.1 in
    let rest-is : drop n start ≡ rest = ap (λ (p : ℕ × List ℕ). p.1) h.1 in
    let split : line ≡ take (prefix_len is_blank line) line ++ (take n start ++ rest) = past line
    ∙ ap (λ l. take (prefix_len is_blank line) line ++ l) (sym (take-append-drop n start) ∙ ap (λ l. take n start ++ l) rest-is) in
    (take n start, h.0, sym v-is, λ ts more. (take (prefix_len is_blank line) line, rest, run_passes is_blank line, split, more))

pub number_finds : (x : List ℕ) (c : ℕ) (cs line : List ℕ) (ts : List (List ℕ)) → is_numeral x ≡ true → is_digit c ≡ false → IsSpaced (x ∷ (c ∷ cs) ∷ ts) line
    → (rest : List ℕ) × (number_at line ≡ Some (capped (value_of x), rest)) × IsSpaced ((c ∷ cs) ∷ ts) rest
unfolding number_at
number_finds x c cs line ts hx h (gap, rest, blank, e, more) =
    let digits = numeral_digits x hx in
    let (d, ds, x-is) = digits_numeral x hx in
    let no_blank : begins is_blank (x ++ rest) ≡ false = rw x-is
    (digit_no_blank d (and_parts (is_digit d) (list_all is_digit ds) (subst (λ l. list_all is_digit l ≡ true) x-is digits)).0) in
    let start : past_blanks line ≡ x ++ rest = ap past_blanks e ∙ past_gap gap (x ++ rest) blank no_blank in
    let count : prefix_len is_digit (x ++ rest) ≡ length x = run_is is_digit x rest digits (no_digit c cs ts rest h more) in
    let front : take (length x) (x ++ rest) ≡ x = take-append_seam x rest in
    let back : drop (length x) (x ++ rest) ≡ rest = front_rest (x ++ rest) x rest refl in
    (rest, rw (start, count, front, hx, back) refl, more)

pub whole_gives : (bytes : List ℕ) (v : ℕ) → whole_number bytes ≡ Some v → (is_numeral bytes ≡ true) × (v ≡ capped (value_of bytes))
unfolding whole_number
whole_gives bytes v e = let h = if_some (is_numeral bytes) (capped (value_of bytes)) v e in (h.0, sym h.1)

-- a number stands right in front
pub record HasNumber (value : ℕ) (text left : List ℕ) : Type 0 where
  pub digits : List ℕ
  pub numeral : is_numeral digits ≡ true
  pub is : value ≡ capped (value_of digits)
  pub cut : text ≡ digits ++ left

pub number_here_gives : (line : List ℕ) (v : ℕ) (rest : List ℕ) → number_here line ≡ Some (v, rest) → HasNumber v line rest
unfolding number_here
number_here_gives line v rest e =
    let count = prefix_len is_digit line in
    let h = if_some (is_numeral (take count line)) (capped (value_of (take count line)), drop count line) (v, rest) e in
    let value : capped (value_of (take count line)) ≡ v = ap (λ p. p.0) h.1 in
    let back : drop count line ≡ rest = ap (λ p. p.1) h.1 in
    record { digits = take count line; numeral = h.0; is = sym value; cut = sym (take-append-drop count line) ∙ ap (λ l. take count line ++ l) back }

pub whole_finds : (bytes : List ℕ) → is_numeral bytes ≡ true → whole_number bytes ≡ Some (capped (value_of bytes))
unfolding whole_number
whole_finds bytes h = rw h refl

pub number_before_gives : (token line : List ℕ) (v : ℕ) (rest : List ℕ) → number_before token line ≡ Some (v, rest)
    → (x : List ℕ) × (is_numeral x ≡ true) × (v ≡ capped (value_of x)) × ((ts : List (List ℕ)) → IsSpaced ts rest → IsSpaced (x ∷ token ∷ ts) line)
unfolding number_before
number_before_gives token line v rest e =
    let (n, found, e2) = bind_some (number_at line) (λ n. sign_at token n.1 >>= λ rest. Some (n.0, rest)) (v, rest) e in
    let (after, signed, e3) = bind_some (sign_at token n.1) (λ rest. Some (n.0, rest)) (v, rest) e2 in
    let (x, numeral, value, spaced) = number_gives line n.0 n.1 found in
    let same = some_is (n.0, after) (v, rest) e3 in
    let v-is : n.0 ≡ v = ap (λ (p : ℕ × List ℕ). p.0) same in
    let rest-is : after ≡ rest = ap (λ (p : ℕ × List ℕ). p.1) same in
    (x, numeral, sym v-is ∙ value, λ ts more. spaced (token ∷ ts) (sign_gives token n.1 after ts signed (subst (IsSpaced ts) (sym rest-is) more)))

pub number_before_finds : (x : List ℕ) (c : ℕ) (cs line : List ℕ) (ts : List (List ℕ)) → is_numeral x ≡ true → is_digit c ≡ false → is_blank c ≡ false
    → IsSpaced (x ∷ (c ∷ cs) ∷ ts) line
    → (rest : List ℕ) × (number_before (c ∷ cs) line ≡ Some (capped (value_of x), rest)) × IsSpaced ts rest
unfolding number_before
number_before_finds x c cs line ts hx h hb spaced =
    let (after, found, more) = number_finds x c cs line ts hx h spaced in
    let (rest, signed, last) = sign_finds c cs after ts hb more in
    (rest, rw (found, signed) refl, last)

-- ---- labels

-- none of these is among bytes that are not one
pub none_other : (byte : ℕ) (label : List ℕ) → list_all (is_other byte) label ≡ true → list_any (λ b. b == byte) label ≡ false
none_other byte [] h = refl
none_other byte (b ∷ label) h =
    elim (b == byte) as (λ c. (not c && list_all (is_other byte) label) ≡ true → (c || list_any (λ b. b == byte) label) ≡ false)
    [ true ↦ λ e. cc | false ↦ λ e. none_other byte label e ] h

-- what stops the run of the others is such a byte
stops_other : (byte : ℕ) (line : List ℕ) → prefix_len (is_other byte) line < length line
    → line ≡ take (prefix_len (is_other byte) line) line ++ (byte ∷ drop (prefix_len (is_other byte) line + 1) line)
stops_other byte [] h = absurd (omega arith)
stops_other byte (b ∷ line) h =
    elim (b == byte) as (λ c. (b == byte) ≡ c → cond (not c) (1 + prefix_len (is_other byte) line) 0 < length (b ∷ line)
    → b ∷ line ≡ take (cond (not c) (1 + prefix_len (is_other byte) line) 0) (b ∷ line)
    ++ (byte ∷ drop (cond (not c) (1 + prefix_len (is_other byte) line) 0 + 1) (b ∷ line))) [
      | true ↦ λ e k. ap (λ q. q ∷ line) (eqb-true b byte e)
      | false ↦ λ e k.
          let one : 1 + prefix_len (is_other byte) line ≡ suc (prefix_len (is_other byte) line) = omega arith in
          let two : suc (prefix_len (is_other byte) line) + 1 ≡ suc (prefix_len (is_other byte) line + 1) = omega arith in
          rw (one, two) (ap (λ l. b ∷ l) (stops_other byte line (omega (arith, k))))
    ] refl h

pub cut_gives : (byte : ℕ) (line front rest : List ℕ) → cut_at byte line ≡ Some (front, rest) → (list_any (λ b. b == byte) front ≡ false)
    × (line ≡ front ++ (byte ∷ rest))
unfolding cut_at
cut_gives byte line front rest e =
    let n = prefix_len (is_other byte) line in
    let h = if_some (nat_lt n (length line)) (take n line, drop (n + 1) line) (front, rest) e in
    let front-is : take n line ≡ front = ap (λ (p : List ℕ × List ℕ). p.0) h.1 in
    let rest-is : drop (n + 1) line ≡ rest = ap (λ (p : List ℕ × List ℕ). p.1) h.1 in (
      rw (← front-is) (none_other byte (take n line) (run_passes (is_other byte) line)),
      rw (← front-is, ← rest-is) (stops_other byte line (ltb-true n (length line) h.0)),
    )

pub cut_finds : (byte : ℕ) (front rest : List ℕ) → list_any (λ b. b == byte) front ≡ false → cut_at byte (front ++ (byte ∷ rest)) ≡ Some (front, rest)
unfolding cut_at
cut_finds byte front rest h =
    let stop : begins (is_other byte) (byte ∷ rest) ≡ false = rw (eq-eqb byte byte refl) refl in
    let count : prefix_len (is_other byte) (front ++ (byte ∷ rest)) ≡ length front = run_is (is_other byte) front (byte ∷ rest) (all_other byte front h) stop in
    let room : nat_lt (length front) (length (front ++ (byte ∷ rest))) ≡ true = lt-ltb _ _ (omega (arith, length-append front (byte ∷ rest))) in
    let start : take (length front) (front ++ (byte ∷ rest)) ≡ front = take-append_seam front (byte ∷ rest) in
    let back : drop (length front + 1) (front ++ (byte ∷ rest)) ≡ rest = drop-append-add front (byte ∷ rest) 1 in
    rw (count, room, start, back) refl

-- the quotes stand around the label
around : (label rest : List ℕ) → (34 ∷ label ++ 34 ∷ []) ++ rest ≡ 34 ∷ (label ++ (34 ∷ rest))
around label rest = ap (λ l. 34 ∷ l) (append_assoc label (34 ∷ []) rest)

pub quoted_gives : (line label rest : List ℕ) (ts : List (List ℕ)) → quoted_at line ≡ Some (label, rest) → IsSpaced ts rest
    → (list_any (λ b. b == 34) label ≡ false) × IsSpaced ((34 ∷ label ++ 34 ∷ []) ∷ ts) line
unfolding quoted_at
quoted_gives line label rest ts e more =
    let (inner, signed, shut) = bind_some (sign_at (34 ∷ []) line) (λ rest. cut_at 34 rest) (label, rest) e in
    let (plain, split) = cut_gives 34 inner label rest shut in
    let (gap, blank, cut) = sign_cuts (34 ∷ []) line inner signed in
    (plain, (gap, rest, blank, cut ∙ ap (λ l. gap ++ (34 ∷ l)) split ∙ ap (λ l. gap ++ l) (sym (around label rest)), more))

pub quoted_finds : (line label : List ℕ) (ts : List (List ℕ)) → list_any (λ b. b == 34) label ≡ false → IsSpaced ((34 ∷ label ++ 34 ∷ []) ∷ ts) line
    → (rest : List ℕ) × (quoted_at line ≡ Some (label, rest)) × IsSpaced ts rest
unfolding quoted_at
quoted_finds line label ts plain (gap, rest, blank, e, more) =
    let start : past_blanks line ≡ (34 ∷ []) ++ (label ++ (34 ∷ rest)) = ap past_blanks e ∙ past_gap gap ((34 ∷ label ++ 34 ∷ []) ++ rest) blank refl
    ∙ around label rest in
    (rest, rw (sign_here (34 ∷ []) line (label ++ (34 ∷ rest)) start, cut_finds 34 label rest plain) refl, more)

-- ---- the end of the line

pub end_gives : {A : Type 0} (a b : A) (line : List ℕ) → end_at a line ≡ Some b → (list_all is_blank line ≡ true) × (a ≡ b)
unfolding end_at
end_gives a b line e = if_some (list_all is_blank line) a b e

pub end_finds : {A : Type 0} (a : A) (line : List ℕ) → list_all is_blank line ≡ true → end_at a line ≡ Some a
unfolding end_at
end_finds a line h = rw h refl
