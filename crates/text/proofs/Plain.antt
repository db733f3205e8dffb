-- A text of plain lines is cut at its lines, and what is written token by token is spelled.
use Rattle.std.proofs.Common.{◌≡◌, ℕ, zero, suc, ◌+◌, ◌*◌, ◌%◌, ◌-◌, ◌^◌, ◌<◌, ◌≤◌, Bool, true, false, ◌==◌, List, [], ◌∷◌, ◌++◌, length, map, get_or}
use Rattle.std.proofs.Common.{decimal, refl, sym, ap, ◌∙◌, arith, append_assoc}
use Rattle.std.specs.Prelude.{nat_le}
use Rattle.std.specs.List.{list_all, AllByRecursion}
use Rattle.std.proofs.lemmas.Bool.{le-leb, leb-true, ne_eqb, and_parts}
use Rattle.std.proofs.lemmas.Fmt.{decimal_by_steps}
use Rattle.std.proofs.lemmas.List.{length-append}
use Rattle.std.proofs.lemmas.List.Sums.{fold-append}
use Rattle.std.proofs.lemmas.List.Folds.{list_all-append}
use Rattle.std.proofs.Math.ListN.{get_or-append}
use Rattle.text.specs.Text.{with_first, pieces_of, without_cr, lines, is_digit, is_numeral, value_of, IsNumeral, IsSpaced}
use Rattle.text.proofs.Scanning.{well_begun}

-- a byte that ends no line
abbrev pub plain : ℕ → Bool
plain b = nat_le 32 b

pub plain_no_end : (b : ℕ) → plain b ≡ true → ((b == 10) ≡ false) × ((b == 13) ≡ false)
plain_no_end b h = let low : 32 ≤ b = leb-true 32 b h in (ne_eqb b 10 (λ e. absurd (omega arith)), ne_eqb b 13 (λ e. absurd (omega arith)))

first_piece : (line rest : List ℕ) → list_all plain line ≡ true → pieces_of (line ++ 10 ∷ rest) ≡ line ∷ pieces_of rest
first_piece [] rest h = refl
first_piece (b ∷ line) rest h =
    let both = and_parts (plain b) (list_all plain line) h in
    rw (plain_no_end b both.0).0 (ap (with_first b) (first_piece line rest both.1))

no_cr : (line : List ℕ) → list_all plain line ≡ true → without_cr line ≡ line
no_cr [] h = refl
no_cr (b ∷ []) h = rw (plain_no_end b (and_parts (plain b) true h).0).1 refl
no_cr (b ∷ c ∷ line) h = ap (λ l. b ∷ l) (no_cr (c ∷ line) (and_parts (plain b) (list_all plain (c ∷ line)) h).1)

-- the first line of a text
pub first_line : (line rest : List ℕ) → list_all plain line ≡ true → lines (line ++ 10 ∷ rest) ≡ line ∷ lines rest
first_line line rest h = ap (map without_cr) (first_piece line rest h) ∙ ap (λ l. l ∷ lines rest) (no_cr line h)

-- ---- numerals

digit_of : (d : ℕ) → d < 10 → is_digit (48 + d) ≡ true
digit_of d h = rw (le-leb 48 (48 + d) (omega arith), le-leb (48 + d) 57 (omega arith)) refl

-- a numeral of n: digits, the first of them not 0 where there is another
record IsDecimal (n : ℕ) (ds : List ℕ) : Type 0 where
  some : 1 ≤ length ds
  digits : list_all is_digit ds ≡ true
  value : value_of ds ≡ n
  first : 1 ≤ n → 49 ≤ get_or ds 0 0
  alone : n ≡ 0 → length ds ≡ 1

decimal_is : (n : ℕ) → n < 2 ^ 64 → IsDecimal n (decimal n)
decimal_is = decimal_by_steps IsDecimal
    (λ m l. record { some = omega arith; digits = rw (digit_of m (omega arith)) refl; value = omega arith; first = λ h. omega arith; alone = λ h. refl })
    (λ m ds l h. record {
      some = omega (arith, length-append ds ((48 + m % 10) ∷ []));
      digits = list_all-append is_digit ds ((48 + m % 10) ∷ []) ∙ rw (h.digits, digit_of (m % 10) (omega arith)) refl;
      value = fold-append (λ n d. 10 * n + (d - 48)) 0 ds ((48 + m % 10) ∷ []) ∙ rw h.value (omega arith);
      first = λ k. omega (arith, get_or-append ds ((48 + m % 10) ∷ []) 0 0 h.some, h.first (omega arith));
      alone = λ k. absurd (omega arith);
    })

is_numeral_of : (n : ℕ) (ds : List ℕ) → IsDecimal n ds → is_numeral ds ≡ true
is_numeral_of n [] h = absurd (omega (arith, h.some))
is_numeral_of n (d ∷ []) h = (and_parts (is_digit d) true h.digits).0
is_numeral_of n (d ∷ e ∷ ds) h =
    sym (well_begun (d ∷ e ∷ ds) (omega arith) h.digits) ∙ le-leb 49 d (h.first (positive n h.alone))
  where
    positive : (n : ℕ) → (n ≡ 0 → length (d ∷ e ∷ ds) ≡ 1) → 1 ≤ n
    positive zero alone = absurd (omega (arith, alone refl))
    positive (suc n) alone = omega arith

pub numeral : (n : ℕ) → n < 2 ^ 64 → IsNumeral (decimal n) n
numeral n small = (is_numeral_of n (decimal n) (decimal_is n small), (decimal_is n small).value)

digits_plain : (ds : List ℕ) → list_all is_digit ds ≡ true → list_all plain ds ≡ true
digits_plain [] h = refl
digits_plain (d ∷ ds) h =
    let both = and_parts (is_digit d) (list_all is_digit ds) h in
    let low : 48 ≤ d = leb-true 48 d (and_parts (nat_le 48 d) (nat_le d 57) both.0).0 in
    rw (le-leb 32 d (omega arith), digits_plain ds both.1) refl

-- ---- tokens without blanks between them

-- the tokens, and then the rest
abbrev pub over : List (List ℕ) → List ℕ → List ℕ
over [] rest = rest
over (token ∷ tokens) rest = token ++ over tokens rest

pub over_rest : (tokens : List (List ℕ)) (rest : List ℕ) → over tokens rest ≡ over tokens [] ++ rest
over_rest [] rest = refl
over_rest (token ∷ tokens) rest = ap (λ l. token ++ l) (over_rest tokens rest) ∙ sym (append_assoc token (over tokens []) rest)

pub spaced : (tokens : List (List ℕ)) → IsSpaced tokens (over tokens [])
spaced [] = refl
spaced (token ∷ tokens) = ([], over tokens [], refl, refl, spaced tokens)

pub over_plain : (tokens : List (List ℕ)) → AllByRecursion (λ token. list_all plain token ≡ true) tokens → list_all plain (over tokens []) ≡ true
over_plain [] h = refl
over_plain (token ∷ tokens) h = list_all-append plain token (over tokens []) ∙ rw (h.0, over_plain tokens h.1) refl

pub number_plain : (n : ℕ) → n < 2 ^ 64 → list_all plain (decimal n) ≡ true
number_plain n small = digits_plain (decimal n) (decimal_is n small).digits
