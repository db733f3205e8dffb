-- A line and the shortened one say the same, but for how great a number is that is too great for its type.
use Rattle.std.proofs.Common.{◌≡◌, ℕ, zero, suc, ◌+◌, ◌-◌, ◌<◌, ◌≤◌, ◌⊎◌, inl, inr, Bool, true, false, cond, ◌&&◌, ◌||◌, ◌==◌, nat_le, nat_lt, List}
use Rattle.std.proofs.Common.{[], ◌∷◌, ◌++◌, length, take, Option, Some, None, codes, refl, sym, ap, ◌∙◌, subst, arith, append-nil, append_assoc, true≢false}
use Rattle.std.specs.List.{list_all, list_any, prefix_len}
use Rattle.std.specs.Str.{bytes_eq}
use Rattle.std.proofs.lemmas.Bool.{and_parts, eqb-true, le-leb, cases_lt, le-ltb, lt-ltb, lt-leb}
use Rattle.std.proofs.lemmas.List.{take_all, length-take-le}
use Rattle.std.proofs.lemmas.Slice.Eq.{bytes_eq-Decides}
use Rattle.text.specs.Text.{is_digit, is_numeral, value_of}
use Rattle.text.specs.Tokens.{capped, cut_at, is_other, ◌>>=◌}
use Rattle.text.proofs.Scanning.{cut_finds, no_numeral, none_other, run_is}
use Rattle.text.proofs.Streaming.{digit_more, first_digit, high, numeral_front, times_ten}
use Rattle.evidence.specs.declared.limits.TheConstants.{GREATEST_COUNT, MOST_DIGITS}
use Rattle.evidence.specs.Scan.{count_before, counts_in, end_of, fields_of, move_of, number_of, rank_of, read_move}
use Rattle.evidence.specs.Short.{digits_then, kept_of, short_from, short}

-- ---- one byte

-- a byte is kept, or it is a digit too many
kept_cases : (d b : ℕ) → (kept_of d b ≡ b ∷ []) ⊎ ((kept_of d b ≡ []) × (is_digit b ≡ true))
kept_cases d b =
    elim (is_digit b) as (λ c. is_digit b ≡ c → (cond c (cond (nat_lt d MOST_DIGITS) (b ∷ []) []) (b ∷ []) ≡ b ∷ [])
    ⊎ ((cond c (cond (nat_lt d MOST_DIGITS) (b ∷ []) []) (b ∷ []) ≡ []) × (is_digit b ≡ true))) [
      | true ↦ λ e. elim (nat_lt d MOST_DIGITS) as (λ c. (cond c (b ∷ []) [] ≡ b ∷ []) ⊎ ((cond c (b ∷ []) [] ≡ []) × (is_digit b ≡ true)))
          [ true ↦ inl refl | false ↦ inr (refl, e) ]
      | false ↦ λ e. inl refl
    ] refl

step_kept : (d b : ℕ) (bytes : List ℕ) → kept_of d b ≡ b ∷ [] → short_from d (b ∷ bytes) ≡ b ∷ short_from (digits_then d b) bytes
step_kept d b bytes k = ap (λ l. l ++ short_from (digits_then d b) bytes) k

step_left : (d b : ℕ) (bytes : List ℕ) → kept_of d b ≡ [] → short_from d (b ∷ bytes) ≡ short_from (digits_then d b) bytes
step_left d b bytes k = ap (λ l. l ++ short_from (digits_then d b) bytes) k

-- behind another byte no digit has been counted
step_sign : (d b : ℕ) (bytes : List ℕ) → is_digit b ≡ false → short_from d (b ∷ bytes) ≡ b ∷ short bytes
step_sign d b bytes h = rw h refl

-- a sign parts what is shortened
pub short_append : (front : List ℕ) (c : ℕ) (back : List ℕ) → is_digit c ≡ false → short (front ++ c ∷ back) ≡ short front ++ c ∷ short back
short_append front c back h = parted 0 front
  where
    parted : (d : ℕ) (front : List ℕ) → short_from d (front ++ c ∷ back) ≡ short_from d front ++ c ∷ short back
    parted d [] = step_sign d c back h
    parted d (b ∷ front) = ap (λ l. kept_of d b ++ l) (parted (digits_then d b) front)
        ∙ sym (append_assoc (kept_of d b) (short_from (digits_then d b) front) (c ∷ short back))

pub short_shorter : (d : ℕ) (bytes : List ℕ) → length (short_from d bytes) ≤ length bytes
short_shorter d [] = omega arith
short_shorter d (b ∷ bytes) =
    let less = short_shorter (digits_then d b) bytes in
    elim (kept_cases d b) [
      | inl k ↦ omega (arith, ap length (step_kept d b bytes k), less)
      | inr k ↦ omega (arith, ap length (step_left d b bytes k.0), less)
    ]

-- ---- where a line is cut

cut_rec : ℕ → List ℕ → Option (List ℕ × List ℕ)
cut_rec c [] = None
cut_rec c (b ∷ bytes) = cond (b == c) (Some ([], bytes)) (cut_rec c bytes >>= λ p. Some (b ∷ p.0, p.1))

abbrev Cut : Type 0
Cut = List ℕ × List ℕ

prefix_all : (p : ℕ → Bool) (line : List ℕ) → list_all p line ≡ true → prefix_len p line ≡ length line
prefix_all p line all = ap (prefix_len p) (sym (append-nil line)) ∙ run_is p line [] all refl

cut_none : (byte : ℕ) (line : List ℕ) → list_all (is_other byte) line ≡ true → cut_at byte line ≡ None
unfolding cut_at
cut_none byte line all = let e = prefix_all (is_other byte) line all
    in let no : nat_lt (length line) (length line) ≡ false = le-ltb (length line) (length line) (omega arith) in rw (e, no) refl

-- what the recursion finds
record Found (c : ℕ) (line : List ℕ) (o : Option (List ℕ × List ℕ)) : Type 0 where
  none : o ≡ None → list_all (is_other c) line ≡ true
  some : (x r : List ℕ) → o ≡ Some (x, r) → (list_all (is_other c) x ≡ true) × (line ≡ x ++ c ∷ r)

some_cut : (p q : Cut) → Some p ≡ Some q → p ≡ q
some_cut p q e = cc

found : (c : ℕ) (line : List ℕ) → Found c line (cut_rec c line)
unfolding cut_rec
found c [] = record { none = λ e. refl; some = λ x r e. absurd cc }
found c (b ∷ bytes) =
    let less = found c bytes in
    elim (b == c) as (λ t. (b == c) ≡ t → Found c (b ∷ bytes) (cond t (Some ([], bytes)) (cut_rec c bytes >>= λ p. Some (b ∷ p.0, p.1)))) [
      | true ↦ λ e. record {
        none = λ k. absurd cc;
        some = λ x r k.
            let same = some_cut ([], bytes) (x, r) k in
            let x-is : [] ≡ x = ap (λ (p : Cut). p.0) same in
            let r-is : bytes ≡ r = ap (λ (p : Cut). p.1) same in
            (ap (list_all (is_other c)) (sym x-is), (λ i. eqb-true b c e i ∷ r-is i) ∙ ap (λ l. l ++ c ∷ r) x-is);
      }
      | false ↦ λ e. elim (cut_rec c bytes) as (λ o. Found c bytes o → Found c (b ∷ bytes) (o >>= λ p. Some (b ∷ p.0, p.1))) [
        | None ↦ λ h. record { none = λ k. rw e (h.none refl); some = λ x r k. absurd cc }
        | (Some p) ↦ λ h. record {
          none = λ k. absurd cc;
          some = λ x r k.
              let same = some_cut (b ∷ p.0, p.1) (x, r) k in
              let x-is : b ∷ p.0 ≡ x = ap (λ (p : Cut). p.0) same in
              let r-is : p.1 ≡ r = ap (λ (p : Cut). p.1) same in
              let one = h.some p.0 p.1 refl in
              (ap (list_all (is_other c)) (sym x-is) ∙ rw e one.0, ap (λ l. b ∷ l) one.1 ∙ (λ i. x-is i ++ c ∷ r-is i));
        }
      ] less
    ] refl

cut_is : (c : ℕ) (line : List ℕ) → cut_at c line ≡ cut_rec c line
cut_is c line = same (cut_rec c line) refl
  where
    same : (o : Option Cut) → cut_rec c line ≡ o → cut_at c line ≡ o
    same None e = cut_none c line ((found c line).none e)
    same (Some p) e =
        let one = (found c line).some p.0 p.1 e in
        ap (cut_at c) one.1 ∙ cut_finds c p.0 p.1 (none_other c p.0 one.0)

abbrev short_cut : ℕ → Option Cut → Option Cut
short_cut d o = o >>= λ p. Some (short_from d p.0, short p.1)

cut_short : (c d : ℕ) (line : List ℕ) → is_digit c ≡ false → cut_rec c (short_from d line) ≡ short_cut d (cut_rec c line)
unfolding cut_rec
cut_short c d [] h = refl
cut_short c d (b ∷ bytes) h =
    elim (b == c) as (λ t. (b == c) ≡ t → cut_rec c (short_from d (b ∷ bytes))
    ≡ short_cut d (cond t (Some ([], bytes)) (cut_rec c bytes >>= λ p. Some (b ∷ p.0, p.1)))) [
      | true ↦ λ e.
          let sign : is_digit b ≡ false = ap is_digit (eqb-true b c e) ∙ h in
          ap (cut_rec c) (step_sign d b bytes sign) ∙ ap (λ t. cond t (Some ([], short bytes)) (cut_rec c (short bytes) >>= λ p. Some (b ∷ p.0, p.1))) e
      | false ↦ λ e.
          let less = cut_short c (digits_then d b) bytes h in
          elim (kept_cases d b) [
            | inl k ↦ ap (cut_rec c) (step_kept d b bytes k)
                ∙ ap (λ t. cond t (Some ([], short_from (digits_then d b) bytes)) (cut_rec c (short_from (digits_then d b) bytes) >>= λ p. Some (b ∷ p.0, p.1))) e
                ∙ ap (λ o. o >>= λ p. Some (b ∷ p.0, p.1)) less ∙ kept (cut_rec c bytes) k
            | inr k ↦ ap (cut_rec c) (step_left d b bytes k.0) ∙ less ∙ left (cut_rec c bytes) k.0
          ]
    ] refl
  where
    kept : (o : Option Cut) → kept_of d b ≡ b ∷ [] → (short_cut (digits_then d b) o >>= λ p. Some (b ∷ p.0, p.1))
        ≡ short_cut d (o >>= λ p. Some (b ∷ p.0, p.1))
    kept None k = refl
    kept (Some p) k = ap (λ l. Some (l, short p.1)) (sym (step_kept d b p.0 k))

    left : (o : Option Cut) → kept_of d b ≡ [] → short_cut (digits_then d b) o ≡ short_cut d (o >>= λ p. Some (b ∷ p.0, p.1))
    left None k = refl
    left (Some p) k = ap (λ l. Some (l, short p.1)) (sym (step_left d b p.0 k))

-- a shortened line is cut where the line is
pub cut_at_short : (c : ℕ) (line : List ℕ) → is_digit c ≡ false → cut_at c (short line) ≡ short_cut 0 (cut_at c line)
cut_at_short c line h = cut_is c (short line) ∙ cut_short c 0 line h ∙ ap (short_cut 0) (sym (cut_is c line))

-- ---- numbers

all_short : (d : ℕ) (bytes : List ℕ) → list_all is_digit (short_from d bytes) ≡ list_all is_digit bytes
all_short d [] = refl
all_short d (b ∷ bytes) =
    elim (kept_cases d b) [
      | inl k ↦ ap (list_all is_digit) (step_kept d b bytes k) ∙ ap (λ t. is_digit b && t) (all_short (digits_then d b) bytes)
      | inr k ↦ ap (list_all is_digit) (step_left d b bytes k.0) ∙ all_short (digits_then d b) bytes ∙ ap (λ t. t && list_all is_digit bytes) (sym k.1)
    ]

-- the first digits of a number are kept
digits_short : (d : ℕ) (bytes : List ℕ) → d ≤ 11 → list_all is_digit bytes ≡ true → short_from d bytes ≡ take (11 - d) bytes
digits_short d [] few all = sym (take_all (11 - d) [] (omega arith))
digits_short d (b ∷ bytes) few all =
    let h = and_parts (is_digit b) (list_all is_digit bytes) all in
    elim (cases_lt d 11) [
      | inl less ↦
          let low : nat_lt d 11 ≡ true = lt-ltb d 11 less in
          let one : 11 - d ≡ suc (11 - (d + 1)) = omega (arith, less) in
          rw (h.0, low, one) (ap (λ l. b ∷ l) (digits_short (d + 1) bytes (omega (arith, less)) h.1))
      | inr full ↦
          let high : nat_lt d 11 ≡ false = le-ltb d 11 full in
          let none : 11 - d ≡ 0 = omega (arith, full) in
          rw (h.0, high, none) (digits_short d bytes few h.1 ∙ ap (λ n. take n bytes) none)
    ]

pub number_front_is : (bytes : List ℕ) → list_all is_digit bytes ≡ true → short bytes ≡ take 11 bytes
number_front_is bytes all = digits_short 0 bytes (omega arith) all

-- a numeral of so many digits is great
great : (n : ℕ) (run : List ℕ) → suc n ≤ length run → 1 ≤ n → is_numeral run ≡ true → times_ten 1 n ≤ value_of run
great n [] long some h = absurd (omega (arith, long))
great n (d ∷ run) long some h =
    high n run 1 (digit_more 0 d) (omega (arith, long)) (omega (arith, first_digit d run (omega (arith, long, some)) h))

-- a numeral up to the greatest count has eight digits at most
pub few_digits : (run : List ℕ) → is_numeral run ≡ true → value_of run ≤ GREATEST_COUNT → length run ≤ 8
few_digits run h small =
    elim (cases_lt 8 (length run)) [
      | inl many ↦ absurd (let low : 100000000 ≤ value_of run = great 8 run (omega (arith, many)) (omega arith) h in omega (arith, low, small))
      | inr few ↦ few
    ]

-- the number of digits is known from the first 11
capped_front : (run : List ℕ) → is_numeral run ≡ true → is_numeral (take 11 run) ≡ true → capped (value_of (take 11 run)) ≡ capped (value_of run)
capped_front run h k =
    elim (cases_lt 11 (length run)) [
      | inl more ↦
          let low : 10000000000 ≤ value_of run = great 10 run (omega (arith, more)) (omega arith) h in
          let long : length (take 11 run) ≡ 11 = length-take-le 11 run (omega (arith, more)) in
          let low_front : 10000000000 ≤ value_of (take 11 run) = great 10 (take 11 run) (omega (arith, long)) (omega arith) k in
          omega (arith, low, low_front)
      | inr few ↦ ap (λ l. capped (value_of l)) (take_all 11 run few)
    ]

-- a shortened number is one
abbrev Same : Option ℕ → Option ℕ → Type 0
Same None o = o ≡ None
Same (Some n) o = (k : ℕ) × (o ≡ Some k) × (capped k ≡ capped n)

pub number_short : (bytes : List ℕ) → Same (number_of bytes) (number_of (short bytes))
unfolding number_of
number_short bytes =
    elim (list_all is_digit bytes) as (λ t. list_all is_digit bytes ≡ t → Same (cond (is_numeral bytes) (Some (value_of bytes)) None)
    (cond (is_numeral (short bytes)) (Some (value_of (short bytes))) None)) [
      | true ↦ λ all.
          let front = number_front_is bytes all in
          let same : is_numeral (take 11 bytes) ≡ is_numeral bytes = numeral_front 9 bytes all in
          rw front (elim (is_numeral bytes) as (λ t. is_numeral bytes ≡ t → is_numeral (take 11 bytes) ≡ t → Same (cond t (Some (value_of bytes)) None)
          (cond (is_numeral (take 11 bytes)) (Some (value_of (take 11 bytes))) None)) [
            | true ↦ λ e k. (value_of (take 11 bytes), rw k refl, capped_front bytes e k)
            | false ↦ λ e k. rw k refl
          ] refl same)
      | false ↦ λ none.
          let a : is_numeral bytes ≡ false = no_numeral bytes none in
          let b : is_numeral (short bytes) ≡ false = no_numeral (short bytes) (all_short 0 bytes ∙ none) in
          rw (a, b) refl
    ] refl

-- ---- counts and ranks

abbrev Counted : Type 0
Counted = ℕ × List ℕ

abbrev short_count : Option Counted → Option Counted
short_count o = o >>= λ p. Some (p.0, short p.1)

abbrev limited : ℕ → List ℕ → Option Counted
limited n rest = cond (nat_le n GREATEST_COUNT) (Some (n, rest)) None

-- the limit decides alike
limited_same : (n k : ℕ) (rest : List ℕ) → capped k ≡ capped n → limited k (short rest) ≡ short_count (limited n rest)
limited_same n k rest same =
    elim (cases_lt GREATEST_COUNT n) [
      | inl more ↦
          let a : nat_le n GREATEST_COUNT ≡ false = lt-leb n GREATEST_COUNT more in
          let b : nat_le k GREATEST_COUNT ≡ false = lt-leb k GREATEST_COUNT (omega (arith, same, more)) in
          rw (a, b) refl
      | inr few ↦
          let is : k ≡ n = omega (arith, same, few) in
          let a : nat_le n GREATEST_COUNT ≡ true = le-leb n GREATEST_COUNT few in
          rw (is, a) refl
    ]

count_short : (end : ℕ) (bytes : List ℕ) → is_digit end ≡ false → count_before end (short bytes) ≡ short_count (count_before end bytes)
unfolding count_before
count_short end bytes h =
    ap (λ o. o >>= λ f. number_of f.0 >>= λ n. limited n f.1) (cut_at_short end bytes h) ∙ same (cut_at end bytes)
  where
    counted : (x r : List ℕ) (o p : Option ℕ) → number_of x ≡ o → number_of (short x) ≡ p → Same o p
        → (p >>= λ n. limited n (short r)) ≡ short_count (o >>= λ n. limited n r)
    counted x r None p e f s = ap (λ p. p >>= λ n. limited n (short r)) s
    counted x r (Some n) p e f (k, is, c) = ap (λ p. p >>= λ n. limited n (short r)) is ∙ limited_same n k r c

    same : (o : Option Cut) → (short_cut 0 o >>= λ f. number_of f.0 >>= λ n. limited n f.1)
        ≡ short_count (o >>= λ f. number_of f.0 >>= λ n. limited n f.1)
    same None = refl
    same (Some p) = counted p.0 p.1 (number_of p.0) (number_of (short p.0)) refl refl (number_short p.0)

end_sign : (n : ℕ) → is_digit (end_of n) ≡ false
end_sign zero = refl
end_sign (suc n) = refl

-- a shortened line begins as the line
begins_kept : (b : ℕ) (bytes : List ℕ) → short (b ∷ bytes) ≡ b ∷ short_from (digits_then 0 b) bytes
begins_kept b bytes = step_kept 0 b bytes (elim (is_digit b) as (λ t. cond t (b ∷ []) (b ∷ []) ≡ b ∷ []) [ true ↦ refl | false ↦ refl ])

-- the counts behind the first one are found alike
counts_behind : (n : ℕ) → ((bytes : List ℕ) → counts_in n (short bytes) ≡ counts_in n bytes) → (o : Option Counted)
    → (short_count o >>= λ found. counts_in n found.1 >>= λ counts. Some (found.0 ∷ counts))
    ≡ (o >>= λ found. counts_in n found.1 >>= λ counts. Some (found.0 ∷ counts))
counts_behind n less None = refl
counts_behind n less (Some p) = ap (λ o. o >>= λ counts. Some (p.0 ∷ counts)) (less p.1)

counts_short : (n : ℕ) (bytes : List ℕ) → counts_in n (short bytes) ≡ counts_in n bytes
counts_short zero [] = refl
counts_short zero (b ∷ bytes) = ap (counts_in zero) (begins_kept b bytes)
counts_short (suc n) bytes =
    ap (λ o. o >>= λ found. counts_in n found.1 >>= λ counts. Some (found.0 ∷ counts)) (count_short (end_of n) bytes (end_sign n))
    ∙ counts_behind n (counts_short n) (count_before (end_of n) bytes)

-- what has no digit is not shortened
free_same : (d : ℕ) (bytes : List ℕ) → d < 11 → list_any is_digit (short_from d bytes) ≡ false → short_from d bytes ≡ bytes
free_same d [] less none = refl
free_same d (b ∷ bytes) less none =
    elim (is_digit b) as (λ t. is_digit b ≡ t → short_from d (b ∷ bytes) ≡ b ∷ bytes) [
      | true ↦ λ e.
          let low : nat_lt d 11 ≡ true = lt-ltb d 11 less in
          let kept : kept_of d b ≡ b ∷ [] = rw (e, low) refl in
          absurd (true≢false (sym (ap (λ t. t || list_any is_digit (short_from (digits_then d b) bytes)) e)
          ∙ sym (ap (list_any is_digit) (step_kept d b bytes kept)) ∙ none))
      | false ↦ λ e.
          let step = step_sign d b bytes e in
          let rest : list_any is_digit (short bytes) ≡ false = sym (ap (λ t. t || list_any is_digit (short bytes)) e)
          ∙ sym (ap (list_any is_digit) step) ∙ none in
          step ∙ ap (λ l. b ∷ l) (free_same 0 bytes (omega arith) rest)
    ] refl

-- a line is a word without digits where the shortened one is
pub word_short : (bytes word : List ℕ) → list_any is_digit word ≡ false → short bytes ≡ word → bytes ≡ word
word_short bytes word none e = sym (free_same 0 bytes (omega arith) (ap (list_any is_digit) e ∙ none)) ∙ e

bool_same : (a b : Bool) → (a ≡ true → b ≡ true) → (b ≡ true → a ≡ true) → a ≡ b
bool_same true b to from = sym (to refl)
bool_same false true to from = from refl
bool_same false false to from = refl

-- a word without digits is one line's or the other's
bytes_short : (bytes word : List ℕ) → list_any is_digit word ≡ false → short word ≡ word → bytes_eq (short bytes) word ≡ bytes_eq bytes word
bytes_short bytes word none same = bool_same (bytes_eq (short bytes) word) (bytes_eq bytes word)
    (λ e. (bytes_eq-Decides bytes word).1 (word_short bytes word none ((bytes_eq-Decides (short bytes) word).0 e)))
    (λ e. (bytes_eq-Decides (short bytes) word).1 (ap short ((bytes_eq-Decides bytes word).0 e) ∙ same))

pub rank_short : (n : ℕ) (bytes : List ℕ) → rank_of n (short bytes) ≡ rank_of n bytes
rank_short zero bytes = ap (λ t. cond t (Some []) None) (bytes_short bytes (codes "()") refl refl)
rank_short (suc n) [] = refl
rank_short (suc n) (b ∷ bytes) =
    elim (is_digit b) as (λ t. is_digit b ≡ t → rank_of (suc n) (short (b ∷ bytes)) ≡ rank_of (suc n) (b ∷ bytes)) [
      | true ↦ λ e.
          let other : bytes_eq (b ∷ []) (codes "(") ≡ false = no_bracket e in
          ap (rank_of (suc n)) (begins_kept b bytes) ∙ rw other refl
      | false ↦ λ e. ap (rank_of (suc n)) (step_sign 0 b bytes e)
          ∙ ap (λ o. cond (bytes_eq (b ∷ []) (codes "(")) o None) (counts_short (suc n) bytes)
    ] refl
  where
    no_bracket : is_digit b ≡ true → bytes_eq (b ∷ []) (codes "(") ≡ false
    no_bracket e = elim (bytes_eq (b ∷ []) (codes "(")) as (λ t. bytes_eq (b ∷ []) (codes "(") ≡ t → t ≡ false) [
      | true ↦ λ k. absurd (true≢false (sym (rw e refl) ∙ ap (list_all is_digit) ((bytes_eq-Decides (b ∷ []) (codes "(")).0 k)))
      | false ↦ λ k. refl
    ] refl

-- ---- moves and fields

abbrev SameMove : Option (Option ℕ) → Option (Option ℕ) → Type 0
SameMove None o = o ≡ None
SameMove (Some m) o = (k : Option ℕ) × (o ≡ Some k) × (read_move k ≡ read_move m)

move_short : (bytes : List ℕ) → SameMove (move_of bytes) (move_of (short bytes))
unfolding move_of
move_short bytes =
    rw (bytes_short bytes (codes "-") refl refl)
    (elim (bytes_eq bytes (codes "-")) as (λ t. SameMove (cond t (Some None) (number_of bytes >>= λ t. Some (Some t)))
    (cond t (Some None) (number_of (short bytes) >>= λ t. Some (Some t)))) [
      | true ↦ (None, refl, refl)
      | false ↦ same (number_of bytes) (number_of (short bytes)) (number_short bytes)
    ])
  where
    same : (o p : Option ℕ) → Same o p → SameMove (o >>= λ t. Some (Some t)) (p >>= λ t. Some (Some t))
    same None p e = ap (λ p. p >>= λ t. Some (Some t)) e
    same (Some n) p (k, e, c) = (Some k, ap (λ p. p >>= λ t. Some (Some t)) e, ap (λ n. Some n) c)

abbrev Fields : Type 0
Fields = ℕ × Option ℕ × List ℕ

abbrev fields_by : Cut → Cut → Option Fields
fields_by first second = number_of first.0 >>= λ vertex. move_of second.0 >>= λ move. Some (vertex, move, second.1)

-- the fields of a shortened line are those of the line, shortened
abbrev pub SameFields : Option Fields → Option Fields → Type 0
SameFields None o = o ≡ None
SameFields (Some f) o = (v : ℕ) × (m : Option ℕ) × (o ≡ Some (v, m, short f.2)) × (capped v ≡ capped f.0) × (read_move m ≡ read_move f.1)

pub fields_short : (line : List ℕ) → SameFields (fields_of line) (fields_of (short line))
unfolding fields_of
fields_short line =
    subst (λ o. SameFields (cut_at 32 line >>= λ first. cut_at 32 first.1 >>= λ second. fields_by first second)
    (o >>= λ first. cut_at 32 first.1 >>= λ second. fields_by first second)) (sym (cut_at_short 32 line refl)) (one (cut_at 32 line))
  where
    three : (n k : ℕ) (r : List ℕ) (o p : Option (Option ℕ)) → capped k ≡ capped n → SameMove o p
        → SameFields (o >>= λ move. Some (n, move, r)) (p >>= λ move. Some (k, move, short r))
    three n k r None p c e = ap (λ p. p >>= λ move. Some (k, move, short r)) e
    three n k r (Some m) p c (j, e, same) = (k, j, ap (λ p. p >>= λ move. Some (k, move, short r)) e, c, same)

    two : (second : Cut) (o p : Option ℕ) → Same o p → SameFields (o >>= λ vertex. move_of second.0 >>= λ move. Some (vertex, move, second.1))
        (p >>= λ vertex. move_of (short second.0) >>= λ move. Some (vertex, move, short second.1))
    two second None p e = ap (λ p. p >>= λ vertex. move_of (short second.0) >>= λ move. Some (vertex, move, short second.1)) e
    two second (Some n) p (k, e, c) =
        subst (λ p. SameFields (move_of second.0 >>= λ move. Some (n, move, second.1))
        (p >>= λ vertex. move_of (short second.0) >>= λ move. Some (vertex, move, short second.1))) (sym e)
        (three n k second.1 (move_of second.0) (move_of (short second.0)) c (move_short second.0))

    more : (first : Cut) (o : Option Cut) → SameFields (o >>= λ second. fields_by first second)
        (short_cut 0 o >>= λ second. fields_by (short first.0, short first.1) second)
    more first None = refl
    more first (Some second) = two second (number_of first.0) (number_of (short first.0)) (number_short first.0)

    one : (o : Option Cut) → SameFields (o >>= λ first. cut_at 32 first.1 >>= λ second. fields_by first second)
        (short_cut 0 o >>= λ first. cut_at 32 first.1 >>= λ second. fields_by first second)
    one None = refl
    one (Some first) = subst (λ o. SameFields (cut_at 32 first.1 >>= λ second. fields_by first second)
        (o >>= λ second. fields_by (short first.0, short first.1) second)) (sym (cut_at_short 32 first.1 refl)) (more first (cut_at 32 first.1))
