-- What the tests on a line of evidence say of the line.
use Rattle.std.proofs.Common.{◌≡◌, ℕ, zero, suc, ◌≤◌, Bool, true, false, cond, ◌==◌, ◌||◌, nat_le, List, [], ◌∷◌, ◌++◌, length, take, drop, Option, Some}
use Rattle.std.proofs.Common.{None, codes, refl, sym, ap, ◌∙◌, subst, arith, append_assoc, true≢false}
use Rattle.std.specs.List.{AllByRecursion, AllZip, join_with_byte, list_all, list_any}
use Rattle.std.specs.Str.{bytes_eq}
use Rattle.std.proofs.lemmas.Bool.{and_parts, eqb-true, le-leb, leb-true}
use Rattle.std.proofs.lemmas.List.{take-append-drop}
use Rattle.std.proofs.lemmas.Slice.Eq.{bytes_eq-Decides}
use Rattle.text.specs.Text.{IsNumeral, is_digit, is_numeral, value_of}
use Rattle.text.specs.Tokens.{capped, cut_at, whole_number, ◌>>=◌}
use Rattle.text.proofs.Scanning.{bind_some, cut_finds, cut_gives, if_some, whole_gives}
use Rattle.text.proofs.Spaced.{numeral_digits}
use Rattle.measures.specs.MeasureText.{AreCounts}
use Rattle.evidence.specs.declared.limits.TheConstants.{GREATEST_COUNT}
use Rattle.evidence.specs.Scan.{count_before, counts_in, end_of, fields_of, move_of, number_of, rank_of}
use Rattle.evidence.specs.Spelling.{IsMoveText, IsShaped, EntryRow}

some_is : {A : Type 0} (x y : A) → Some x ≡ Some y → x ≡ y
some_is x y e = cc

if_then : {A : Type 0} (b : Bool) (o : Option A) (y : A) → cond b o None ≡ Some y → (b ≡ true) × (o ≡ Some y)
if_then true o y e = (refl, e)
if_then false o y e = absurd cc

-- ---- numbers and moves

number_gives : (bytes : List ℕ) (n : ℕ) → number_of bytes ≡ Some n → IsNumeral bytes n
unfolding number_of
number_gives bytes n e = if_some (is_numeral bytes) (value_of bytes) n e

number_finds : (bytes : List ℕ) (n : ℕ) → IsNumeral bytes n → number_of bytes ≡ Some n
unfolding number_of
number_finds bytes n h = rw h.0 (ap (λ k. Some k) h.1)

-- the number that was read is this one, or the greatest of its type
pub whole_some : (bytes : List ℕ) (v : ℕ) → whole_number bytes ≡ Some v → (n : ℕ) × (number_of bytes ≡ Some n) × (v ≡ capped n)
whole_some bytes v e = let h = whole_gives bytes v e in (value_of bytes, number_finds bytes (value_of bytes) (h.0, refl), h.1)

pub whole_none : (bytes : List ℕ) → whole_number bytes ≡ None → number_of bytes ≡ None
unfolding whole_number number_of
whole_none bytes e =
    elim (is_numeral bytes) as (λ b. cond b (Some (capped (value_of bytes))) None ≡ None → cond b (Some (value_of bytes)) None ≡ None)
    [ true ↦ λ k. absurd cc | false ↦ λ k. refl ] e

digits_free : (c : ℕ) (ds : List ℕ) → is_digit c ≡ false → list_all is_digit ds ≡ true → list_any (λ b. b == c) ds ≡ false
digits_free c [] h all = refl
digits_free c (d ∷ ds) h all =
    let both = and_parts (is_digit d) (list_all is_digit ds) all in
    elim (d == c) as (λ b. (d == c) ≡ b → (b || list_any (λ b. b == c) ds) ≡ false) [
      | true ↦ λ e. absurd (true≢false (sym both.0 ∙ (ap is_digit (eqb-true d c e) ∙ h)))
      | false ↦ λ e. digits_free c ds h both.1
    ] refl

-- A numeral has none of these bytes.
numeral_free : (c : ℕ) (bytes : List ℕ) (n : ℕ) → is_digit c ≡ false → IsNumeral bytes n → list_any (λ b. b == c) bytes ≡ false
numeral_free c bytes n h k = digits_free c bytes h (numeral_digits bytes k.0)

move_gives : (bytes : List ℕ) (m : Option ℕ) → move_of bytes ≡ Some m → IsMoveText bytes m
unfolding move_of
move_gives bytes m e =
    elim (bytes_eq bytes (codes "-")) as (λ b. bytes_eq bytes (codes "-") ≡ b → cond b (Some None) (number_of bytes >>= λ t. Some (Some t)) ≡ Some m
    → IsMoveText bytes m) [
      | true ↦ λ same k. subst (IsMoveText bytes) (some_is None m k) ((bytes_eq-Decides bytes (codes "-")).0 same)
      | false ↦ λ other k. let (t, found, is) = bind_some (number_of bytes) (λ t. Some (Some t)) m k
          in subst (IsMoveText bytes) (some_is (Some t) m is) (number_gives bytes t found)
    ] refl e

no_dash : (bytes : List ℕ) (t : ℕ) → IsNumeral bytes t → bytes_eq bytes (codes "-") ≡ false
no_dash bytes t h =
    elim (bytes_eq bytes (codes "-")) as (λ b. bytes_eq bytes (codes "-") ≡ b → b ≡ false) [
      | true ↦ λ e. absurd (true≢false (sym h.0 ∙ ap is_numeral ((bytes_eq-Decides bytes (codes "-")).0 e)))
      | false ↦ λ e. refl
    ] refl

move_finds : (bytes : List ℕ) (m : Option ℕ) → IsMoveText bytes m → move_of bytes ≡ Some m
unfolding move_of
move_finds bytes None h = rw h refl
move_finds bytes (Some t) h = rw (no_dash bytes t h, number_finds bytes t h) refl

move_free : (bytes : List ℕ) (m : Option ℕ) → IsMoveText bytes m → list_any (λ b. b == 32) bytes ≡ false
move_free bytes None h = rw h refl
move_free bytes (Some t) h = numeral_free 32 bytes t refl h

-- ---- the fields

abbrev last_field : ℕ → List ℕ × List ℕ → Option (ℕ × Option ℕ × List ℕ)
last_field vertex second = move_of second.0 >>= λ move. Some (vertex, move, second.1)

abbrev more_fields : List ℕ × List ℕ → List ℕ × List ℕ → Option (ℕ × Option ℕ × List ℕ)
more_fields first second = number_of first.0 >>= λ vertex. last_field vertex second

fields_give : (line : List ℕ) (v : ℕ) (m : Option ℕ) (r : List ℕ) → fields_of line ≡ Some (v, m, r)
    → (x y : List ℕ) × IsNumeral x v × IsMoveText y m × (line ≡ x ++ 32 ∷ (y ++ 32 ∷ r))
unfolding fields_of
fields_give line v m r e =
    let (first, cut, e1) = bind_some (cut_at 32 line) (λ first. cut_at 32 first.1 >>= λ second. more_fields first second) (v, m, r) e in
    let (second, next, e2) = bind_some (cut_at 32 first.1) (λ second. more_fields first second) (v, m, r) e1 in
    let (vertex, number, e3) = bind_some (number_of first.0) (λ vertex. last_field vertex second) (v, m, r) e2 in
    let (move, found, e4) = bind_some (move_of second.0) (λ move. Some (vertex, move, second.1)) (v, m, r) e3 in
    let same = some_is (vertex, move, second.1) (v, m, r) e4 in
    let v-is : vertex ≡ v = ap (λ (p : ℕ × Option ℕ × List ℕ). p.0) same in
    let m-is : move ≡ m = ap (λ (p : ℕ × Option ℕ × List ℕ). p.1) same in
    let r-is : second.1 ≡ r = ap (λ (p : ℕ × Option ℕ × List ℕ). p.2) same in (
      first.0,
      second.0,
      subst (IsNumeral first.0) v-is (number_gives first.0 vertex number),
      subst (IsMoveText second.0) m-is (move_gives second.0 move found),
      (cut_gives 32 line first.0 first.1 cut).1 ∙ ap (λ l. first.0 ++ 32 ∷ l)
          ((cut_gives 32 first.1 second.0 second.1 next).1 ∙ ap (λ l. second.0 ++ 32 ∷ l) r-is),
    )

fields_found : (x y r : List ℕ) (v : ℕ) (m : Option ℕ) → IsNumeral x v → IsMoveText y m → fields_of (x ++ 32 ∷ (y ++ 32 ∷ r)) ≡ Some (v, m, r)
unfolding fields_of
fields_found x y r v m h k = rw (
  cut_finds 32 x (y ++ 32 ∷ r) (numeral_free 32 x v refl h),
  cut_finds 32 y r (move_free y m k),
  number_finds x v h,
  move_finds y m k,
) refl

-- ---- the counts

before_gives : (end : ℕ) (bytes : List ℕ) (k : ℕ) (rest : List ℕ) → count_before end bytes ≡ Some (k, rest) → (x : List ℕ) × IsNumeral x k
    × (k ≤ GREATEST_COUNT) × (bytes ≡ x ++ end ∷ rest)
unfolding count_before
before_gives end bytes k rest e =
    let (found, cut, e1) = bind_some (cut_at end bytes) (λ found. number_of found.0 >>= λ count. cond (nat_le count GREATEST_COUNT)
    (Some (count, found.1)) None) (k, rest) e in
    let (count, number, e2) = bind_some (number_of found.0) (λ count. cond (nat_le count GREATEST_COUNT) (Some (count, found.1)) None) (k, rest) e1 in
    let h = if_some (nat_le count GREATEST_COUNT) (count, found.1) (k, rest) e2 in
    let k-is : count ≡ k = ap (λ (p : ℕ × List ℕ). p.0) h.1 in
    let rest-is : found.1 ≡ rest = ap (λ (p : ℕ × List ℕ). p.1) h.1 in (
      found.0,
      subst (IsNumeral found.0) k-is (number_gives found.0 count number),
      subst (λ n. n ≤ GREATEST_COUNT) k-is (leb-true count GREATEST_COUNT h.0),
      (cut_gives end bytes found.0 found.1 cut).1 ∙ ap (λ l. found.0 ++ end ∷ l) rest-is,
    )

before_found : (end : ℕ) (x : List ℕ) (k : ℕ) (rest : List ℕ) → is_digit end ≡ false → IsNumeral x k → k ≤ GREATEST_COUNT
    → count_before end (x ++ end ∷ rest) ≡ Some (k, rest)
unfolding count_before
before_found end x k rest h numeral small = rw (
  cut_finds end x rest (numeral_free end x k h numeral),
  number_finds x k numeral,
  le-leb k GREATEST_COUNT small,
) refl

-- counts that have their ends behind them
abbrev ended : List (List ℕ) → List ℕ
ended [] = []
ended (x ∷ []) = x ++ 41 ∷ []
ended (x ∷ y ∷ xs) = x ++ 44 ∷ ended (y ∷ xs)

ended_joined : (x : List ℕ) (xs : List (List ℕ)) → ended (x ∷ xs) ≡ join_with_byte 44 (x ∷ xs) ++ codes ")"
ended_joined x [] = refl
ended_joined x (y ∷ xs) = ap (λ l. x ++ 44 ∷ l) (ended_joined y xs) ∙ sym (append_assoc x (44 ∷ join_with_byte 44 (y ∷ xs)) (codes ")"))

record AreEnded (n : ℕ) (bytes : List ℕ) (ks : List ℕ) : Type 0 where
  numerals : List (List ℕ)
  each : AllZip IsNumeral numerals ks
  is : bytes ≡ ended numerals
  long : length ks ≡ n
  small : AllByRecursion (λ k. k ≤ GREATEST_COUNT) ks

with_end : (x : List ℕ) (n : ℕ) (numerals : List (List ℕ)) (ks rest : List ℕ) → AllZip IsNumeral numerals ks → length ks ≡ n → rest ≡ ended numerals
    → x ++ end_of n ∷ rest ≡ ended (x ∷ numerals)
with_end x zero [] ks rest each long e = ap (λ l. x ++ 41 ∷ l) e
with_end x zero (y ∷ ys) [] rest each long e = absurd each
with_end x zero (y ∷ ys) (k ∷ ks) rest each long e = absurd (omega (arith, long))
with_end x (suc n) [] [] rest each long e = absurd (omega (arith, long))
with_end x (suc n) [] (k ∷ ks) rest each long e = absurd each
with_end x (suc n) (y ∷ ys) ks rest each long e = ap (λ l. x ++ 44 ∷ l) e

counts_give : (n : ℕ) (bytes ks : List ℕ) → counts_in n bytes ≡ Some ks → AreEnded n bytes ks
counts_give zero [] ks e = subst (AreEnded zero []) (some_is [] ks e) (record { numerals = []; each = tt; is = refl; long = refl; small = tt })
counts_give zero (b ∷ bytes) ks e = absurd cc
counts_give (suc n) bytes ks e =
    let (found, before, e1) = bind_some (count_before (end_of n) bytes) (λ found. counts_in n found.1 >>= λ counts. Some (found.0 ∷ counts)) ks e in
    let (more, rest, e2) = bind_some (counts_in n found.1) (λ counts. Some (found.0 ∷ counts)) ks e1 in
    let (x, numeral, small, cut) = before_gives (end_of n) bytes found.0 found.1 before in
    let others = counts_give n found.1 more rest in
    subst (AreEnded (suc n) bytes) (some_is (found.0 ∷ more) ks e2)
    (record {
      numerals = x ∷ others.numerals;
      each = (numeral, others.each);
      is = cut
          ∙ with_end x n others.numerals more found.1 others.each others.long others.is;
      long = ap suc others.long;
      small = (small, others.small);
    })

counts_found : (numerals : List (List ℕ)) (ks : List ℕ) → AllZip IsNumeral numerals ks → AllByRecursion (λ k. k ≤ GREATEST_COUNT) ks
    → counts_in (length ks) (ended numerals) ≡ Some ks
counts_found [] [] each small = refl
counts_found [] (k ∷ ks) each small = absurd each
counts_found (x ∷ xs) [] each small = absurd each
counts_found (x ∷ []) (k ∷ []) each small = rw (before_found 41 x k [] refl each.0 small.0) refl
counts_found (x ∷ []) (k ∷ j ∷ ks) each small = absurd each.1
counts_found (x ∷ y ∷ xs) (k ∷ []) each small = absurd each.1
counts_found (x ∷ y ∷ xs) (k ∷ j ∷ ks) each small = rw (
  before_found 44 x k (ended (y ∷ xs)) refl each.0 small.0,
  counts_found (y ∷ xs) (j ∷ ks) each.1 small.1,
) refl

record IsRank (n : ℕ) (bytes : List ℕ) (ks : List ℕ) : Type 0 where
  counts : AreCounts bytes ks
  long : length ks ≡ n
  small : AllByRecursion (λ k. k ≤ GREATEST_COUNT) ks

in_brackets : (n : ℕ) (bytes ks : List ℕ) → take 1 bytes ≡ codes "(" → (rest : AreEnded (suc n) (drop 1 bytes) ks) → AreCounts bytes ks
in_brackets n bytes ks opened rest = (
  rest.numerals,
  rest.each,
  sym (take-append-drop 1 bytes) ∙ (ap (λ l. l ++ drop 1 bytes) opened ∙ ap (λ l. 40 ∷ l) (rest.is ∙ join rest.numerals ks rest.each rest.long)),
)
  where
    join : (numerals : List (List ℕ)) (ks : List ℕ) → AllZip IsNumeral numerals ks → length ks ≡ suc n
        → ended numerals ≡ join_with_byte 44 numerals ++ codes ")"
    join [] [] each long = absurd (omega (arith, long))
    join [] (k ∷ ks) each long = absurd each
    join (x ∷ xs) ks each long = ended_joined x xs

rank_gives : (n : ℕ) (bytes ks : List ℕ) → rank_of n bytes ≡ Some ks → IsRank n bytes ks
rank_gives zero bytes ks e =
    let h = if_some (bytes_eq bytes (codes "()")) [] ks e in
    subst (IsRank zero bytes) h.1 (record { counts = ([], tt, (bytes_eq-Decides bytes (codes "()")).0 h.0); long = refl; small = tt })
rank_gives (suc n) bytes ks e =
    let h = if_then (bytes_eq (take 1 bytes) (codes "(")) (counts_in (suc n) (drop 1 bytes)) ks e in
    let rest = counts_give (suc n) (drop 1 bytes) ks h.1 in
    record { counts = in_brackets n bytes ks ((bytes_eq-Decides (take 1 bytes) (codes "(")).0 h.0) rest; long = rest.long; small = rest.small }

rank_found : (bytes ks : List ℕ) → AreCounts bytes ks → AllByRecursion (λ k. k ≤ GREATEST_COUNT) ks → rank_of (length ks) bytes ≡ Some ks
rank_found bytes [] ([], each, is) small = rw is refl
rank_found bytes [] (x ∷ xs, each, is) small = absurd each
rank_found bytes (k ∷ ks) ([], each, is) small = absurd each
rank_found bytes (k ∷ ks) (x ∷ xs, each, is) small =
    ap (rank_of (suc (length ks))) is ∙ (ap (counts_in (suc (length ks))) (sym (ended_joined x xs)) ∙ counts_found (x ∷ xs) (k ∷ ks) each small)

-- ---- the line

-- what a line says, if it has the shape of one with so many counts
abbrev pub row_of : ℕ → List ℕ → Option EntryRow
row_of width line = fields_of line >>= λ f. rank_of width f.2 >>= λ rank. Some (record { vertex = f.0; entry = record { move = f.1; rank = rank } })

pub row_gives : (width : ℕ) (line : List ℕ) (row : EntryRow) → row_of width line ≡ Some row → IsShaped width line row
row_gives width line row e =
    let (f, found, after) = bind_some (fields_of line) (λ f. rank_of width f.2 >>= λ rank. Some
    (record { vertex = f.0; entry = record { move = f.1; rank = rank } })) row e in
    let (rank, read, said) = bind_some (rank_of width f.2) (λ rank. Some (record { vertex = f.0; entry = record { move = f.1; rank = rank } })) row after in
    let (x, y, vertex, move, cut) = fields_give line f.0 f.1 f.2 found in
    let r = rank_gives width f.2 rank read in
    subst (IsShaped width line) (some_is (record { vertex = f.0; entry = record { move = f.1; rank = rank } }) row said)
    (record { spelled = record { v = x; m = y; r = f.2; vertex = vertex; move = move; rank = r.counts; joined = cut }; count = r.long; small = r.small })

pub row_found : (width : ℕ) (line : List ℕ) (row : EntryRow) → IsShaped width line row → row_of width line ≡ Some row
row_found width line row h =
    let s = h.spelled in
    let fields : fields_of line ≡ Some (row.vertex, row.entry.move, s.r) = ap fields_of s.joined
    ∙ fields_found s.v s.m s.r row.vertex row.entry.move s.vertex s.move in
    let rank : rank_of width s.r ≡ Some row.entry.rank = ap (λ n. rank_of n s.r) (sym h.count) ∙ rank_found s.r row.entry.rank s.rank h.small in
    rw (fields, rank) refl

-- A line says one thing at most.
pub row_same : (width : ℕ) (line : List ℕ) (a b : EntryRow) → IsShaped width line a → IsShaped width line b → a ≡ b
row_same width line a b h k = some_is a b (sym (row_found width line a h) ∙ row_found width line b k)
