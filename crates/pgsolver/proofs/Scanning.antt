-- What the tests on a whole line say of the line.
use Rattle.std.proofs.Common.{◌≡◌, ℕ, zero, suc, ◌+◌, ◌-◌, ◌*◌, ◌<◌, ◌≤◌, Bool, true, false, cond, ◌==◌, nat_eq, List, [], ◌∷◌, ◌++◌, length, map, Option}
use Rattle.std.proofs.Common.{Some, None, refl, sym, ap, ◌∙◌, subst, append_assoc, arith}
use Rattle.std.specs.Prelude.{codes, nat_le}
use Rattle.std.specs.List.{list_all, prefix_len, fold, AllZip}
use Rattle.std.proofs.lemmas.Bool.{and_parts, eqb-true, leb-true}
use Rattle.std.proofs.lemmas.List.{length-append}
use Rattle.std.proofs.lemmas.List.Folds.{list_all-append}
use Rattle.text.specs.Text.{is_blank, is_digit, is_numeral, value_of, IsNumeral, IsSpaced}
use Rattle.text.specs.Tokens.{capped, past_blanks, sign_at, number_at, number_before, quoted_at, end_at, ◌>>=◌}
use Rattle.text.proofs.Spaced.{blank_no_digit}
use Rattle.text.proofs.Scanning.{bind_some, if_some, sign_gives, sign_finds, number_gives, number_finds, number_before_gives, number_before_finds}
use Rattle.text.proofs.Scanning.{quoted_gives, quoted_finds, end_gives, end_finds, past_gap, run_none}
use Rattle.systems.specs.Label.{is_label_byte}
use Rattle.lts.proofs.Canonical.{label_bytes}
use Rattle.game.specs.declared.player.Player.{Player}
use Rattle.game.specs.declared.player.Player.TheVariants.{Even, Odd}
use Rattle.pgsolver.specs.declared.scan.Head.{Head}
use Rattle.pgsolver.specs.Canon.{owner_digit}
use Rattle.pgsolver.specs.Spelling.{VertexLine, IsPgHeader, IsOneBlank, IsLine, IsName, is_vertex_name, name_tokens, successor_tokens, with_commas}
use Rattle.pgsolver.specs.Scan.{capped_line, line_said, header_at, gap_at, number_gap, owner_at, head_at, first_at, more_at, more_behind, targets_at}
use Rattle.pgsolver.specs.Scan.{targets_behind, name_at, name_behind, tail_at, line_at}

abbrev Tokens : Type 0
Tokens = List (List ℕ)

abbrev both : {A B : Type 0} → A → B → A × B
both a b = (a, b)

some_same : {A B : Type 0} (a c : A) (b d : B) → Some (both a b) ≡ Some (both c d) → (a ≡ c) × (b ≡ d)
some_same {A} {B} a c b d e = let same : both a b ≡ both c d = cc in (ap (λ (q : A × B). q.0) same, ap (λ (q : A × B). q.1) same)

-- ---- the header

pub header_gives : (line : List ℕ) (v : ℕ) → header_at line ≡ Some v → (n : ℕ) × IsPgHeader line n × (v ≡ capped n)
unfolding header_at
header_gives line v e =
    let (r1, s1, e1) = bind_some (sign_at (codes "parity") line) (λ rest. number_before (codes ";") rest >>= λ n. end_at n.0 n.1) v e in
    let (n, s2, e2) = bind_some (number_before (codes ";") r1) (λ n. end_at n.0 n.1) v e1 in
    let (blank, same) = end_gives n.0 v n.1 e2 in
    let (x, hx, vx, gx) = number_before_gives (codes ";") r1 n.0 n.1 s2 in
    (value_of x, (x, (hx, refl), sign_gives (codes "parity") line r1 (x ∷ codes ";" ∷ []) s1 (gx [] blank)), sym same ∙ vx)

pub header_finds : (line : List ℕ) (n : ℕ) → IsPgHeader line n → header_at line ≡ Some (capped n)
unfolding header_at
header_finds line n (x, hx, spaced) =
    let (r1, s1, m1) = sign_finds 112 (97 ∷ 114 ∷ 105 ∷ 116 ∷ 121 ∷ []) line (x ∷ codes ";" ∷ []) refl spaced in
    let (r2, s2, m2) = number_before_finds x 59 [] r1 [] hx.0 refl refl m1 in
    rw (s1, s2, end_finds (capped (value_of x)) r2 m2, hx.1) refl

-- ---- gaps

gap_gives : (line rest : List ℕ) → gap_at line ≡ Some rest → (gap : List ℕ) × IsOneBlank gap × ((ts : Tokens) → IsSpaced ts rest → IsSpaced (gap ∷ ts) line)
unfolding gap_at
gap_gives [] rest e = absurd cc
gap_gives (b ∷ bs) rest e = let h = if_some (is_blank b) bs rest e in (b ∷ [], (b, h.0, refl), λ ts more. ([], rest, refl, ap (λ l. b ∷ l) h.1, more))

-- more blanks in front
spaced_after : (gap : List ℕ) (ts : Tokens) (rest : List ℕ) → list_all is_blank gap ≡ true → IsSpaced ts rest → IsSpaced ts (gap ++ rest)
spaced_after gap [] rest blank more = list_all-append is_blank gap rest ∙ rw (blank, more) refl
spaced_after gap (t ∷ ts) rest blank (g, r, b, e, more) = (
  gap ++ g,
  r,
  list_all-append is_blank gap g ∙ rw (blank, b) refl,
  ap (λ l. gap ++ l) e
      ∙ sym (append_assoc gap g (t ++ r)),
  more,
)

gap_finds : (b : ℕ) (ts : Tokens) (line : List ℕ) → is_blank b ≡ true → IsSpaced ((b ∷ []) ∷ ts) line → (rest : List ℕ) × (gap_at line ≡ Some rest)
    × IsSpaced ts rest
unfolding gap_at
gap_finds b ts line h ([], r, blank, e, more) = (r, ap gap_at e ∙ rw h refl, more)
gap_finds b ts line h (g ∷ gs, r, blank, e, more) =
    let parts = and_parts (is_blank g) (list_all is_blank gs) blank in
    (gs ++ (b ∷ r), ap gap_at e ∙ rw parts.0 refl, spaced_after gs ts (b ∷ r) parts.1 (spaced_after (b ∷ []) ts r (rw h refl) more))

-- ---- signs and numbers that are not there

number_none : (c : ℕ) (cs : List ℕ) (ts : Tokens) (line : List ℕ) → is_blank c ≡ false → is_digit c ≡ false → IsSpaced ((c ∷ cs) ∷ ts) line
    → number_at line ≡ None
unfolding number_at
number_none c cs ts line h k (gap, rest, blank, e, more) =
    let start : past_blanks line ≡ c ∷ (cs ++ rest) = ap past_blanks e ∙ past_gap gap (c ∷ (cs ++ rest)) blank h in
    let none : prefix_len is_digit (c ∷ (cs ++ rest)) ≡ 0 = run_none is_digit (c ∷ (cs ++ rest)) k in
    rw (start, none) refl

sign_none : (c : ℕ) (cs : List ℕ) (ts : Tokens) (line : List ℕ) (d : ℕ) (ds : List ℕ) → is_blank c ≡ false → nat_eq c d ≡ false
    → IsSpaced ((c ∷ cs) ∷ ts) line → sign_at (d ∷ ds) line ≡ None
unfolding sign_at
sign_none c cs ts line d ds h k (gap, rest, blank, e, more) =
    let start : past_blanks line ≡ c ∷ (cs ++ rest) = ap past_blanks e ∙ past_gap gap (c ∷ (cs ++ rest)) blank h in
    rw (start, k) refl

first_none : (c : ℕ) (cs : List ℕ) (ts : Tokens) (line : List ℕ) → is_blank c ≡ false → is_digit c ≡ false → IsSpaced ((c ∷ cs) ∷ ts) line
    → first_at line ≡ None
unfolding first_at gap_at
first_none c cs ts line h k ([], rest, blank, e, more) = ap first_at e ∙ rw h refl
first_none c cs ts line h k (g ∷ gs, rest, blank, e, more) =
    let parts = and_parts (is_blank g) (list_all is_blank gs) blank in
    ap first_at e ∙ rw parts.0 (number_none c cs ts (gs ++ ((c ∷ cs) ++ rest)) h k (gs, rest, parts.1, refl, more))

-- ---- numbers before gaps, and the owner

number_gap_gives : (line : List ℕ) (v : ℕ) (rest : List ℕ) → number_gap line ≡ Some (v, rest)
    → (x gap : List ℕ) × (is_numeral x ≡ true) × IsOneBlank gap × (v ≡ capped (value_of x)) × ((ts : Tokens) → IsSpaced ts rest → IsSpaced (x ∷ gap ∷ ts) line)
unfolding number_gap
number_gap_gives line v rest e =
    let (n, found, e2) = bind_some (number_at line) (λ n. gap_at n.1 >>= λ rest. Some (n.0, rest)) (v, rest) e in
    let (after, gapped, e3) = bind_some (gap_at n.1) (λ rest. Some (n.0, rest)) (v, rest) e2 in
    let (x, numeral, value, spaced) = number_gives line n.0 n.1 found in
    let (gap, is, more) = gap_gives n.1 after gapped in
    let (v-is, rest-is) = some_same n.0 v after rest e3 in
    (x, gap, numeral, is, sym v-is ∙ value, λ ts m. spaced (gap ∷ ts) (more ts (subst (IsSpaced ts) (sym rest-is) m)))

number_gap_finds : (x gap : List ℕ) (ts : Tokens) (line : List ℕ) → is_numeral x ≡ true → IsOneBlank gap → IsSpaced (x ∷ gap ∷ ts) line → (rest : List ℕ)
    × (number_gap line ≡ Some (capped (value_of x), rest)) × IsSpaced ts rest
unfolding number_gap
number_gap_finds x gap ts line hx (b, blank, is) spaced =
    let (after, found, more) = number_finds x b [] line ts hx (blank_no_digit b blank) (subst (λ l. IsSpaced (x ∷ l ∷ ts) line) is spaced) in
    let (rest, gapped, last) = gap_finds b ts after blank more in
    (rest, rw (found, gapped) refl, last)

fold_low : (ds : List ℕ) (a : ℕ) → a ≤ fold (λ n d. 10 * n + (d - 48)) a ds
fold_low [] a = omega arith
fold_low (d ∷ ds) a = omega (arith, fold_low ds (10 * a + (d - 48)))

-- the numeral of a digit is that digit
one_digit : (x : List ℕ) (k : ℕ) → k < 10 → is_numeral x ≡ true → k ≡ capped (value_of x) → x ≡ (48 + k) ∷ []
one_digit [] k small h e = absurd cc
one_digit (d ∷ []) k small h e =
    let low : 48 ≤ d = omega (arith, leb-true 48 d (and_parts (nat_le 48 d) (nat_le d 57) h).0) in
    let same : d ≡ 48 + k = omega arith in
    ap (λ d. d ∷ []) same
one_digit (d ∷ f ∷ ds) k small h e =
    let low : 49 ≤ d = leb-true 49 d (and_parts (nat_le 49 d) (list_all is_digit (d ∷ f ∷ ds)) h).0 in
    absurd (omega (arith, fold_low ds (10 * (10 * 0 + (d - 48)) + (f - 48))))

abbrev digit_of : Player → ℕ
digit_of Even = 0
digit_of Odd = 1

digit_is : (o : Player) → (48 + digit_of o) ∷ [] ≡ owner_digit o
digit_is Even = refl
digit_is Odd = refl

small_digit : (o : Player) → digit_of o < 10
small_digit Even = omega arith
small_digit Odd = omega arith

-- the owner of the number
owner_split : (a b : Bool) (n : ℕ) (r : List ℕ) (o : Player) (rest : List ℕ) → (n == 0) ≡ a → (n == 1) ≡ b
    → cond a (Some (both Even r)) (cond b (Some (both Odd r)) None) ≡ Some (both o rest) → (n ≡ digit_of o) × (r ≡ rest)
owner_split true b n r o rest p q e = let same = some_same Even o r rest e in (eqb-true n 0 p ∙ ap digit_of same.0, same.1)
owner_split false true n r o rest p q e = let same = some_same Odd o r rest e in (eqb-true n 1 q ∙ ap digit_of same.0, same.1)
owner_split false false n r o rest p q e = absurd cc

owner_gives : (line : List ℕ) (o : Player) (rest : List ℕ) → owner_at line ≡ Some (o, rest) → (ts : Tokens) → IsSpaced ts rest
    → IsSpaced (owner_digit o ∷ ts) line
unfolding owner_at
owner_gives line o rest e ts more =
    let (n, found, e2) = bind_some (number_at line) (λ n. cond (n.0 == 0) (Some (Even, n.1)) (cond (n.0 == 1) (Some (Odd, n.1)) None)) (o, rest) e in
    let (x, numeral, value, spaced) = number_gives line n.0 n.1 found in
    let (is, rest-is) = owner_split (n.0 == 0) (n.0 == 1) n.0 n.1 o rest refl refl e2 in
    let digit : x ≡ owner_digit o = one_digit x (digit_of o) (small_digit o) numeral (sym is ∙ value) ∙ digit_is o in
    subst (λ l. IsSpaced (l ∷ ts) line) digit (spaced ts (subst (IsSpaced ts) (sym rest-is) more))

owner_finds : (o : Player) (c : ℕ) (cs : List ℕ) (ts : Tokens) (line : List ℕ) → is_digit c ≡ false → IsSpaced (owner_digit o ∷ (c ∷ cs) ∷ ts) line
    → (rest : List ℕ) × (owner_at line ≡ Some (o, rest)) × IsSpaced ((c ∷ cs) ∷ ts) rest
unfolding owner_at
owner_finds Even c cs ts line h spaced = let (rest, found, more) = number_finds (codes "0") c cs line ts refl h spaced in (rest, rw found refl, more)
owner_finds Odd c cs ts line h spaced = let (rest, found, more) = number_finds (codes "1") c cs line ts refl h spaced in (rest, rw found refl, more)

-- what stands in front of the successors
record HasFront (line : List ℕ) (head : Head) (rest : List ℕ) : Type 0 where
  i : List ℕ
  p : List ℕ
  first_gap : List ℕ
  second_gap : List ℕ
  id : is_numeral i ≡ true
  priority : is_numeral p ≡ true
  first : IsOneBlank first_gap
  second : IsOneBlank second_gap
  id_is : head.id ≡ capped (value_of i)
  priority_is : head.priority ≡ capped (value_of p)
  spaced : (ts : Tokens) → IsSpaced ts rest → IsSpaced (i ∷ first_gap ∷ p ∷ second_gap ∷ owner_digit head.owner ∷ ts) line

abbrev head_with : ℕ → ℕ → Player → Head
head_with i p o = record { id = i; priority = p; owner = o }

front_gives : (line : List ℕ) (head : Head) (rest : List ℕ) → head_at line ≡ Some (head, rest) → HasFront line head rest
unfolding head_at
front_gives line head rest e =
    let (i, s1, e1) = bind_some (number_gap line) (λ i. number_gap i.1 >>= λ p. owner_at p.1 >>= λ o. Some (head_with i.0 p.0 o.0, o.1)) (head, rest) e in
    let (p, s2, e2) = bind_some (number_gap i.1) (λ p. owner_at p.1 >>= λ o. Some (head_with i.0 p.0 o.0, o.1)) (head, rest) e1 in
    let (o, s3, e3) = bind_some (owner_at p.1) (λ o. Some (head_with i.0 p.0 o.0, o.1)) (head, rest) e2 in
    let (x, g, hx, hg, vx, gx) = number_gap_gives line i.0 i.1 s1 in
    let (y, f, hy, hf, vy, gy) = number_gap_gives i.1 p.0 p.1 s2 in
    let (same, rest-is) = some_same (head_with i.0 p.0 o.0) head o.1 rest e3 in
    record {
      i = x;
      p = y;
      first_gap = g;
      second_gap = f;
      id = hx;
      priority = hy;
      first = hg;
      second = hf;
      id_is = sym (ap (λ (h : Head). h.id) same) ∙ vx;
      priority_is = sym (ap (λ (h : Head). h.priority) same) ∙ vy;
      spaced = λ ts more. subst (λ (h : Head). IsSpaced (x ∷ g ∷ y ∷ f ∷ owner_digit h.owner ∷ ts) line) same
          (gx (y ∷ f ∷ owner_digit o.0 ∷ ts) (gy (owner_digit o.0 ∷ ts) (owner_gives p.1 o.0 o.1 s3 ts (subst (IsSpaced ts) (sym rest-is) more))));
    }

front_finds : (i g p f : List ℕ) (o : Player) (c : ℕ) (cs : List ℕ) (ts : Tokens) (line : List ℕ) → is_numeral i ≡ true → is_numeral p ≡ true → IsOneBlank g
    → IsOneBlank f → is_digit c ≡ false
    → IsSpaced (i ∷ g ∷ p ∷ f ∷ owner_digit o ∷ (c ∷ cs) ∷ ts) line → (rest : List ℕ)
    × (head_at line ≡ Some (head_with (capped (value_of i)) (capped (value_of p)) o, rest)) × IsSpaced ((c ∷ cs) ∷ ts) rest
unfolding head_at
front_finds i g p f o c cs ts line hi hp hg hf h spaced =
    let (r1, s1, m1) = number_gap_finds i g (p ∷ f ∷ owner_digit o ∷ (c ∷ cs) ∷ ts) line hi hg spaced in
    let (r2, s2, m2) = number_gap_finds p f (owner_digit o ∷ (c ∷ cs) ∷ ts) r1 hp hf m1 in
    let (r3, s3, m3) = owner_finds o c cs ts r2 h m2 in
    (r3, rw (s1, s2, s3) refl, m3)

-- ---- successors

first_gives : (line : List ℕ) (v : ℕ) (rest : List ℕ) → first_at line ≡ Some (v, rest)
    → (gap x : List ℕ) × IsOneBlank gap × (is_numeral x ≡ true) × (v ≡ capped (value_of x)) × ((ts : Tokens) → IsSpaced ts rest → IsSpaced (gap ∷ x ∷ ts) line)
unfolding first_at
first_gives line v rest e =
    let (after, gapped, found) = bind_some (gap_at line) (λ rest. number_at rest) (v, rest) e in
    let (gap, is, more) = gap_gives line after gapped in
    let (x, numeral, value, spaced) = number_gives after v rest found in
    (gap, x, is, numeral, value, λ ts m. more (x ∷ ts) (spaced ts m))

first_finds : (gap x : List ℕ) (c : ℕ) (cs : List ℕ) (ts : Tokens) (line : List ℕ) → IsOneBlank gap → is_numeral x ≡ true → is_digit c ≡ false
    → IsSpaced (gap ∷ x ∷ (c ∷ cs) ∷ ts) line
    → (rest : List ℕ) × (first_at line ≡ Some (capped (value_of x), rest)) × IsSpaced ((c ∷ cs) ∷ ts) rest
unfolding first_at
first_finds gap x c cs ts line (b, blank, is) hx h spaced =
    let (after, gapped, more) = gap_finds b (x ∷ (c ∷ cs) ∷ ts) line blank (subst (λ l. IsSpaced (l ∷ x ∷ (c ∷ cs) ∷ ts) line) is spaced) in
    let (rest, found, last) = number_finds x c cs after ts hx h more in
    (rest, rw (gapped, found) refl, last)

-- the numbers behind commas that a test found
record HasMore (line numbers rest : List ℕ) : Type 0 where
  xs : Tokens
  vs : List ℕ
  each : AllZip IsNumeral xs vs
  numbers_are : numbers ≡ map capped vs
  spaced : (ts : Tokens) → IsSpaced ts rest → IsSpaced (with_commas xs ++ ts) line

abbrev Gives : ℕ → Type 0
Gives most = (line numbers rest : List ℕ) → more_at most line ≡ Some (both numbers rest) → HasMore line numbers rest

more_behind_gives : (most : ℕ) → Gives most → (line numbers rest : List ℕ) (o : Option (List ℕ)) → sign_at (codes ",") line ≡ o
    → more_behind (more_at most) line o ≡ Some (both numbers rest) → HasMore line numbers rest
more_behind_gives most less line numbers rest None s e =
    let (none, same) = some_same [] numbers line rest e in
    record { xs = []; vs = []; each = tt; numbers_are = sym none; spaced = λ ts more. subst (IsSpaced ts) (sym same) more }
more_behind_gives most less line numbers rest (Some after) s e =
    let (n, found, e2) = bind_some (number_at after) (λ n. more_at most n.1 >>= λ m. Some (n.0 ∷ m.0, m.1)) (numbers, rest) e in
    let (m, others, e3) = bind_some (more_at most n.1) (λ m. Some (n.0 ∷ m.0, m.1)) (numbers, rest) e2 in
    let (same, rest-is) = some_same (n.0 ∷ m.0) numbers m.1 rest e3 in
    let (x, numeral, value, spaced) = number_gives after n.0 n.1 found in
    let h = less n.1 m.0 m.1 others in
    record {
      xs = x ∷ h.xs;
      vs = value_of x ∷ h.vs;
      each = ((numeral, refl), h.each);
      numbers_are = sym same ∙ (λ i. value i ∷ h.numbers_are i);
      spaced = λ ts more. sign_gives (codes ",") line after (x ∷ with_commas h.xs ++ ts) s
          (spaced (with_commas h.xs ++ ts) (h.spaced ts (subst (IsSpaced ts) (sym rest-is) more)));
    }

more_gives : (most : ℕ) → Gives most
unfolding more_at
more_gives zero line numbers rest e = absurd cc
more_gives (suc most) line numbers rest e = more_behind_gives most (more_gives most) line numbers rest (sign_at (codes ",") line) refl e

-- a token that begins with no blank, no digit and no comma
record BeginsOther (tokens : Tokens) : Type 0 where
  c : ℕ
  cs : List ℕ
  ts : Tokens
  no_blank : is_blank c ≡ false
  no_digit : is_digit c ≡ false
  no_comma : nat_eq c 44 ≡ false
  is : tokens ≡ (c ∷ cs) ∷ ts

-- what follows a number among successors
after_number : (xs : Tokens) (tail : Tokens) → BeginsOther tail → (c : ℕ) × (cs : List ℕ) × (ts : Tokens) × (is_digit c ≡ false)
    × (with_commas xs ++ tail ≡ (c ∷ cs) ∷ ts)
after_number [] tail h = (h.c, h.cs, h.ts, h.no_digit, h.is)
after_number (x ∷ xs) tail h = (44, [], x ∷ with_commas xs ++ tail, refl, refl)

more_finds : (xs : Tokens) (vs : List ℕ) (tail : Tokens) (line : List ℕ) (most : ℕ) → AllZip IsNumeral xs vs → BeginsOther tail → length xs < most
    → IsSpaced (with_commas xs ++ tail) line
    → (rest : List ℕ) × (more_at most line ≡ Some (map capped vs, rest)) × IsSpaced tail rest
unfolding more_at
more_finds xs vs tail line zero each other room spaced = absurd (omega arith)
more_finds [] [] tail line (suc most) each other room spaced =
    let none = sign_none other.c other.cs other.ts line 44 [] other.no_blank other.no_comma (subst (λ l. IsSpaced l line) other.is spaced) in
    (line, ap (more_behind (more_at most) line) none, spaced)
more_finds [] (v ∷ vs) tail line (suc most) each other room spaced = absurd each
more_finds (x ∷ xs) [] tail line (suc most) each other room spaced = absurd each
more_finds (x ∷ xs) (v ∷ vs) tail line (suc most) each other room spaced =
    let (after, signed, more) = sign_finds 44 [] line (x ∷ with_commas xs ++ tail) refl spaced in
    let (c, cs, ts, no_digit, next) = after_number xs tail other in
    let (left, found, others) = number_finds x c cs after ts each.0.0 no_digit (subst (λ l. IsSpaced (x ∷ l) after) next more) in
    let (rest, all, last) = more_finds xs vs tail left most each.1 other (omega arith) (subst (λ l. IsSpaced l left) (sym next) others) in
    (rest, ap (more_behind (more_at most) line) signed ∙ rw (found, all, each.0.1) refl, last)

-- a line is no shorter than its first token with what follows
token_length : (t : List ℕ) (ts : Tokens) (line : List ℕ) → IsSpaced (t ∷ ts) line → (rest : List ℕ) × IsSpaced ts rest × (length t + length rest ≤ length line)
token_length t ts line (gap, rest, blank, e, more) = (rest, more, omega (arith, ap length e, length-append gap (t ++ rest), length-append t rest))

few_commas : (xs : Tokens) (tail : Tokens) (line : List ℕ) → IsSpaced (with_commas xs ++ tail) line → length xs ≤ length line
few_commas [] tail line spaced = omega arith
few_commas (x ∷ xs) tail line spaced =
    let (r1, m1, l1) = token_length (codes ",") (x ∷ with_commas xs ++ tail) line spaced in
    let (r2, m2, l2) = token_length x (with_commas xs ++ tail) r1 m1 in
    omega (arith, l1, l2, few_commas xs tail r2 m2)

-- the successors that a test found
record HasTargets (line numbers rest : List ℕ) : Type 0 where
  gap : List ℕ
  xs : Tokens
  vs : List ℕ
  parts : IsOneBlank gap
  each : AllZip IsNumeral xs vs
  numbers_are : numbers ≡ map capped vs
  spaced : (ts : Tokens) → IsSpaced ts rest → IsSpaced (successor_tokens gap xs ++ ts) line

targets_behind_gives : (line numbers rest : List ℕ) (o : Option (ℕ × List ℕ)) → first_at line ≡ o → targets_behind line o ≡ Some (numbers, rest)
    → HasTargets line numbers rest
targets_behind_gives line numbers rest None s e =
    let (none, same) = some_same [] numbers line rest e in
    record {
      gap = 32 ∷ [];
      xs = [];
      vs = [];
      parts = (32, refl, refl);
      each = tt;
      numbers_are = sym none;
      spaced = λ ts more. subst (IsSpaced ts) (sym same) more;
    }
targets_behind_gives line numbers rest (Some (v, after)) s e =
    let (m, others, e2) = bind_some (more_at (length after + 1) after) (λ m. Some (v ∷ m.0, m.1)) (numbers, rest) e in
    let (same, rest-is) = some_same (v ∷ m.0) numbers m.1 rest e2 in
    let (gap, x, is, numeral, value, spaced) = first_gives line v after s in
    let h = more_gives (length after + 1) after m.0 m.1 others in
    record {
      gap = gap;
      xs = x ∷ h.xs;
      vs = value_of x ∷ h.vs;
      parts = is;
      each = ((numeral, refl), h.each);
      numbers_are = sym same ∙ (λ i. value i ∷ h.numbers_are i);
      spaced = λ ts more. spaced (with_commas h.xs ++ ts) (h.spaced ts (subst (IsSpaced ts) (sym rest-is) more));
    }

targets_gives : (line numbers rest : List ℕ) → targets_at line ≡ Some (numbers, rest) → HasTargets line numbers rest
unfolding targets_at
targets_gives line numbers rest e = targets_behind_gives line numbers rest (first_at line) refl e

targets_finds : (gap : List ℕ) (xs : Tokens) (vs : List ℕ) (tail : Tokens) (line : List ℕ) → IsOneBlank gap → AllZip IsNumeral xs vs → BeginsOther tail
    → IsSpaced (successor_tokens gap xs ++ tail) line
    → (rest : List ℕ) × (targets_at line ≡ Some (map capped vs, rest)) × IsSpaced tail rest
unfolding targets_at
targets_finds gap [] [] tail line parts each other spaced =
    let none = first_none other.c other.cs other.ts line other.no_blank other.no_digit (subst (λ l. IsSpaced l line) other.is spaced) in
    (line, ap (targets_behind line) none, spaced)
targets_finds gap [] (v ∷ vs) tail line parts each other spaced = absurd each
targets_finds gap (x ∷ xs) [] tail line parts each other spaced = absurd each
targets_finds gap (x ∷ xs) (v ∷ vs) tail line parts each other spaced =
    let (c, cs, ts, no_digit, next) = after_number xs tail other in
    let (after, found, more) = first_finds gap x c cs ts line parts each.0.0 no_digit (subst (λ l. IsSpaced (gap ∷ x ∷ l) line) next spaced) in
    let others = subst (λ l. IsSpaced l after) (sym next) more in
    let (rest, all, last) = more_finds xs vs tail after (length after + 1) each.1 other (omega (arith, few_commas xs tail after others)) others in
    (rest, ap (targets_behind line) found ∙ rw (all, each.0.1) refl, last)

-- ---- the name and the end

abbrev tail_tokens : Option (List ℕ) → Tokens
tail_tokens name = name_tokens name ++ codes ";" ∷ []

tail_other : (name : Option (List ℕ)) → BeginsOther (tail_tokens name)
tail_other None = record { c = 59; cs = []; ts = []; no_blank = refl; no_digit = refl; no_comma = refl; is = refl }
tail_other (Some bytes) = record { c = 34; cs = bytes ++ 34 ∷ []; ts = codes ";" ∷ []; no_blank = refl; no_digit = refl; no_comma = refl; is = refl }

name_behind_gives : (line rest : List ℕ) (o : Option (List ℕ × List ℕ)) → quoted_at line ≡ o → name_behind line o ≡ Some rest → (name : Option (List ℕ))
    × IsName name × ((ts : Tokens) → IsSpaced ts rest → IsSpaced (name_tokens name ++ ts) line)
name_behind_gives line rest None q e = let same : line ≡ rest = cc in (None, tt, λ ts more. subst (IsSpaced ts) (sym same) more)
name_behind_gives line rest (Some (name, after)) q e =
    let h = if_some (is_vertex_name name) after rest e in
    (Some name, h.0, λ ts more. (quoted_gives line name after ts q (subst (IsSpaced ts) (sym h.1) more)).1)

tail_gives : (line : List ℕ) → tail_at line ≡ Some tt → (name : Option (List ℕ)) × IsName name × IsSpaced (tail_tokens name) line
unfolding tail_at name_at
tail_gives line e =
    let (r1, s1, e1) = bind_some (name_behind line (quoted_at line)) (λ rest. sign_at (codes ";") rest >>= end_at tt) tt e in
    let (r2, s2, e2) = bind_some (sign_at (codes ";") r1) (end_at tt) tt e1 in
    let (blank, same) = end_gives tt tt r2 e2 in
    let (name, is, spaced) = name_behind_gives line r1 (quoted_at line) refl s1 in
    (name, is, spaced (codes ";" ∷ []) (sign_gives (codes ";") r1 r2 [] s2 blank))

quoted_none : (line : List ℕ) (ts : Tokens) → IsSpaced (codes ";" ∷ ts) line → quoted_at line ≡ None
unfolding quoted_at
quoted_none line ts spaced = rw (sign_none 59 [] ts line 34 [] refl refl spaced) refl

name_finds : (name : Option (List ℕ)) (line : List ℕ) → IsName name → IsSpaced (tail_tokens name) line → (rest : List ℕ) × (name_at line ≡ Some rest)
    × IsSpaced (codes ";" ∷ []) rest
unfolding name_at
name_finds None line is spaced = (line, ap (name_behind line) (quoted_none line [] spaced), spaced)
name_finds (Some bytes) line is spaced =
    let (rest, found, more) = quoted_finds line bytes (codes ";" ∷ [])
    (label_bytes bytes (and_parts (nat_le (length bytes) 4096) (list_all is_label_byte bytes) is).1).1 spaced in
    (rest, ap (name_behind line) found ∙ rw is refl, more)

tail_finds : (name : Option (List ℕ)) (line : List ℕ) → IsName name → IsSpaced (tail_tokens name) line → tail_at line ≡ Some tt
unfolding tail_at
tail_finds name line is spaced =
    let (r1, s1, m1) = name_finds name line is spaced in
    let (r2, s2, m2) = sign_finds 59 [] r1 [] refl m1 in
    let last : end_at {A = Unit {0}} tt r2 ≡ Some tt = end_finds tt r2 m2 in rw (s1, s2, last) refl

-- ---- the line

-- what is found is a vertex line
pub line_gives : (line : List ℕ) (a : VertexLine) → line_at line ≡ Some a → (x : VertexLine) × IsLine line x × (a ≡ capped_line x)
unfolding line_at
line_gives line a e =
    let (head, s1, e1) = bind_some (head_at line) (λ head. targets_at head.1 >>= λ targets. tail_at targets.1 >>= λ end. Some (line_said head.0 targets.0)) a e in
    let (targets, s2, e2) = bind_some (targets_at head.1) (λ targets. tail_at targets.1 >>= λ end. Some (line_said head.0 targets.0)) a e1 in
    let (end, s3, e3) = bind_some (tail_at targets.1) (λ end. Some (line_said head.0 targets.0)) a e2 in
    let same : line_said head.0 targets.0 ≡ a = cc in
    let f = front_gives line head.0 head.1 s1 in
    let t = targets_gives head.1 targets.0 targets.1 s2 in
    let (name, is, spaced) = tail_gives targets.1 s3 in (
      record { id = value_of f.i; priority = value_of f.p; owner = head.0.owner; successors = t.vs },
      record {
        i = f.i;
        p = f.p;
        first_gap = f.first_gap;
        second_gap = f.second_gap;
        third_gap = t.gap;
        targets = t.xs;
        name = name;
        id = (f.id, refl);
        priority = (f.priority, refl);
        successors = t.each;
        gaps = (f.first, f.second, t.parts);
        named = is;
        spaced = f.spaced (successor_tokens t.gap t.xs ++ tail_tokens name) (t.spaced (tail_tokens name) spaced);
      },
      sym same ∙ (λ i. record { id = f.id_is i; priority = f.priority_is i; owner = head.0.owner; successors = t.numbers_are i }),
    )

-- what follows the owner
after_owner : (gap : List ℕ) (xs : Tokens) (tail : Tokens) → IsOneBlank gap → BeginsOther tail → (c : ℕ) × (cs : List ℕ) × (ts : Tokens) × (is_digit c ≡ false)
    × (successor_tokens gap xs ++ tail ≡ (c ∷ cs) ∷ ts)
after_owner gap [] tail parts h = (h.c, h.cs, h.ts, h.no_digit, h.is)
after_owner gap (x ∷ xs) tail (b, blank, is) h = (b, [], x ∷ with_commas xs ++ tail, blank_no_digit b blank, ap (λ g. g ∷ x ∷ with_commas xs ++ tail) is)

-- a vertex line is found
pub line_finds : (line : List ℕ) (x : VertexLine) → IsLine line x → line_at line ≡ Some (capped_line x)
unfolding line_at
line_finds line x h =
    let tail = tail_tokens h.name in
    let other = tail_other h.name in
    let (c, cs, ts, no_digit, next) = after_owner h.third_gap h.targets tail h.gaps.2 other in
    let (r1, s1, m1) = front_finds h.i h.first_gap h.p h.second_gap x.owner c cs ts line h.id.0 h.priority.0 h.gaps.0 h.gaps.1 no_digit
    (subst (λ l. IsSpaced (h.i ∷ h.first_gap ∷ h.p ∷ h.second_gap ∷ owner_digit x.owner ∷ l) line) next h.spaced) in
    let (r2, s2, m2) = targets_finds h.third_gap h.targets x.successors tail r1 h.gaps.2 h.successors other (subst (λ l. IsSpaced l r1) (sym next) m1) in
    rw (s1, s2, tail_finds h.name r2 h.named m2, h.id.1, h.priority.1) refl
