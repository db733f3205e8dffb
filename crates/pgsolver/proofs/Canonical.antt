-- The canonical text of a game spells the game without its names.
use Rattle.std.proofs.Common.{◌≡◌, ◌≢◌, ℕ, zero, suc, ◌+◌, ◌/◌, ◌%◌, ◌-◌, ◌^◌, ◌<◌, ◌≤◌, true, List, [], ◌∷◌, ◌++◌, length, map, get_or, codes, decimal}
use Rattle.std.proofs.Common.{Option, Some, None, refl, sym, ap, ◌∙◌, subst, arith, append_assoc, append-nil}
use Rattle.std.specs.Prelude.{nat_le, AllPairs, slice_get}
use Rattle.std.specs.List.{list_all, AllZip, AllByRecursion}
use Rattle.std.proofs.lemmas.Bool.{and_parts, and_from, leb-true, le-leb, ne_eqb}
use Rattle.std.proofs.lemmas.Fmt.{length-decimal-le}
use Rattle.std.proofs.lemmas.List.{length-append}
use Rattle.std.proofs.lemmas.List.Folds.{list_all-append}
use Rattle.text.specs.Text.{lines, is_digit, IsNumeral, IsSpaced}
use Rattle.text.proofs.Plain.{plain, first_line, numeral, over, over_rest, spaced, over_plain, number_plain}
use Rattle.text.proofs.Spaced.{numeral_digits}
use Rattle.systems.specs.Label.{is_label_byte}
use Rattle.lts.proofs.Canonical.{label_bytes}
use Rattle.calculus.specs.declared.limits.TheConstants.{GREATEST_PRIORITY}
use Rattle.game.specs.declared.player.Player.{Player}
use Rattle.game.specs.declared.player.Player.TheVariants.{Even, Odd}
use Rattle.game.specs.declared.limits.TheConstants.{MOST_VERTICES}
use Rattle.game.specs.Game.{Vertex, Game, IsGame, IsVertex, IsAscending, greatest, greatest_of}
use Rattle.game.specs.NumberSet.{number_set}
use Rattle.pgsolver.specs.Canon.{game_header_line, owner_digit, front_text, successors_text, vertex_name, name_text, vertex_lines, game_text}
use Rattle.pgsolver.specs.Spelling.{VertexLine, IsPgHeader, IsLine, IsLineWithin, IsName, is_vertex_name, name_tokens, with_commas, IsGameText, vertex_said}
use Rattle.pgsolver.proofs.Sets.{up_set, up_ascending}

abbrev Tokens : Type 0
Tokens = List (List ℕ)

-- ---- the header

abbrev header_body : ℕ → List ℕ
header_body n = codes "parity " ++ (decimal n ++ codes ";")

header_is : (n : ℕ) → n < 2 ^ 64 → IsPgHeader (header_body n) n
header_is n small = (decimal n, numeral n small, ([], 32 ∷ (decimal n ++ codes ";"), refl, refl, (32 ∷ [], codes ";", refl, refl, spaced (codes ";" ∷ []))))

header_plain : (n : ℕ) → n < 2 ^ 64 → list_all plain (header_body n) ≡ true
header_plain n small = list_all-append plain (decimal n) (codes ";") ∙ rw (number_plain n small) refl

header_cut : (n : ℕ) (rest : List ℕ) → game_header_line n ++ rest ≡ header_body n ++ 10 ∷ rest
header_cut n rest = ap (λ l. codes "parity " ++ l) (append_assoc (decimal n) (59 ∷ 10 ∷ []) rest ∙ sym (append_assoc (decimal n) (59 ∷ []) (10 ∷ rest)))

-- ---- names

digit_label : (d : ℕ) → is_digit d ≡ true → is_label_byte d ≡ true
digit_label d h =
    let parts = and_parts (nat_le 48 d) (nat_le d 57) h in
    let low : 48 ≤ d = leb-true 48 d parts.0 in
    let high : d ≤ 57 = leb-true d 57 parts.1 in
    rw (le-leb 32 d (omega arith), le-leb d 126 (omega arith), ne_eqb d 34 (λ e. absurd (omega arith))) refl

digits_label : (ds : List ℕ) → list_all is_digit ds ≡ true → list_all is_label_byte ds ≡ true
digits_label [] h = refl
digits_label (d ∷ ds) h = let parts = and_parts (is_digit d) (list_all is_digit ds) h in rw (digit_label d parts.0, digits_label ds parts.1) refl

number_label : (n : ℕ) → n < 2 ^ 64 → list_all is_label_byte (decimal n) ≡ true
number_label n small = digits_label (decimal n) (numeral_digits (decimal n) (numeral n small).0)

pair_name : (a b : ℕ) → a < 2 ^ 64 → b < 2 ^ 64 → is_vertex_name (decimal a ++ (codes "," ++ decimal b)) ≡ true
pair_name a b ha hb =
    let short_a = length-decimal-le 20 a (omega arith) (omega arith) ha in
    let short_b = length-decimal-le 20 b (omega arith) (omega arith) hb in
    let short : length (decimal a ++ (codes "," ++ decimal b)) ≤ 4096 = omega (arith, length-append (decimal a) (codes "," ++ decimal b)) in
    let bytes : list_all is_label_byte (decimal a ++ (codes "," ++ decimal b)) ≡ true = list_all-append is_label_byte (decimal a) (codes "," ++ decimal b)
    ∙ rw (number_label a ha, number_label b hb) refl in
    and_from (nat_le (length (decimal a ++ (codes "," ++ decimal b))) 4096) (list_all is_label_byte (decimal a ++ (codes "," ++ decimal b)))
    (le-leb _ _ short) bytes

name_ok : (nodes v : ℕ) → v < 2 ^ 32 → is_vertex_name (vertex_name nodes v) ≡ true
name_ok nodes zero h = refl
name_ok nodes (suc zero) h = refl
name_ok zero (suc (suc i)) h = pair_name (i / 0) (i % 0) (omega arith) (omega arith)
name_ok (suc nodes) (suc (suc i)) h = pair_name (i / suc nodes) (i % suc nodes) (omega arith) (omega arith)

abbrev name_of : Option (ℕ × ℕ) → ℕ → Option (List ℕ)
name_of None v = None
name_of (Some named) v = Some (vertex_name named.1 v)

name_is : (named : Option (ℕ × ℕ)) (v : ℕ) → v < 2 ^ 32 → IsName (name_of named v)
name_is None v h = tt
name_is (Some named) v h = name_ok named.1 v h

-- ---- a line

abbrev tail_text : Option (ℕ × ℕ) → ℕ → List ℕ
tail_text named v = name_text named v ++ codes ";"

tail_spaced : (named : Option (ℕ × ℕ)) (v : ℕ) → IsSpaced (name_tokens (name_of named v) ++ codes ";" ∷ []) (tail_text named v)
tail_spaced None v = spaced (codes ";" ∷ [])
tail_spaced (Some named) v = (32 ∷ [], codes ";", refl, refl, spaced (codes ";" ∷ []))

tail_plain : (named : Option (ℕ × ℕ)) (v : ℕ) → v < 2 ^ 32 → list_all plain (tail_text named v) ≡ true
tail_plain None v h = refl
tail_plain (Some named) v h =
    let name = vertex_name named.1 v in
    let bytes = (label_bytes name (and_parts (nat_le (length name) 4096) (list_all is_label_byte name) (name_ok named.1 v h)).1).0 in
    list_all-append plain (name ++ 34 ∷ []) (codes ";") ∙ rw (list_all-append plain name (34 ∷ []), bytes) refl

abbrev front_tokens : ℕ → ℕ → Player → Tokens
front_tokens v p o = decimal v ∷ codes " " ∷ decimal p ∷ codes " " ∷ owner_digit o ∷ codes " " ∷ []

abbrev number_tokens : ℕ → List ℕ → Tokens
number_tokens t ts = decimal t ∷ with_commas (map decimal ts)

abbrev line_body : Option (ℕ × ℕ) → ℕ → Vertex → List ℕ
line_body named v x = front_text v x ++ (successors_text x.successors ++ tail_text named v)

numbers_over : (t : ℕ) (ts : List ℕ) → successors_text (t ∷ ts) ≡ over (number_tokens t ts) []
numbers_over t [] = sym (append-nil (decimal t))
numbers_over t (u ∷ us) = ap (λ l. decimal t ++ (44 ∷ l)) (numbers_over u us)

spaced_over : (ts tail : Tokens) (rest : List ℕ) → IsSpaced tail rest → IsSpaced (ts ++ tail) (over ts rest)
spaced_over [] tail rest h = h
spaced_over (t ∷ ts) tail rest h = ([], over ts rest, refl, refl, spaced_over ts tail rest h)

regroup : (f s n rest : List ℕ) → (f ++ (s ++ (n ++ 59 ∷ 10 ∷ []))) ++ rest ≡ (f ++ (s ++ (n ++ 59 ∷ []))) ++ 10 ∷ rest
regroup f s n rest = simp append_assoc

numerals_are : (n : ℕ) (ts : List ℕ) → n ≤ MOST_VERTICES → AllByRecursion (λ t. t < n) ts → AllZip (λ bytes t. IsNumeral bytes t) (map decimal ts) ts
numerals_are n [] small h = tt
numerals_are n (t ∷ ts) small h = (numeral t (omega (arith, h.0)), numerals_are n ts small h.1)

commas_plain : (n : ℕ) (ts : List ℕ) → n ≤ MOST_VERTICES → AllByRecursion (λ t. t < n) ts
    → AllByRecursion (λ token. list_all plain token ≡ true) (with_commas (map decimal ts))
commas_plain n [] small h = tt
commas_plain n (t ∷ ts) small h = (refl, (number_plain t (omega (arith, h.0)), commas_plain n ts small h.1))

digit_plain : (o : Player) → list_all plain (owner_digit o) ≡ true
digit_plain Even = refl
digit_plain Odd = refl

abbrev line_of_vertex : ℕ → Vertex → VertexLine
line_of_vertex v x = record { id = v; priority = x.priority; owner = x.owner; successors = x.successors }

module _ (n : ℕ) (small : n ≤ MOST_VERTICES) (named : Option (ℕ × ℕ)) (v : ℕ) (inside : v < n) (o : Player) (p : ℕ) (low : p ≤ 32) where
  line_is : (ss : List ℕ) → 1 ≤ length ss → AllByRecursion (λ t. t < n) ss
      → IsLine (line_body named v (record { owner = o; priority = p; successors = ss })) (record { id = v; priority = p; owner = o; successors = ss })
  line_is [] some h = absurd (omega (arith, some))
  line_is (t ∷ ts) some h =
      let tail = name_tokens (name_of named v) ++ codes ";" ∷ [] in
      let rest = tail_text named v in
      let text : over (front_tokens v p o) (over (number_tokens t ts) rest) ≡ line_body named v (record { owner = o; priority = p; successors = t ∷ ts }) =
      over_rest (front_tokens v p o) (over (number_tokens t ts) rest)
      ∙ ap (λ l. front_text v (record { owner = o; priority = p; successors = t ∷ ts }) ++ l)
      (over_rest (number_tokens t ts) rest ∙ ap (λ l. l ++ rest) (sym (numbers_over t ts))) in
      record {
        i = decimal v;
        p = decimal p;
        first_gap = codes " ";
        second_gap = codes " ";
        third_gap = codes " ";
        targets = map decimal (t ∷ ts);
        name = name_of named v;
        id = numeral v (omega arith);
        priority = numeral p (omega arith);
        successors = numerals_are n (t ∷ ts) small h;
        gaps = ((32, refl, refl), (32, refl, refl), (32, refl, refl));
        named = name_is named v (omega arith);
        spaced = subst (IsSpaced (front_tokens v p o ++ (number_tokens t ts ++ tail))) text
            (spaced_over (front_tokens v p o) (number_tokens t ts ++ tail) (over (number_tokens t ts) rest)
            (spaced_over (number_tokens t ts) tail rest (tail_spaced named v)));
      }

  line_plain : (ss : List ℕ) → 1 ≤ length ss → AllByRecursion (λ t. t < n) ss
      → list_all plain (line_body named v (record { owner = o; priority = p; successors = ss })) ≡ true
  line_plain [] some h = absurd (omega (arith, some))
  line_plain (t ∷ ts) some h =
      let x : Vertex = record { owner = o; priority = p; successors = t ∷ ts } in
      let front : list_all plain (front_text v x) ≡ true = over_plain (front_tokens v p o)
      (number_plain v (omega arith), (refl, (number_plain p (omega arith), (refl, (digit_plain o, (refl, tt)))))) in
      let numbers : list_all plain (successors_text (t ∷ ts)) ≡ true = ap (list_all plain) (numbers_over t ts)
      ∙ over_plain (number_tokens t ts) (number_plain t (omega (arith, h.0)), commas_plain n ts small h.1) in
      list_all-append plain (front_text v x) (successors_text (t ∷ ts) ++ tail_text named v)
      ∙ rw (front, list_all-append plain (successors_text (t ∷ ts)) (tail_text named v), numbers, tail_plain named v (omega arith)) refl

-- ---- all lines

abbrev bodies : Option (ℕ × ℕ) → ℕ → List Vertex → List (List ℕ)
bodies named v [] = []
bodies named v (x ∷ vs) = line_body named v x ∷ bodies named (v + 1) vs

abbrev lines_for : ℕ → List Vertex → List VertexLine
lines_for v [] = []
lines_for v (x ∷ vs) = line_of_vertex v x ∷ lines_for (v + 1) vs

cut_lines : (n : ℕ) (named : Option (ℕ × ℕ)) (v : ℕ) (vs : List Vertex) → n ≤ MOST_VERTICES → v + length vs ≤ n → AllByRecursion (IsVertex n) vs
    → lines (vertex_lines named v vs) ≡ bodies named v vs
cut_lines n named v [] small room h = refl
cut_lines n named v (x ∷ vs) small room h =
    ap lines (regroup (front_text v x) (successors_text x.successors) (name_text named v) (vertex_lines named (v + 1) vs))
    ∙ first_line (line_body named v x) (vertex_lines named (v + 1) vs)
    (line_plain n small named v (omega (arith, room)) x.owner x.priority h.0.priority x.successors h.0.some h.0.within)
    ∙ ap (λ l. line_body named v x ∷ l) (cut_lines n named (v + 1) vs small (omega (arith, room)) h.1)

each_line : (n : ℕ) (named : Option (ℕ × ℕ)) (v : ℕ) (vs : List Vertex) → n ≤ MOST_VERTICES → v + length vs ≤ n → AllByRecursion (IsVertex n) vs
    → AllZip IsLine (bodies named v vs) (lines_for v vs)
each_line n named v [] small room h = tt
each_line n named v (x ∷ vs) small room h = (
  line_is n small named v (omega (arith, room)) x.owner x.priority h.0.priority x.successors h.0.some h.0.within,
  each_line n named (v + 1) vs small (omega (arith, room)) h.1,
)

all_near : (n : ℕ) (ts : List ℕ) → AllByRecursion (λ t. t < n + 1) ts → AllByRecursion (λ t. t ≤ n) ts
all_near n [] h = tt
all_near n (t ∷ ts) h = (omega (arith, h.0), all_near n ts h.1)

within_lines : (n v : ℕ) (vs : List Vertex) → v + length vs ≤ n + 1 → AllByRecursion (IsVertex (n + 1)) vs → greatest_of vs ≤ GREATEST_PRIORITY
    → AllByRecursion (IsLineWithin n) (lines_for v vs)
within_lines n v [] room h low = tt
within_lines n v (x ∷ vs) room h low = (
  record {
    id = omega (arith, room);
    some = λ e. omega (arith, h.0.some, ap length e);
    successors = all_near n x.successors h.0.within;
    priority = omega (arith, low);
  },
  within_lines n (v + 1) vs (omega (arith, room)) h.1 (omega (arith, low)),
)

body_count : (named : Option (ℕ × ℕ)) (v : ℕ) (vs : List Vertex) → length (bodies named v vs) ≡ length vs
body_count named v [] = refl
body_count named v (x ∷ vs) = omega (arith, body_count named (v + 1) vs)

line_id : (v : ℕ) (vs : List Vertex) (k : ℕ) (d : VertexLine) → k < length (lines_for v vs) → (get_or (lines_for v vs) k d).id ≡ v + k
line_id v [] k d below = absurd (omega arith)
line_id v (x ∷ vs) zero d below = omega arith
line_id v (x ∷ vs) (suc k) d below = omega (arith, line_id (v + 1) vs k d (omega arith))

apart_lines : (v : ℕ) (vs : List Vertex) → AllPairs (λ x y. x.id ≢ y.id) (lines_for v vs)
apart_lines v vs i j d less below e = omega (arith, line_id v vs i d (omega arith), line_id v vs j d below, e, less)

own_set : (x : Vertex) (v : ℕ) → 1 ≤ length x.successors → IsAscending x.successors → vertex_said (line_of_vertex v x) ≡ x
own_set x v some up = λ i. record { owner = x.owner; priority = x.priority; successors = own x.successors some up i }
  where
    own : (ts : List ℕ) → 1 ≤ length ts → IsAscending ts → number_set ts ≡ ts
    own [] some up = refl
    own (t ∷ ts) some up = up_set t (t ∷ ts) (up_ascending t ts up)

line_vertex : (n v : ℕ) (vs : List Vertex) (k : ℕ) (d : VertexLine) → AllByRecursion (IsVertex n) vs → k < length (lines_for v vs)
    → slice_get vs k ≡ Some (vertex_said (get_or (lines_for v vs) k d))
line_vertex n v [] k d h below = absurd (omega arith)
line_vertex n v (x ∷ vs) zero d h below = ap Some (sym (own_set x v h.0.some h.0.ascending))
line_vertex n v (x ∷ vs) (suc k) d h below = line_vertex n (v + 1) vs k d h.1 (omega arith)

-- The canonical text of a game spells it.
pub canon_spells : (g : Game) → IsGame g → 1 ≤ length g.vertices → greatest g ≤ GREATEST_PRIORITY
    → IsGameText (game_text g) (record { vertices = g.vertices; named = None })
canon_spells g known some low =
    let n = length g.vertices - 1 in
    let size : length g.vertices ≡ n + 1 = omega arith in
    let all : AllByRecursion (IsVertex (n + 1)) g.vertices = subst (λ m. AllByRecursion (IsVertex m) g.vertices) size known.vertices in
    record {
      n = n;
      first = header_body n;
      rest = bodies g.named 0 g.vertices;
      spelled = lines_for 0 g.vertices;
      cut = ap lines (header_cut n (vertex_lines g.named 0 g.vertices))
          ∙ first_line (header_body n) (vertex_lines g.named 0 g.vertices) (header_plain n (omega (arith, known.limit)))
          ∙ ap (λ l. header_body n ∷ l) (cut_lines (n + 1) g.named 0 g.vertices (omega (arith, known.limit)) (omega arith) all);
      header = header_is n (omega (arith, known.limit));
      limit = omega (arith, known.limit);
      good = record {
        each = each_line (n + 1) g.named 0 g.vertices (omega (arith, known.limit)) (omega arith) all;
        within = within_lines n 0 g.vertices (omega arith) all low;
        once = apart_lines 0 g.vertices;
      };
      complete = body_count g.named 0 g.vertices ∙ size;
      size = size;
      placed = λ x there.
          let (k, below, at) = there in
          let id : x.id ≡ k = sym (ap (λ (l : VertexLine). l.id) at) ∙ line_id 0 g.vertices k x below ∙ omega arith in
          ap (slice_get g.vertices) id ∙ line_vertex (n + 1) 0 g.vertices k x all below ∙ ap (λ l. Some (vertex_said l)) at;
      unnamed = refl;
    }
