-- The canonical text of evidence spells the evidence.
use Rattle.std.proofs.Common.{◌≡◌, ◌≢◌, ℕ, zero, suc, ◌+◌, ◌<◌, ◌≤◌, true, ◌==◌, List, [], ◌∷◌, ◌++◌, length, map, codes, decimal}
use Rattle.std.proofs.Common.{Option, Some, None, refl, ap, ◌∙◌, subst, arith, append_assoc, slice_index_or}
use Rattle.std.specs.Prelude.{AllPairs, Contains}
use Rattle.std.specs.List.{list_all, join_with_byte, AllZip, AllByRecursion}
use Rattle.std.proofs.lemmas.Bool.{and_parts}
use Rattle.std.proofs.lemmas.List.Elements.{All-from_recursion}
use Rattle.std.proofs.lemmas.List.Folds.{list_all-append}
use Rattle.std.proofs.lemmas.List.Kept.{AllPairs-cons}
use Rattle.std.proofs.lemmas.List.Sums.{count_by-le-length}
use Rattle.text.specs.Text.{IsNumeral, pieces_of, with_first}
use Rattle.text.proofs.Plain.{plain, plain_no_end, numeral, number_plain}
use Rattle.game.specs.Game.{Game, IsGame, count, dual}
use Rattle.game.proofs.Duals.{dual_game}
use Rattle.measures.specs.Measure.{IsMeasure, components}
use Rattle.measures.proofs.Lifts.{value_measure}
use Rattle.measures.specs.MeasureText.{counts_text}
use Rattle.evidence.specs.Canon.{entry_line, entry_lines, evidence_text, header, move_text}
use Rattle.evidence.specs.Evidence.{Entry, Evidence, IsEvidence, counted}
use Rattle.evidence.specs.Best.{IsEvenOf}
use Rattle.evidence.specs.Laws.{IsSmall, WrittenIsAccepted}
use Rattle.evidence.specs.Spelling.{AreEntriesOf, IsEvidenceText, IsRowInside, IsMoveText, IsShaped, EntryRow}
use Rattle.evidence.specs.declared.limits.TheConstants.{GREATEST_COUNT}
use Rattle.game.specs.declared.limits.TheConstants.{MOST_VERTICES}
use Rattle.game.specs.declared.player.Player.{Player}
use Rattle.game.specs.declared.player.Player.TheVariants.{Even, Odd}
use Rattle.evidence.proofs.BestGood.{even_is_good, odd_is_good, told}
use Rattle.evidence.proofs.Sides.{best_is_yes}
use Rattle.evidence.proofs.Turned.{for_player}

-- the first line of a text
first_cut : (line rest : List ℕ) → list_all plain line ≡ true → pieces_of (line ++ 10 ∷ rest) ≡ line ∷ pieces_of rest
first_cut [] rest h = refl
first_cut (b ∷ line) rest h =
    let both = and_parts (plain b) (list_all plain line) h in
    rw (plain_no_end b both.0).0 (ap (with_first b) (first_cut line rest both.1))

-- ---- a rank

numerals_are : (ks : List ℕ) → AllByRecursion (λ k. k ≤ GREATEST_COUNT) ks → AllZip (λ bytes k. IsNumeral bytes k) (map decimal ks) ks
numerals_are [] h = tt
numerals_are (k ∷ ks) h = (numeral k (omega (arith, h.0)), numerals_are ks h.1)

joined_plain : (ks : List ℕ) → AllByRecursion (λ k. k ≤ GREATEST_COUNT) ks → list_all plain (join_with_byte 44 (map decimal ks)) ≡ true
joined_plain [] h = refl
joined_plain (k ∷ []) h = number_plain k (omega (arith, h.0))
joined_plain (k ∷ l ∷ ks) h =
    list_all-append plain (decimal k) (44 ∷ join_with_byte 44 (map decimal (l ∷ ks))) ∙ rw (number_plain k (omega (arith, h.0)), joined_plain (l ∷ ks) h.1) refl

rank_plain : (ks : List ℕ) → AllByRecursion (λ k. k ≤ GREATEST_COUNT) ks → list_all plain (counts_text ks) ≡ true
rank_plain ks h = list_all-append plain (join_with_byte 44 (map decimal ks)) (codes ")") ∙ rw (joined_plain ks h) refl

-- ---- a line

-- an entry of a game with so many vertices whose rank has so many counts, none of them above the limit
record Fits (n width : ℕ) (x : Entry) : Type 0 where
  move : (t : ℕ) → x.move ≡ Some t → t < n
  count : length x.rank ≡ width
  small : AllByRecursion (λ k. k ≤ GREATEST_COUNT) x.rank

abbrev entry_body : ℕ → Entry → List ℕ
entry_body v x = decimal v ++ (codes " " ++ (move_text x.move ++ (codes " " ++ counts_text x.rank)))

regroup : (a m r rest : List ℕ) → (a ++ (32 ∷ (m ++ (32 ∷ (r ++ 10 ∷ []))))) ++ rest ≡ (a ++ (32 ∷ (m ++ (32 ∷ r)))) ++ 10 ∷ rest
regroup a m r rest = simp append_assoc

entry_cut : (v : ℕ) (x : Entry) (rest : List ℕ) → entry_line v x ++ rest ≡ entry_body v x ++ 10 ∷ rest
entry_cut v x rest = regroup (decimal v) (move_text x.move) (counts_text x.rank) rest

move_is : (n : ℕ) (o : Option ℕ) → n ≤ MOST_VERTICES → ((t : ℕ) → o ≡ Some t → t < n) → IsMoveText (move_text o) o
move_is n None small h = refl
move_is n (Some t) small h = numeral t (omega (arith, h t refl))

move_plain : (n : ℕ) (o : Option ℕ) → n ≤ MOST_VERTICES → ((t : ℕ) → o ≡ Some t → t < n) → list_all plain (move_text o) ≡ true
move_plain n None small h = refl
move_plain n (Some t) small h = number_plain t (omega (arith, h t refl))

module _ (n width : ℕ) (limit : n ≤ MOST_VERTICES) where
  entry_plain : (v : ℕ) (x : Entry) → v < n → Fits n width x → list_all plain (entry_body v x) ≡ true
  entry_plain v x inside fits =
      let rank = counts_text x.rank in
      list_all-append plain (decimal v) (32 ∷ (move_text x.move ++ (32 ∷ rank)))
      ∙ rw (number_plain v (omega (arith, inside)), list_all-append plain (move_text x.move) (32 ∷ rank), move_plain n x.move limit fits.move, rank_plain x.rank fits.small) refl

  entry_is : (v : ℕ) (x : Entry) → v < n → Fits n width x → IsShaped width (entry_body v x) (record { vertex = v; entry = x })
  entry_is v x inside fits = record {
    spelled = record {
      v = decimal v;
      m = move_text x.move;
      r = counts_text x.rank;
      vertex = numeral v (omega (arith, inside));
      move = move_is n x.move limit fits.move;
      rank = (map decimal x.rank, numerals_are x.rank fits.small, refl);
      joined = refl;
    };
    count = fits.count;
    small = fits.small;
  }

-- ---- all lines

-- a row for each entry, where the first one is of the vertex v
abbrev rows_from : ℕ → List (Option Entry) → List EntryRow
rows_from v [] = []
rows_from v (None ∷ es) = rows_from (v + 1) es
rows_from v (Some x ∷ es) = record { vertex = v; entry = x } ∷ rows_from (v + 1) es

abbrev body_of : EntryRow → List ℕ
body_of row = entry_body row.vertex row.entry

abbrev AllFit : (n width : ℕ) → List (Option Entry) → Type 0
AllFit n width es = (k : ℕ) (x : Entry) → slice_index_or es k None ≡ Some x → Fits n width x

module _ (n width : ℕ) (limit : n ≤ MOST_VERTICES) where
  lines_are : (v : ℕ) (es : List (Option Entry)) → v + length es ≤ n → AllFit n width es
      → (pieces_of (entry_lines v es) ≡ map body_of (rows_from v es)) × AllZip (IsShaped width) (map body_of (rows_from v es)) (rows_from v es)
      × AllByRecursion (IsRowInside n) (rows_from v es)
  lines_are v [] long fit = (refl, tt, tt)
  lines_are v (None ∷ es) long fit = lines_are (v + 1) es (omega (arith, long)) (λ k. fit (suc k))
  lines_are v (Some x ∷ es) long fit =
      let fits = fit 0 x refl in
      let inside : v < n = omega (arith, long) in
      let rest = lines_are (v + 1) es (omega (arith, long)) (λ k. fit (suc k)) in (
        ap pieces_of (entry_cut v x (entry_lines (v + 1) es)) ∙ first_cut (entry_body v x) (entry_lines (v + 1) es) (entry_plain n width limit v x inside fits)
            ∙ ap (λ l. entry_body v x ∷ l) rest.0,
        (entry_is n width limit v x inside fits, rest.1),
        (record { vertex = inside; move = fits.move }, rest.2),
      )

-- ---- which rows they are

rows_above : (v w : ℕ) (es : List (Option Entry)) → w ≤ v → AllByRecursion (λ row. w ≤ row.vertex) (rows_from v es)
rows_above v w [] low = tt
rows_above v w (None ∷ es) low = rows_above (v + 1) w es (omega (arith, low))
rows_above v w (Some x ∷ es) low = (low, rows_above (v + 1) w es (omega (arith, low)))

rows_once : (v : ℕ) (es : List (Option Entry)) → AllPairs (λ x y. x.vertex ≢ y.vertex) (rows_from v es)
rows_once v [] = λ i j d less inside. absurd (omega (arith, inside))
rows_once v (None ∷ es) = rows_once (v + 1) es
rows_once v (Some x ∷ es) =
    let above = All-from_recursion (λ row. v + 1 ≤ row.vertex) (rows_from (v + 1) es) (rows_above (v + 1) (v + 1) es (omega arith)) in
    AllPairs-cons (λ x y. x.vertex ≢ y.vertex) (record { vertex = v; entry = x }) (rows_from (v + 1) es)
    (λ k d inside e. absurd (omega (arith, above k d inside, e))) (rows_once (v + 1) es)

-- each entry has its row
has_row : (v k : ℕ) (x : Entry) (es : List (Option Entry)) → slice_index_or es k None ≡ Some x → Contains (rows_from v es) (record { vertex = v + k; entry = x })
has_row v k x [] e = cc
has_row v zero x (None ∷ es) e = cc
has_row v (suc k) x (None ∷ es) e =
    let same : v + 1 + k ≡ v + suc k = omega arith in
    subst (λ w. Contains (rows_from (v + 1) es) (record { vertex = w; entry = x })) same (has_row (v + 1) k x es e)
has_row v zero x (Some y ∷ es) e =
    let same : v ≡ v + 0 = omega arith in
    let is : y ≡ x = cc in
    (0, omega arith, (λ i. record { vertex = same i; entry = is i }))
has_row v (suc k) x (Some y ∷ es) e =
    let same : v + 1 + k ≡ v + suc k = omega arith in
    let there = subst (λ w. Contains (rows_from (v + 1) es) (record { vertex = w; entry = x })) same (has_row (v + 1) k x es e) in
    (suc there.0, omega (arith, there.1), there.2)

-- each row has its entry
has_entry : (v i : ℕ) (row : EntryRow) (es : List (Option Entry)) → i < length (rows_from v es) → slice_index_or (rows_from v es) i row ≡ row
    → (k : ℕ) × (v + k ≡ row.vertex) × (slice_index_or es k None ≡ Some row.entry)
has_entry v i row [] inside e = absurd (omega (arith, inside))
has_entry v i row (None ∷ es) inside e =
    let there = has_entry (v + 1) i row es inside e in
    (suc there.0, omega (arith, there.1), there.2)
has_entry v zero row (Some x ∷ es) inside e =
    let same : v + 0 ≡ v = omega arith in
    (0, same ∙ ap (λ (r : EntryRow). r.vertex) e, ap (λ (r : EntryRow). Some r.entry) e)
has_entry v (suc i) row (Some x ∷ es) inside e =
    let there = has_entry (v + 1) i row es (omega (arith, inside)) e in
    (suc there.0, omega (arith, there.1), there.2)

rows_are : (es : List (Option Entry)) → AreEntriesOf (rows_from 0 es) es
rows_are es v x =
    let same : 0 + v ≡ v = omega arith in (
      (λ e. subst (λ w. Contains (rows_from 0 es) (record { vertex = w; entry = x })) same (has_row 0 v x es e)),
      (λ c. (
          let there = has_entry 0 c.0 (record { vertex = v; entry = x }) es c.1 c.2 in
          let here : there.0 ≡ v = omega (arith, there.1) in
          subst (λ k. slice_index_or es k None ≡ Some x) here there.2)),
    )

-- ---- the whole

header_plain : (player : Player) → list_all plain (header player) ≡ true
header_plain Even = refl
header_plain Odd = refl

pub canon_spells : (g : Game) (e : Evidence) → length g.vertices ≤ MOST_VERTICES → IsEvidence g e → IsSmall e → IsEvidenceText g (evidence_text e) e
canon_spells g e limit known small =
    let n = length g.vertices in
    let width = length (counted e.player g) in
    let fit : AllFit n width e.entries = (λ k x at. let entry = known.entries k x at in record { move = entry.move; count = entry.rank; small = small k x at }) in
    let all = lines_are n width limit 0 e.entries (omega (arith, known.long)) fit in
    record {
      rest = map body_of (rows_from 0 e.entries);
      cut = first_cut (header e.player) (entry_lines 0 e.entries) (header_plain e.player) ∙ ap (λ l. header e.player ∷ l) all.0;
      lines = record {
        rows = rows_from 0 e.entries;
        good = record { each = all.1; inside = all.2; once = rows_once 0 e.entries };
        long = known.long;
        same = rows_are e.entries;
      };
    }

-- ---- the evidence of the least tables

counts_low : (g : Game) → length g.vertices ≤ MOST_VERTICES → (c ps : List ℕ) → AllZip (λ k p. k ≤ count g p) c ps
    → AllByRecursion (λ k. k ≤ GREATEST_COUNT) c
counts_low g limit [] ps h = tt
counts_low g limit (k ∷ c) [] h = absurd h
counts_low g limit (k ∷ c) (p ∷ ps) h =
    (omega (arith, limit, h.0, count_by-le-length (λ v. v.priority == p) g.vertices), counts_low g limit c ps h.1)

even_small : (g : Game) → IsGame g → (e : Evidence) → IsEvenOf g e → IsSmall e
even_small g game e is v x here =
    let value = (told g game e is v x here).0 in
    counts_low g game.limit x.rank (components g) (subst (IsMeasure g) value (value_measure g is.table is.least.progress.0.1 v))

pub written_is_accepted : WrittenIsAccepted
written_is_accepted g e f game few is other = (
  canon_spells g e game.limit (even_is_good g game e is).0 (even_small g game e is),
  canon_spells g f game.limit (odd_is_good g game few f other).0 (even_small (dual g) (dual_game g game few) (for_player Even f) other.1),
  (best_is_yes g game few e f is other).0,
)
