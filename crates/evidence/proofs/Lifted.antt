-- What is found on a shortened line is found on the line.
use Rattle.std.proofs.Common.{◌≡◌, ℕ, ◌+◌, ◌*◌, ◌<◌, ◌≤◌, inl, inr, List, [], ◌∷◌, ◌++◌, length, take, Option, Some, None, codes, refl, sym, ap}
use Rattle.std.proofs.Common.{◌∙◌, subst, arith, slice_index_or}
use Rattle.std.specs.List.{AllZip, AllByRecursion, join_with_byte}
use Rattle.std.proofs.lemmas.Bool.{cases_lt}
use Rattle.std.proofs.lemmas.List.{take_all, length-append, length-take-le}
use Rattle.text.specs.Text.{IsNumeral}
use Rattle.text.specs.Tokens.{capped, ◌>>=◌}
use Rattle.text.proofs.Spaced.{numeral_digits}
use Rattle.game.specs.declared.limits.TheConstants.{MOST_VERTICES}
use Rattle.game.specs.declared.player.Player.{Player}
use Rattle.game.specs.declared.player.Player.TheVariants.{Even, Odd}
use Rattle.evidence.specs.declared.error.EvidenceFault.{EvidenceFault}
use Rattle.evidence.specs.declared.error.EvidenceFault.TheVariants.{BadHeader, BadLine, BadVertex}
use Rattle.evidence.specs.declared.limits.TheConstants.{GREATEST_COUNT, LONGEST_LINE}
use Rattle.evidence.specs.declared.entries.TheConstants.{MOST_COUNTS}
use Rattle.evidence.specs.Canon.{header}
use Rattle.evidence.specs.Evidence.{Entry}
use Rattle.evidence.specs.Reading.{IsAdded, IsNoPlace, IsWrongLine}
use Rattle.evidence.specs.Scan.{IsNoHeader, fields_of, rank_of, read_move}
use Rattle.evidence.specs.Short.{short}
use Rattle.evidence.specs.Spelling.{IsMoveText, IsShaped, EntryRow}
use Rattle.evidence.specs.View.{NamedEvidence, rank_width}
use Rattle.evidence.proofs.Judged.{no_place}
use Rattle.evidence.proofs.Scanned.{row_found, row_gives, row_of}
use Rattle.evidence.proofs.Shortened.{SameFields, fields_short, rank_short, number_front_is, few_digits, word_short, short_append, short_shorter}

abbrev row : ℕ → Option ℕ → List ℕ → EntryRow
row n m ks = record { vertex = n; entry = record { move = m; rank = ks } }

abbrev with_rank : ℕ → Option ℕ → Option (List ℕ) → Option EntryRow
with_rank n m o = o >>= λ ks. Some (row n m ks)

-- what the shortened line says, by what the line says
abbrev SameRow : Option EntryRow → Option EntryRow → Type 0
SameRow None o = o ≡ None
SameRow (Some x) o =
    (v : ℕ) × (m : Option ℕ) × (o ≡ Some (row v m x.entry.rank)) × (capped v ≡ capped x.vertex) × (read_move m ≡ read_move x.entry.move)

row_short : (width : ℕ) (line : List ℕ) → SameRow (row_of width line) (row_of width (short line))
row_short width line = same (fields_of line) (fields_of (short line)) (fields_short line)
  where
    ranked : (f : ℕ × Option ℕ × List ℕ) (v : ℕ) (m : Option ℕ) → capped v ≡ capped f.0 → read_move m ≡ read_move f.1 → (o p : Option (List ℕ)) → p ≡ o
        → SameRow (with_rank f.0 f.1 o) (with_rank v m p)
    ranked f v m c e None p same = ap (with_rank v m) same
    ranked f v m c e (Some ks) p same = (v, m, ap (with_rank v m) same, c, e)

    same : (o p : Option (ℕ × Option ℕ × List ℕ)) → SameFields o p
        → SameRow (o >>= λ f. with_rank f.0 f.1 (rank_of width f.2)) (p >>= λ f. with_rank f.0 f.1 (rank_of width f.2))
    same None p e = ap (λ p. p >>= λ f. with_rank f.0 f.1 (rank_of width f.2)) e
    same (Some f) p (v, m, is, c, e) =
        subst (λ p. SameRow (with_rank f.0 f.1 (rank_of width f.2)) (p >>= λ f. with_rank f.0 f.1 (rank_of width f.2))) (sym is)
        (ranked f v m c e (rank_of width f.2) (rank_of width (short f.2)) (rank_short width f.2))

some_row : (x y : EntryRow) → Some x ≡ Some y → x ≡ y
some_row x y e = cc

-- what the line says, by what the shortened line says
record Said (width : ℕ) (line : List ℕ) (x : EntryRow) : Type 0 where
  vertex : ℕ
  move : Option ℕ
  shaped : IsShaped width line (row vertex move x.entry.rank)
  number : capped x.vertex ≡ capped vertex
  read : read_move x.entry.move ≡ read_move move

said : (width : ℕ) (line : List ℕ) (x : EntryRow) → IsShaped width (short line) x → Said width line x
said width line x h = by_row (row_of width line) refl (row_short width line)
  where
    by_row : (o : Option EntryRow) → row_of width line ≡ o → SameRow o (row_of width (short line)) → Said width line x
    by_row None e none = let some = row_found width (short line) x h in absurd (let wrong : None ≡ Some x = sym none ∙ some in cc)
    by_row (Some y) e (v, m, is, c, same) =
        let one : row v m y.entry.rank ≡ x = some_row (row v m y.entry.rank) x (sym is ∙ row_found width (short line) x h) in
        record {
          vertex = y.vertex;
          move = y.entry.move;
          shaped = row_gives width line (row y.vertex y.entry.move x.entry.rank)
              (e ∙ ap (λ ks. Some (row y.vertex y.entry.move ks)) (ap (λ (r : EntryRow). r.entry.rank) one));
          number = ap (λ (r : EntryRow). capped r.vertex) (sym one) ∙ c;
          read = ap (λ (r : EntryRow). read_move r.entry.move) (sym one) ∙ same;
        }

-- no line is shaped where the shortened one isn't
unsaid : (width : ℕ) (line : List ℕ) → ((x : EntryRow) → IsShaped width (short line) x → ⊥) → (x : EntryRow) → IsShaped width line x → ⊥
unsaid width line none x h = by_row (row_of width line) (row_found width line x h) (row_short width line)
  where
    by_row : (o : Option EntryRow) → o ≡ Some x → SameRow o (row_of width (short line)) → ⊥
    by_row None e same = cc
    by_row (Some y) e (v, m, is, c, same) = none (row v m y.entry.rank) (row_gives width (short line) (row v m y.entry.rank) is)

module _ (entries : List (Option Entry)) (few : length entries ≤ MOST_VERTICES) where
  capped_move : (m : Option ℕ) (t : ℕ) → m ≡ Some t → length entries ≤ t → (u : ℕ) × (read_move m ≡ Some u) × (length entries ≤ u)
  capped_move m t e far = (capped t, ap read_move e, omega (arith, far, few))

  -- as it is read
  capped_place : (v : ℕ) (m : Option ℕ) → IsNoPlace entries v m → IsNoPlace entries (capped v) (read_move m)
  capped_place v m (inl past) = inl (omega (arith, past, few))
  capped_place v m (inr (inl (t, e, far))) = inr (inl (capped_move m t e far))
  capped_place v m (inr (inr (x, e))) =
      elim (cases_lt v (length entries)) [
        | inl below ↦ (let same : v ≡ capped v = omega (arith, below, few) in
            inr (inr (x, ap (λ k. slice_index_or entries k None) (sym same) ∙ e)))
        | inr past ↦ inl (omega (arith, past, few))
      ]

  small_move : (m k : Option ℕ) → ((t : ℕ) → k ≡ Some t → t < length entries) → read_move k ≡ read_move m → k ≡ m
  small_move None None small e = refl
  small_move None (Some t) small e = absurd cc
  small_move (Some u) None small e = absurd cc
  small_move (Some u) (Some t) small e =
      let low = small t refl in
      let c : capped t ≡ capped u = cc in
      let same : t ≡ u = omega (arith, c, low, few) in
      ap (λ n. Some n) same

-- what is wrong with the shortened line is wrong with the line
pub lift_wrong : (old : NamedEvidence) (line : List ℕ) (fault : EvidenceFault) → length old.evidence.entries ≤ MOST_VERTICES → IsWrongLine old (short line) fault
    → IsWrongLine old line fault
lift_wrong old line BadHeader few wrong = wrong
lift_wrong old line BadLine few wrong = unsaid (rank_width old) line wrong
lift_wrong old line BadVertex few (x, h, place) =
    let s = said (rank_width old) line x h in (
      row s.vertex s.move x.entry.rank,
      s.shaped,
      no_place old few (capped x.vertex) s.vertex (read_move x.entry.move) s.move s.number s.read (capped_place old.evidence.entries few x.vertex x.entry.move place),
    )

-- what the shortened line adds the line adds
pub lift_added : (line : List ℕ) (old new : NamedEvidence) → length old.evidence.entries ≤ MOST_VERTICES → IsAdded (short line) old new → IsAdded line old new
lift_added line old new few one =
    let x = one.row in
    let s = said (rank_width old) line x one.shaped in
    let below = one.inside.vertex in
    let vertex : x.vertex ≡ s.vertex = omega (arith, s.number, below, few) in
    let move : x.entry.move ≡ s.move = small_move old.evidence.entries few s.move x.entry.move one.inside.move s.read in
    let same : row s.vertex s.move x.entry.rank ≡ x = λ i. row (sym vertex i) (sym move i) x.entry.rank in
    record { row = x; shaped = subst (IsShaped (rank_width old) line) same s.shaped; inside = one.inside; free = one.free; added = one.added }

-- ---- how long a shortened line is

numeral_short : (bytes : List ℕ) (n : ℕ) → IsNumeral bytes n → length (short bytes) ≤ 11
numeral_short bytes n h = few_taken bytes (number_front_is bytes (numeral_digits bytes h.0))
  where
    few_taken : (bytes : List ℕ) → short bytes ≡ take 11 bytes → length (short bytes) ≤ 11
    few_taken bytes e = elim (cases_lt (length bytes) 11) [
      | inl less ↦ omega (arith, ap length e, ap length (take_all 11 bytes (omega (arith, less))), less)
      | inr more ↦ omega (arith, ap length e, length-take-le 11 bytes more)
    ]

move_few : (bytes : List ℕ) (m : Option ℕ) → IsMoveText bytes m → length (short bytes) ≤ 11
move_few bytes None h = omega (arith, ap (λ l. length (short l)) h)
move_few bytes (Some t) h = numeral_short bytes t h

joined_few : (numerals : List (List ℕ)) (ks : List ℕ) → AllZip IsNumeral numerals ks → AllByRecursion (λ k. k ≤ GREATEST_COUNT) ks
    → length (join_with_byte 44 numerals) ≤ 9 * length ks
joined_few [] [] each small = omega arith
joined_few [] (k ∷ ks) each small = absurd each
joined_few (x ∷ xs) [] each small = absurd each
joined_few (x ∷ []) (k ∷ ks) each small =
    let one = few_digits x each.0.0 (omega (arith, each.0.1, small.0)) in omega (arith, one)
joined_few (x ∷ y ∷ xs) (k ∷ ks) each small =
    let one = few_digits x each.0.0 (omega (arith, each.0.1, small.0)) in
    let more = joined_few (y ∷ xs) ks each.1 small.1 in
    omega (arith, one, more, length-append x (44 ∷ join_with_byte 44 (y ∷ xs)))

-- a line with the shape of one is no longer than is kept of it
pub short_enough : (width : ℕ) (line : List ℕ) (x : EntryRow) → width ≤ MOST_COUNTS → IsShaped width line x → length (short line) < LONGEST_LINE
short_enough width line x narrow h =
    let s = h.spelled in
    let (numerals, each, is) = s.rank in
    let ranks = joined_few numerals x.entry.rank each h.small in
    let rank : length s.r ≤ 9 * length x.entry.rank + 2 = omega (arith, ranks, ap length is, length-append (join_with_byte 44 numerals) (codes ")")) in
    let tail : length (short s.r) ≤ length s.r = short_shorter 0 s.r in
    let a : short line ≡ short s.v ++ 32 ∷ (short s.m ++ 32 ∷ short s.r) =
    ap short s.joined ∙ short_append s.v 32 (s.m ++ 32 ∷ s.r) refl ∙ ap (λ l. short s.v ++ 32 ∷ l) (short_append s.m 32 s.r refl) in
    let v = numeral_short s.v x.vertex s.vertex in
    let m = move_few s.m x.entry.move s.move in
    omega (
      arith,
      ap length a,
      length-append (short s.v) (32 ∷ (short s.m ++ 32 ∷ short s.r)),
      length-append (short s.m) (32 ∷ short s.r),
      v,
      m,
      tail,
      rank,
      h.count,
      narrow,
    )

-- what is kept of a line is the shortened line, where there is room for more
pub kept_whole : (kept line : List ℕ) → kept ≡ take LONGEST_LINE (short line) → length kept < LONGEST_LINE → kept ≡ short line
kept_whole kept line e room =
    elim (cases_lt (length (short line)) LONGEST_LINE) [
      | inl less ↦ e ∙ take_all LONGEST_LINE (short line) (omega (arith, less))
      | inr more ↦ absurd (omega (arith, ap length e, length-take-le LONGEST_LINE (short line) more, room))
    ]

-- a line of which too much is kept is none
pub too_long : (old : NamedEvidence) (kept line : List ℕ) → rank_width old ≤ MOST_COUNTS → kept ≡ take LONGEST_LINE (short line) → LONGEST_LINE ≤ length kept
    → IsWrongLine old line BadLine
too_long old kept line narrow e long = λ x h.
    let few = short_enough (rank_width old) line x narrow h in
    omega (arith, ap length e, ap length (take_all LONGEST_LINE (short line) (omega (arith, few))), few, long)

-- ---- the header

header_word : (player : Player) (line : List ℕ) → take LONGEST_LINE (short line) ≡ header player → line ≡ header player
header_word Even line e = word_short line (header Even) refl (sym (kept_whole (header Even) line (sym e) (omega arith)))
header_word Odd line e = word_short line (header Odd) refl (sym (kept_whole (header Odd) line (sym e) (omega arith)))

pub a_header : (player : Player) (kept line : List ℕ) → kept ≡ take LONGEST_LINE (short line) → kept ≡ header player → line ≡ header player
a_header player kept line e h = header_word player line (sym e ∙ h)

header_kept : (player : Player) → take LONGEST_LINE (short (header player)) ≡ header player
header_kept Even = refl
header_kept Odd = refl

pub no_header : (kept line : List ℕ) → kept ≡ take LONGEST_LINE (short line) → IsNoHeader kept → IsNoHeader line
no_header kept line e none player h = none player (e ∙ ap (λ l. take LONGEST_LINE (short l)) h ∙ header_kept player)
