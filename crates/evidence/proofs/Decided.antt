-- A text spells evidence for a game, or a fault decides.
use Rattle.std.proofs.Common.{◌≡◌, ◌≢◌, ℕ, ◌+◌, ◌<◌, ◌⊎◌, inl, inr, List, [], ◌∷◌, ◌++◌, length, Option, Some, None, Bool, true, false, append-nil, refl, sym}
use Rattle.std.proofs.Common.{ap, ◌∙◌, subst, append_assoc, arith, get_or, replicate, slice_index_or, slice_set}
use Rattle.std.specs.Str.{bytes_eq}
use Rattle.std.proofs.lemmas.Bool.Decides.{leb_tells}
use Rattle.std.proofs.lemmas.List.{length-replicate, length-set}
use Rattle.std.proofs.lemmas.List.Elements.{Contains-get_or}
use Rattle.std.proofs.lemmas.List.Quantifiers.{all_pairs_push}
use Rattle.std.proofs.lemmas.Slice.Eq.{bytes_eq-Decides}
use Rattle.text.specs.Text.{pieces_of}
use Rattle.game.specs.Game.{Game}
use Rattle.game.specs.declared.player.Player.{Player}
use Rattle.game.specs.declared.player.Player.TheVariants.{Even, Odd}
use Rattle.evidence.specs.Canon.{header}
use Rattle.evidence.specs.Evidence.{Entry, Evidence, counted}
use Rattle.evidence.specs.Fault.{HasEvidenceFault, IsFaultyRest, EvidenceLineFault}
use Rattle.evidence.specs.Spelling.{AreGoodRows, AreLines, AreEntriesOf, IsEvidenceText, IsRowInside, IsShaped, EntryRow}
use Rattle.evidence.specs.declared.error.EvidenceFault.{EvidenceFault}
use Rattle.evidence.specs.declared.error.EvidenceFault.TheVariants.{BadHeader, BadLine, BadVertex}
use Rattle.evidence.proofs.Gathered.{all_more, each_more, same_more}
use Rattle.evidence.proofs.Making.{none_at}
use Rattle.evidence.proofs.Scanned.{row_found, row_gives, row_of}

module _ (n width : ℕ) where
  -- lines that say these rows, which are these entries
  record Fine (front : List (List ℕ)) (rows : List EntryRow) (entries : List (Option Entry)) : Type 0 where
    good : AreGoodRows n width front rows
    long : length entries ≡ n
    same : AreEntriesOf rows entries

  -- a line behind them
  data Judged (rows : List EntryRow) (entries : List (Option Entry)) (line : List ℕ) : Type 0 where
    fine : (row : EntryRow) → IsShaped width line row → IsRowInside n row → slice_index_or entries row.vertex None ≡ None → Judged rows entries line
    no_line : EvidenceLineFault n width rows line BadLine → Judged rows entries line
    no_place : EvidenceLineFault n width rows line BadVertex → Judged rows entries line

  -- all lines say entries, or one of them is faulty
  data Rest (rest : List (List ℕ)) : Type 0 where
    all : (entries : List (Option Entry)) → AreLines n width rest entries → Rest rest
    bad_line : (good : ℕ) → IsFaultyRest n width rest BadLine good → Rest rest
    bad_vertex : (good : ℕ) → IsFaultyRest n width rest BadVertex good → Rest rest

  module _ (rows : List EntryRow) (entries : List (Option Entry)) (same : AreEntriesOf rows entries) (line : List ℕ) where
    by_free : (row : EntryRow) → IsShaped width line row → IsRowInside n row → (o : Option Entry) → slice_index_or entries row.vertex None ≡ o
        → Judged rows entries line
    by_free row shaped inside None free = fine row shaped inside free
    by_free row shaped inside (Some x) taken =
        no_place (row, shaped, inr (inr (record { vertex = row.vertex; entry = x }, (same row.vertex x).0 taken, refl)))

    by_move : (row : EntryRow) → IsShaped width line row → row.vertex < n → (o : Option ℕ) → row.entry.move ≡ o → Judged rows entries line
    by_move row shaped vertex None none =
        let inside : IsRowInside n row = record { vertex = vertex; move = λ t e. (let q : None ≡ Some t = sym none ∙ e in cc) } in
        by_free row shaped inside (slice_index_or entries row.vertex None) refl
    by_move row shaped vertex (Some t) some = elim (leb_tells n t) [
      | inl w ↦ no_place (row, shaped, inr (inl (t, some, w.1)))
      | inr w ↦ by_free row shaped (record { vertex = vertex; move = λ u e. within t u w.1 (sym some ∙ e) }) (slice_index_or entries row.vertex None) refl
    ]
      where
        within : (t u : ℕ) → t < n → Some t ≡ Some u → u < n
        within t u h e = let q : t ≡ u = cc in omega (arith, h, q)

    by_vertex : (row : EntryRow) → IsShaped width line row → Judged rows entries line
    by_vertex row shaped = elim (leb_tells n row.vertex) [
      | inl w ↦ no_place (row, shaped, inl w.1)
      | inr w ↦ by_move row shaped w.1 row.entry.move refl
    ]

    by_scan : (o : Option EntryRow) → row_of width line ≡ o → Judged rows entries line
    by_scan None none = no_line (λ row shaped. (let q : None ≡ Some row = sym none ∙ row_found width line row shaped in absurd cc))
    by_scan (Some row) found = by_vertex row (row_gives width line row found)

  longer : (front : List (List ℕ)) (rows : List EntryRow) (entries : List (Option Entry)) (line : List ℕ) (row : EntryRow) → Fine front rows entries
      → IsShaped width line row → IsRowInside n row → slice_index_or entries row.vertex None ≡ None
      → Fine (front ++ line ∷ []) (rows ++ row ∷ []) (slice_set entries row.vertex (Some row.entry))
  longer front rows entries line row is shaped inside free =
      let vertex : row.vertex < length entries = omega (arith, inside.vertex, is.long) in record {
        good = record {
          each = each_more width front rows line row is.good.each shaped;
          inside = all_more n rows row is.good.inside inside;
          once = all_pairs_push (λ (a b : EntryRow). a.vertex ≢ b.vertex) rows row is.good.once apart;
        };
        long = length-set entries row.vertex (Some row.entry) ∙ is.long;
        same = same_more rows entries row is.same vertex free;
      }
    where
      apart : (k : ℕ) (d : EntryRow) → k < length rows → (get_or rows k d).vertex ≢ row.vertex
      apart k d h e =
          let y = get_or rows k d in
          let at = (is.same y.vertex y.entry).1 (Contains-get_or rows k d h) in
          let q : None ≡ Some y.entry = sym (ap (λ v. slice_index_or entries v None) e ∙ free) ∙ at in cc

  -- a line behind lines that are fine
  at_line : (rest front : List (List ℕ)) (line : List ℕ) (back : List (List ℕ)) (rows : List EntryRow) (entries : List (Option Entry))
      → rest ≡ front ++ line ∷ back → Fine front rows entries
      → ((row : EntryRow) → IsShaped width line row → IsRowInside n row → slice_index_or entries row.vertex None ≡ None → Rest rest)
      → Judged rows entries line → Rest rest
  at_line rest front line back rows entries cut is go (fine row shaped inside free) = go row shaped inside free
  at_line rest front line back rows entries cut is go (no_line wrong) = bad_line (length front)
      (record { front = front; line = line; back = back; before = rows; cut = cut; fine = is.good; count = refl; wrong = wrong })
  at_line rest front line back rows entries cut is go (no_place wrong) = bad_vertex (length front)
      (record { front = front; line = line; back = back; before = rows; cut = cut; fine = is.good; count = refl; wrong = wrong })

  behind : (rest front back : List (List ℕ)) (rows : List EntryRow) (entries : List (Option Entry)) → rest ≡ front ++ back → Fine front rows entries → Rest rest
  behind rest front [] rows entries cut is =
      let whole : rest ≡ front = cut ∙ append-nil front in
      all entries (record { rows = rows; good = subst (λ ls. AreGoodRows n width ls rows) (sym whole) is.good; long = is.long; same = is.same })
  behind rest front (line ∷ back) rows entries cut is =
      at_line rest front line back rows entries cut is
      (λ row shaped inside free. behind rest (front ++ line ∷ []) back (rows ++ row ∷ []) (slice_set entries row.vertex (Some row.entry))
      (cut ∙ sym (append_assoc front (line ∷ []) back)) (longer front rows entries line row is shaped inside free))
      (by_scan rows entries is.same line (row_of width line) refl)

  decided_rest : (rest : List (List ℕ)) → Rest rest
  decided_rest rest = behind rest [] rest [] (replicate n None) refl (record {
    good = record { each = tt; inside = tt; once = λ i j d l k. absurd (omega (arith, k)) };
    long = length-replicate n None;
    same = λ v x. (
      λ e. (let q : None ≡ Some x = sym (none_at n v) ∙ e in absurd cc),
      λ h. absurd (omega (arith, h.1)),
    );
  })

-- ---- the whole text

abbrev Decided : Game → List ℕ → Type 0
Decided g text = ((e : Evidence) × IsEvidenceText g text e) ⊎ ((fault : EvidenceFault) × (line : ℕ) × HasEvidenceFault g text fault line)

by_rest : (g : Game) (text : List ℕ) (player : Player) (rest : List (List ℕ)) → pieces_of text ≡ header player ∷ rest
    → Rest (length g.vertices) (length (counted player g)) rest → Decided g text
by_rest g text player rest cut (all entries lines) = inl (record { player = player; entries = entries }, record { rest = rest; cut = cut; lines = lines })
by_rest g text player rest cut (bad_line good wrong) = inr (BadLine, good + 2, (player, rest, good, cut, wrong, refl))
by_rest g text player rest cut (bad_vertex good wrong) = inr (BadVertex, good + 2, (player, rest, good, cut, wrong, refl))

by_player : (g : Game) (text : List ℕ) (player : Player) (first : List ℕ) (rest : List (List ℕ)) → pieces_of text ≡ first ∷ rest → first ≡ header player
    → Decided g text
by_player g text player first rest cut is =
    by_rest g text player rest (cut ∙ ap (λ l. l ∷ rest) is) (decided_rest (length g.vertices) (length (counted player g)) rest)

heads : (x y : List ℕ) (xs ys : List (List ℕ)) → x ∷ xs ≡ y ∷ ys → x ≡ y
heads x y xs ys e = cc

by_header : (g : Game) (text first : List ℕ) (rest : List (List ℕ)) → pieces_of text ≡ first ∷ rest → (a b : Bool) → bytes_eq first (header Even) ≡ a
    → bytes_eq first (header Odd) ≡ b → Decided g text
by_header g text first rest cut true b even odd = by_player g text Even first rest cut ((bytes_eq-Decides first (header Even)).0 even)
by_header g text first rest cut false true even odd = by_player g text Odd first rest cut ((bytes_eq-Decides first (header Odd)).0 odd)
by_header g text first rest cut false false even odd = inr (BadHeader, 1, (headless, refl))
  where
    headless : (player : Player) (others : List (List ℕ)) → pieces_of text ≡ header player ∷ others → ⊥
    headless Even others is =
        let same = (bytes_eq-Decides first (header Even)).1 (heads first (header Even) rest others (sym cut ∙ is)) in
        let q : false ≡ true = sym even ∙ same in cc
    headless Odd others is =
        let same = (bytes_eq-Decides first (header Odd)).1 (heads first (header Odd) rest others (sym cut ∙ is)) in
        let q : false ≡ true = sym odd ∙ same in cc

by_lines : (g : Game) (text : List ℕ) (all : List (List ℕ)) → pieces_of text ≡ all → Decided g text
by_lines g text [] none = inr (BadHeader, 1, ((λ player rest is. (let q : [] ≡ header player ∷ rest = sym none ∙ is in cc)), refl))
by_lines g text (first ∷ rest) cut = by_header g text first rest cut (bytes_eq first (header Even)) (bytes_eq first (header Odd)) refl refl

pub decided : (g : Game) (text : List ℕ) → Decided g text
decided g text = by_lines g text (pieces_of text) refl
