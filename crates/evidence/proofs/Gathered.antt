-- The entries of lines that were read so far.
use Rattle.std.proofs.Common.{◌≡◌, ◌≢◌, ℕ, zero, suc, ◌+◌, ◌<◌, ◌≤◌, List, [], ◌∷◌, ◌++◌, Option, Some, None, length, refl, sym, ap, ap₂, ◌∙◌, subst, inl, inr}
use Rattle.std.proofs.Common.{true, false, arith, append-nil, append_assoc, get_or, replicate, slice_index_or, slice_set}
use Rattle.std.specs.Prelude.{count_by, Contains, IfSome}
use Rattle.std.specs.List.{AllByRecursion, AllZip}
use Rattle.std.specs.Option.{is_some}
use Rattle.std.proofs.lemmas.Bool.Decides.{eqb_tells}
use Rattle.std.proofs.lemmas.List.{get_or-set_other, get_or-set_same, length-append, length-set}
use Rattle.std.proofs.lemmas.List.Elements.{Contains-append_left, Contains-get_or, Contains-push, Contains-push_cases}
use Rattle.std.proofs.lemmas.List.Quantifiers.{all_pairs_push}
use Rattle.measures.proofs.Lists.{count_no, count_yes}
use Rattle.text.specs.Lines.{IfKnown, TakesPiece}
use Rattle.text.specs.Text.{pieces_of}
use Rattle.evidence.specs.Evidence.{Entry, counted}
use Rattle.evidence.specs.Fault.{IsMisplaced, EvidenceLineFault}
use Rattle.evidence.specs.Reading.{AreEntriesRead, HasEvidenceRestFault, IsAdded, IsCutOff, IsNoPlace, IsWrongLine, EntriesSoFar}
use Rattle.evidence.specs.Spelling.{AreEntriesOf, IsRowInside, IsShaped, EntryRow}
use Rattle.evidence.specs.View.{NamedEvidence, rank_width}
use Rattle.evidence.specs.declared.error.EvidenceFault.{EvidenceFault}
use Rattle.evidence.specs.declared.error.EvidenceFault.TheVariants.{BadHeader, BadLine, BadVertex}
use Rattle.evidence.proofs.Making.{none_at}

none_filled : (n : ℕ) → count_by is_some (replicate {A = Option Entry} n None) ≡ 0
none_filled zero = refl
none_filled (suc n) = let rest = none_filled n in omega arith

-- no line was read
pub nothing_yet : (first : NamedEvidence) (old : Option (List ℕ)) → first.evidence.entries ≡ replicate (length first.evidence.entries) None
    → EntriesSoFar first 0 old old first
nothing_yet first old none = record {
  done = [];
  rows = [];
  fine = record { each = tt; inside = tt; once = λ i j d l k. absurd (omega (arith, k)) };
  count = refl;
  same = λ v x. (
    λ e. absurd (let q = sym (none_at _ v) ∙ (ap (λ es. slice_index_or es v None) (sym none) ∙ e) in let r : None ≡ Some x = q in cc),
    λ h. absurd (omega (arith, h.1)),
  );
  filled = ap (count_by is_some) none ∙ none_filled (length first.evidence.entries);
  long = refl;
  game = refl;
  player = refl;
  cut = start old;
}
  where
    start : (old : Option (List ℕ)) → IfKnown old old (IsCutOff [])
    start None = tt
    start (Some text) = refl

cut_more : (old mid new : Option (List ℕ)) (done : List (List ℕ)) (line : List ℕ) → IfKnown old mid (IsCutOff done) → TakesPiece mid new true line
    → IfKnown old new (IsCutOff (done ++ line ∷ []))
cut_more None mid new done line cut taken = tt
cut_more (Some text) None new done line cut taken = absurd cut
cut_more (Some text) (Some left) None done line cut taken = absurd taken
cut_more (Some text) (Some left) (Some rest) done line cut taken = cut ∙ ap (λ l. done ++ l) taken ∙ sym (append_assoc done (line ∷ []) (pieces_of rest))

pub each_more : (w : ℕ) (done : List (List ℕ)) (rows : List EntryRow) (line : List ℕ) (x : EntryRow) → AllZip (IsShaped w) done rows → IsShaped w line x
    → AllZip (IsShaped w) (done ++ line ∷ []) (rows ++ x ∷ [])
each_more w [] [] line x each one = (one, tt)
each_more w [] (b ∷ rows) line x each one = absurd each
each_more w (l ∷ done) [] line x each one = absurd each
each_more w (l ∷ done) (b ∷ rows) line x each one = (each.0, each_more w done rows line x each.1 one)

pub all_more : (n : ℕ) (rows : List EntryRow) (x : EntryRow) → AllByRecursion (IsRowInside n) rows → IsRowInside n x → AllByRecursion (IsRowInside n) (rows ++ x ∷ [])
all_more n [] x all one = (one, tt)
all_more n (y ∷ rows) x all one = (all.0, all_more n rows x all.1 one)

abbrev nothing : Option Entry
nothing = None

filled_more : (entries : List (Option Entry)) (v : ℕ) (x : Entry) → v < length entries → slice_index_or entries v None ≡ None
    → count_by is_some (slice_set entries v (Some x)) ≡ count_by is_some entries + 1
filled_more [] v x h e = absurd (omega (arith, h))
filled_more (None ∷ entries) zero x h e = omega (arith, count_yes is_some (Some x) entries refl, count_no is_some nothing entries refl)
filled_more (Some y ∷ entries) zero x h e = absurd cc
filled_more (None ∷ entries) (suc v) x h e =
    omega (
      arith,
      filled_more entries v x (omega (arith, h)) e,
      count_no is_some nothing (slice_set entries v (Some x)) refl,
      count_no is_some nothing entries refl,
    )
filled_more (Some y ∷ entries) (suc v) x h e =
    omega (
      arith,
      filled_more entries v x (omega (arith, h)) e,
      count_yes is_some (Some y) (slice_set entries v (Some x)) refl,
      count_yes is_some (Some y) entries refl,
    )

filled_few : (entries : List (Option Entry)) → count_by is_some entries ≤ length entries
filled_few [] = omega arith
filled_few (None ∷ entries) = omega (arith, filled_few entries, count_no is_some nothing entries refl)
filled_few (Some y ∷ entries) = omega (arith, filled_few entries, count_yes is_some (Some y) entries refl)

pub few_good : (first : NamedEvidence) (good : ℕ) (old now : Option (List ℕ)) (read : NamedEvidence) → EntriesSoFar first good old now read
    → good ≤ length first.evidence.entries
few_good first good old now read so = omega (arith, filled_few read.evidence.entries, so.filled, so.long)

wide : (first : NamedEvidence) (good : ℕ) (old now : Option (List ℕ)) (read : NamedEvidence) → EntriesSoFar first good old now read
    → rank_width read ≡ rank_width first
wide first good old now read so = ap₂ (λ p g. length (counted p g)) so.player so.game

pub same_more : (rows : List EntryRow) (entries : List (Option Entry)) (x : EntryRow) → AreEntriesOf rows entries → x.vertex < length entries
    → slice_index_or entries x.vertex None ≡ None → AreEntriesOf (rows ++ x ∷ []) (slice_set entries x.vertex (Some x.entry))
same_more rows entries x same inside free v y = (to, from)
  where
    to : slice_index_or (slice_set entries x.vertex (Some x.entry)) v None ≡ Some y → Contains (rows ++ x ∷ []) (record { vertex = v; entry = y })
    to e = elim (eqb_tells v x.vertex) [
      | inl w ↦ (
          let put = ap (λ k. slice_index_or (slice_set entries x.vertex (Some x.entry)) k None) w.1
          ∙ get_or-set_same entries x.vertex (Some x.entry) None inside in
          let both : Some x.entry ≡ Some y = sym put ∙ e in
          let entry : x.entry ≡ y = cc in
          let is : x ≡ record { vertex = v; entry = y } = λ i. record { vertex = sym w.1 i; entry = entry i } in
          subst (Contains (rows ++ x ∷ [])) is (Contains-push rows x))
      | inr w ↦ Contains-append_left rows (x ∷ []) (record { vertex = v; entry = y })
          ((same v y).0 (sym (get_or-set_other entries x.vertex v (Some x.entry) None w.1) ∙ e))
    ]

    from : Contains (rows ++ x ∷ []) (record { vertex = v; entry = y }) → slice_index_or (slice_set entries x.vertex (Some x.entry)) v None ≡ Some y
    from h = elim (Contains-push_cases rows x (record { vertex = v; entry = y }) h) [
      | inl k ↦ (
          let at = (same v y).1 k in
          let other : v ≢ x.vertex = λ e. (let q : None ≡ Some y = sym (ap (λ k. slice_index_or entries k None) e ∙ free) ∙ at in cc) in
          get_or-set_other entries x.vertex v (Some x.entry) None other ∙ at)
      | inr e ↦ (
          let vertex : v ≡ x.vertex = sym (ap (λ (r : EntryRow). r.vertex) e) in
          ap (λ k. slice_index_or (slice_set entries x.vertex (Some x.entry)) k None) vertex
          ∙ (get_or-set_same entries x.vertex (Some x.entry) None inside ∙ ap (λ (r : EntryRow). Some r.entry) e))
    ]

-- one more line
pub line_more : (first : NamedEvidence) (good : ℕ) (old mid new : Option (List ℕ)) (line : List ℕ) (read after : NamedEvidence)
    → EntriesSoFar first good old mid read → TakesPiece mid new true line → IsAdded line read after → EntriesSoFar first (good + 1) old new after
line_more first good old mid new line read after so taken one =
    record {
      done = so.done ++ line ∷ [];
      rows = so.rows ++ x ∷ [];
      fine = record {
        each = each_more (rank_width first) so.done so.rows line x so.fine.each
            (subst (λ w. IsShaped w line x) (wide first good old mid read so) one.shaped);
        inside = all_more _ so.rows x so.fine.inside (subst (λ n. IsRowInside n x) so.long one.inside);
        once = all_pairs_push (λ (a b : EntryRow). a.vertex ≢ b.vertex) so.rows x so.fine.once apart;
      };
      count = omega (arith, length-append so.done (line ∷ []), so.count);
      same = subst (λ (r : NamedEvidence). AreEntriesOf (so.rows ++ x ∷ []) r.evidence.entries) (sym one.added)
          (same_more so.rows read.evidence.entries x so.same one.inside.vertex one.free);
      filled = ap (λ (r : NamedEvidence). count_by is_some r.evidence.entries) one.added
          ∙ (filled_more read.evidence.entries x.vertex x.entry one.inside.vertex one.free ∙ ap (λ n. n + 1) so.filled);
      long = ap (λ (r : NamedEvidence). length r.evidence.entries) one.added
          ∙ (length-set read.evidence.entries x.vertex (Some x.entry) ∙ so.long);
      game = ap (λ (r : NamedEvidence). r.game) one.added ∙ so.game;
      player = ap (λ (r : NamedEvidence). r.evidence.player) one.added ∙ so.player;
      cut = cut_more old mid new so.done line so.cut taken;
    }
  where
    x : EntryRow
    x = one.row

    apart : (k : ℕ) (d : EntryRow) → k < length so.rows → (get_or so.rows k d).vertex ≢ one.row.vertex
    apart k d h e =
        let y = get_or so.rows k d in
        let at = (so.same y.vertex y.entry).1 (Contains-get_or so.rows k d h) in
        let q : None ≡ Some y.entry = sym (ap (λ v. slice_index_or read.evidence.entries v None) e ∙ one.free) ∙ at in cc

-- no line was left
pub all_read : (first : NamedEvidence) (good : ℕ) (old mid new : Option (List ℕ)) (line : List ℕ) (read : NamedEvidence) → EntriesSoFar first good old mid read
    → TakesPiece mid new false line → AreEntriesRead (length first.evidence.entries) (rank_width first) old read.evidence.entries
all_read first good old mid new line read so taken = record {
  rest = so.done;
  lines = record { rows = so.rows; good = so.fine; long = so.long; same = so.same };
  cut = whole old mid new so.cut taken;
}
  where
    whole : (old mid new : Option (List ℕ)) → IfKnown old mid (IsCutOff so.done) → TakesPiece mid new false line → IfSome old (λ text. pieces_of text ≡ so.done)
    whole None mid new cut taken = tt
    whole (Some text) None new cut taken = absurd cut
    whole (Some text) (Some left) None cut taken = absurd taken
    whole (Some text) (Some left) (Some rest) cut taken = cut ∙ (ap (λ l. so.done ++ l) taken ∙ append-nil so.done)

wrong_line : (first : NamedEvidence) (good : ℕ) (old now : Option (List ℕ)) (read : NamedEvidence) (line : List ℕ) (fault : EvidenceFault)
    → (so : EntriesSoFar first good old now read) → IsWrongLine read line fault
    → EvidenceLineFault (length first.evidence.entries) (rank_width first) so.rows line fault
wrong_line first good old now read line BadHeader so wrong = wrong
wrong_line first good old now read line BadLine so wrong = λ x h. wrong x (subst (λ w. IsShaped w line x) (sym (wide first good old now read so)) h)
wrong_line first good old now read line BadVertex so (x, shaped, place) = (x, subst (λ w. IsShaped w line x) (wide first good old now read so) shaped, misplaced place)
  where
    misplaced : IsNoPlace read.evidence.entries x.vertex x.entry.move → IsMisplaced (length first.evidence.entries) so.rows x
    misplaced (inl past) = inl (subst (λ n. n ≤ x.vertex) so.long past)
    misplaced (inr (inl (t, e, far))) = inr (inl (t, e, subst (λ n. n ≤ t) so.long far))
    misplaced (inr (inr (y, e))) = inr (inr (record { vertex = x.vertex; entry = y }, (so.same x.vertex y).0 e, refl))

-- the line is faulty
pub bad_line : (first : NamedEvidence) (good p : ℕ) → p ≡ good → (old mid new : Option (List ℕ)) (line : List ℕ) (read : NamedEvidence) (fault : EvidenceFault)
    → EntriesSoFar first good old mid read → TakesPiece mid new true line
    → IsWrongLine read line fault → IfSome old (λ text. HasEvidenceRestFault (length first.evidence.entries) (rank_width first) text fault (p + 2))
bad_line first good p at None mid new line read fault so taken wrong = tt
bad_line first good p at (Some text) None new line read fault so taken wrong = absurd so.cut
bad_line first good p at (Some text) (Some left) None line read fault so taken wrong = absurd taken
bad_line first good p at (Some text) (Some left) (Some rest) line read fault so taken wrong = (
  good,
  record {
    front = so.done;
    line = line;
    back = pieces_of rest;
    before = so.rows;
    cut = so.cut ∙ ap (λ l. so.done ++ l) taken;
    fine = so.fine;
    count = so.count;
    wrong = wrong_line first good (Some text) (Some left) read line fault so wrong;
  },
  ap (λ n. n + 2) at,
)
