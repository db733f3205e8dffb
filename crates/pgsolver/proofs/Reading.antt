-- What is known while the vertex lines are read.
use Rattle.std.proofs.Common.{◌≡◌, ◌≢◌, ℕ, ◌+◌, ◌<◌, ◌≤◌, inl, inr, true, false, ◌==◌, List, [], ◌∷◌, ◌++◌, length, map, get_or, Option, Some, None}
use Rattle.std.proofs.Common.{slice_index_or, slice_set, refl, sym, ap, ◌∙◌, subst, append_assoc, append-nil, arith}
use Rattle.std.specs.Prelude.{IfSome, slice_get}
use Rattle.std.specs.List.{AllZip, AllByRecursion}
use Rattle.std.proofs.lemmas.Bool.{eqb-true, eqb-false, cases_lt}
use Rattle.std.proofs.lemmas.List.{length-append, length-map, length-set, map-append, get_or-set_same, get_or-set_other}
use Rattle.std.proofs.lemmas.List.Quantifiers.{all_pairs_push}
use Rattle.std.proofs.lemmas.Option.{slice_get_within, slice_get-get_or}
use Rattle.text.specs.Text.{lines}
use Rattle.text.specs.Lines.{IfKnown}
use Rattle.text.specs.Stream as stream
use Rattle.text.specs.Stream.{after_line, HasLine}
use Rattle.lts.specs.Left.{HasNoLine}
use Rattle.lts.proofs.Gathering.{all_append}
use Rattle.systems.proofs.Ordered.{Has, Has-from_Contains, Contains-from_Has, all_has}
use Rattle.game.specs.declared.limits.TheConstants.{MOST_VERTICES}
use Rattle.game.specs.Game.{Vertex, IsVertex, IsGame}
use Rattle.game.specs.NumberSet.{number_set}
use Rattle.pgsolver.specs.declared.error.PgFault.{PgFault}
use Rattle.pgsolver.specs.declared.error.PgFault.TheVariants.{BadLine, BadIdentifier}
use Rattle.pgsolver.specs.declared.error.PgError.{PgError}
use Rattle.pgsolver.specs.declared.error.PgError.TheVariants.{Fault, Read, Memory}
use Rattle.pgsolver.specs.declared.scan.Head.{Head}
use Rattle.pgsolver.specs.Spelling.{VertexLine, IsLine, IsLineWithin, AreGoodLines, vertex_said}
use Rattle.pgsolver.specs.Fault.{PgLineFault}
use Rattle.pgsolver.specs.Scan.{line_said}
use Rattle.pgsolver.specs.Passes.{PassesVertex}
use Rattle.pgsolver.specs.Left.{HasPgRestFault, BeginsWithLines, TakesRow, IsPlace, ArePlaces, LinesSoFar, AreAll, AreFilled, Says, TellsFault, RefusesPg}
use Rattle.pgsolver.proofs.Scanning.{line_gives}
use Rattle.pgsolver.proofs.Judging.{no_shape}
use Rattle.pgsolver.proofs.Placing.{has_at, has_end, at_left, at_end, each_there}
use Rattle.pgsolver.proofs.Sets.{set_up, set_all, set_some, up_few, ascending_up}

zip_more : (done : List (List ℕ)) (spelled : List VertexLine) (line : List ℕ) (x : VertexLine) → AllZip IsLine done spelled → IsLine line x
    → AllZip IsLine (done ++ line ∷ []) (spelled ++ x ∷ [])
zip_more [] [] line x each one = (one, tt)
zip_more [] (y ∷ spelled) line x each one = absurd each
zip_more (l ∷ done) [] line x each one = absurd each
zip_more (l ∷ done) (y ∷ spelled) line x each one = (each.0, zip_more done spelled line x each.1 one)

pub zip_length : (done : List (List ℕ)) (spelled : List VertexLine) → AllZip IsLine done spelled → length spelled ≡ length done
zip_length [] [] each = refl
zip_length [] (y ∷ spelled) each = absurd each
zip_length (l ∷ done) [] each = absurd each
zip_length (l ∷ done) (y ∷ spelled) each = omega (arith, zip_length done spelled each.1)

-- the lines of a text begin with the one that is next
cut_more : (old a mid new : Option (List ℕ)) (spelled : List VertexLine) (x : VertexLine) → IfKnown old a (BeginsWithLines spelled) → HasLine a mid true
    → IfKnown mid new (TakesRow x) → IfKnown old new (BeginsWithLines (spelled ++ x ∷ []))
cut_more None a mid new spelled x cut has taken = tt
cut_more (Some text) None mid new spelled x cut has taken = absurd cut
cut_more (Some text) (Some left) None new spelled x cut has taken = absurd has
cut_more (Some text) (Some left) (Some same) None spelled x cut has taken = absurd taken
cut_more (Some text) (Some left) (Some same) (Some rest) spelled x (done, cut, each) (kept, more) (is, after) = (
  done ++ stream.line_of left ∷ [],
  cut ∙ ap (λ l. done ++ l) (more ∙ ap (λ t. stream.line_of left ∷ lines t) (sym (after ∙ ap after_line kept)))
      ∙ sym (append_assoc done (stream.line_of left ∷ []) (lines rest)),
  zip_more done spelled (stream.line_of left) x each (subst (λ t. IsLine (stream.line_of t) x) kept is),
)

-- ---- no line yet

pub nothing_yet : (n : ℕ) (old : Option (List ℕ)) (vertices : List Vertex) (places : List (Option ℕ)) → vertices ≡ [] → length places ≡ n + 1
    → ((v : ℕ) → slice_index_or places v None ≡ None) → LinesSoFar n 0 old old vertices places
nothing_yet n old vertices places none count empty = record {
  spelled = [];
  within = tt;
  once = λ i j d less below. absurd (omega arith);
  count = refl;
  cut = start old;
  kept = none;
  placed = record { count = count; each = λ v low. subst (IsPlace [] v) (sym (empty v)) (λ x there _. Has-from_Contains [] x there) };
}
  where
    start : (old : Option (List ℕ)) → IfKnown old old (BeginsWithLines [])
    start None = tt
    start (Some text) = ([], refl, tt)

-- ---- one more line

place_more : (spelled : List VertexLine) (x : VertexLine) (v : ℕ) (o : Option ℕ) → IsPlace spelled v o → (x.id ≡ v → ⊥) → IsPlace (spelled ++ x ∷ []) v o
place_more spelled x v None none other = λ y there same.
    elim (has_end spelled x y (Has-from_Contains (spelled ++ x ∷ []) y there))
    [ inl h ↦ none y (Contains-from_Has spelled y h) same | inr e ↦ other (ap (λ (l : VertexLine). l.id) e ∙ same) ]
place_more spelled x v (Some k) (y, at, same) other = (y, at_left spelled x y k at, same)

-- the identifier is that of no line before
no_line_before : (spelled : List VertexLine) (x : VertexLine) (o : Option ℕ) → o ≡ None → IsPlace spelled x.id o → (k : ℕ) (d : VertexLine) → k < length spelled
    → (get_or spelled k d).id ≢ x.id
no_line_before spelled x o none at k d below same =
    let empty : IsPlace spelled x.id None = subst (IsPlace spelled x.id) none at in
    empty (get_or spelled k d) (Contains-from_Has spelled (get_or spelled k d)
    (has_at spelled k (get_or spelled k d) (slice_get-get_or spelled k d below))) same

places_more : (n good : ℕ) (spelled : List VertexLine) (places new : List (Option ℕ)) (x : VertexLine) (id : ℕ) → ArePlaces n spelled places → length spelled ≡ good
    → id ≡ x.id → x.id ≤ n → new ≡ slice_set places id (Some good) → ArePlaces n (spelled ++ x ∷ []) new
places_more n good spelled places new x id are count same low made = record {
  count = ap length made ∙ length-set places id (Some good) ∙ are.count;
  each = λ v inside.
      let P : List (Option ℕ) → Type 0 = λ ps. IsPlace (spelled ++ x ∷ []) v (slice_index_or ps v None) in
      subst P (sym made)
      (elim (x.id == v) as (λ b. (x.id == v) ≡ b → IsPlace (spelled ++ x ∷ []) v (slice_index_or (slice_set places id (Some good)) v None)) [
        | true ↦ λ e.
            let at : id ≡ v = same ∙ eqb-true x.id v e in
            let put : slice_index_or (slice_set places id (Some good)) v None
            ≡ Some good = ap (λ k. slice_index_or (slice_set places id (Some good)) k None) (sym at)
            ∙ get_or-set_same places id (Some good) None (omega (arith, are.count, same, low)) in
            subst (IsPlace (spelled ++ x ∷ []) v) (sym put) (x, ap (slice_get (spelled ++ x ∷ [])) (sym count) ∙ at_end spelled x, eqb-true x.id v e)
        | false ↦ λ e.
            let other : x.id ≡ v → ⊥ = eqb-false x.id v e in
            let kept : slice_index_or (slice_set places id (Some good)) v None
            ≡ slice_index_or places v None = get_or-set_other places id v (Some good) None (λ k. other (sym same ∙ sym k)) in
            subst (IsPlace (spelled ++ x ∷ []) v) (sym kept) (place_more spelled x v (slice_index_or places v None) (are.each v inside) other)
      ] refl);
}

pub row_more : (n good : ℕ) (old a mid new : Option (List ℕ)) (vertices vertices' : List Vertex) (places places' : List (Option ℕ))
    (head : Head) (targets : List ℕ) → LinesSoFar n good old a vertices places → HasLine a mid true
    → Says n places mid new head targets → vertices' ≡ vertices ++ record { owner = head.owner; priority = head.priority; successors = targets } ∷ []
    → places' ≡ slice_set places head.id (Some good) → LinesSoFar n (good + 1) old new vertices' places'
row_more n good old a mid new vertices vertices' places places' head targets so has says added put =
    let x = line_said head says.successors in
    let made : record { owner = head.owner; priority = head.priority; successors = targets }
    ≡ vertex_said x = λ i. record { owner = head.owner; priority = head.priority; successors = says.set i } in
    record {
      spelled = so.spelled ++ x ∷ [];
      within = all_append (IsLineWithin n) so.spelled (x ∷ []) so.within (says.within, tt);
      once = all_pairs_push (λ x y. x.id ≢ y.id) so.spelled x so.once
          (no_line_before so.spelled x (slice_index_or places x.id None) says.new_id (so.placed.each x.id says.within.id));
      count = omega (arith, length-append so.spelled (x ∷ []), so.count);
      cut = cut_more old a mid new so.spelled x so.cut has says.is;
      kept = added ∙ (λ i. so.kept i ++ made i ∷ []) ∙ sym (map-append vertex_said so.spelled (x ∷ []));
      placed = places_more n good so.spelled places places' x head.id so.placed so.count refl says.within.id put;
    }

-- successors up to n are no more than there are vertices
pub few_targets : (n : ℕ) (places : List (Option ℕ)) (old new : Option (List ℕ)) (head : Head) (targets : List ℕ) → n < MOST_VERTICES
    → Says n places old new head targets → length targets ≤ MOST_VERTICES
few_targets n places old new head targets small says =
    omega (
      arith,
      ap length says.set,
      up_few n 0 (number_set says.successors) (omega arith) (set_up says.successors)
          (set_all (λ t. t ≤ n) says.successors says.within.successors),
    )

-- ---- a fault

-- the good lines so far, and those that follow
record Front (n good : ℕ) (text left : List ℕ) (spelled : List VertexLine) : Type 0 where
  done : List (List ℕ)
  cut : lines text ≡ done ++ lines left
  goods : AreGoodLines n done spelled
  count : length done ≡ good

front_of : (n good : ℕ) (text left : List ℕ) (vertices : List Vertex) (places : List (Option ℕ)) (so : LinesSoFar n good (Some text) (Some left) vertices places)
    → Front n good text left so.spelled
front_of n good text left vertices places so =
    let (done, cut, each) = so.cut in
    record { done = done; cut = cut; goods = record { each = each; within = so.within; once = so.once }; count = sym (zip_length done so.spelled each) ∙ so.count }

-- the lines end too soon
pub too_few : (n good p : ℕ) → p ≡ good → (old mid new : Option (List ℕ)) (vertices : List Vertex) (places : List (Option ℕ))
    → LinesSoFar n good old mid vertices places → HasLine mid new false → good ≤ n → IfSome old (λ text. HasPgRestFault n text BadIdentifier (p + 2))
too_few n good p at None mid new vertices places so none few = tt
too_few n good p at (Some text) None new vertices places so none few = absurd so.cut
too_few n good p at (Some text) (Some left) None vertices places so none few = absurd none
too_few n good p at (Some text) (Some left) (Some rest) vertices places so none few =
    let front = front_of n good text left vertices places so in
    let whole : lines text ≡ front.done = front.cut ∙ ap (λ l. front.done ++ l) none.1 ∙ append-nil front.done in (
      good,
      inr (
          record {
            spelled = so.spelled;
            good_lines = subst (λ l. AreGoodLines n l so.spelled) (sym whole) front.goods;
            few = omega (arith, ap length whole, front.count);
            count = ap length whole ∙ front.count;
          }
          ),
      ap (λ k. k + 2) at,
    )

bad_text : (n good p : ℕ) → p ≡ good + 2 → (text left line : List ℕ) (rest : List (List ℕ)) (spelled : List VertexLine) (fault : PgFault)
    → Front n good text left spelled → lines left ≡ line ∷ rest → PgLineFault n spelled line fault → HasPgRestFault n text fault p
bad_text n good p at text left line rest spelled BadIdentifier front more wrong = (
  good,
  inl (record {
    front = front.done;
    line = line;
    back = rest;
    before = spelled;
    cut = front.cut ∙ ap (λ l. front.done ++ l) more;
    good_lines = front.goods;
    count = front.count;
    wrong = wrong;
  }),
  at,
)
bad_text n good p at text left line rest spelled _ front more wrong = (
  good,
  record {
    front = front.done;
    line = line;
    back = rest;
    before = spelled;
    cut = front.cut ∙ ap (λ l. front.done ++ l) more;
    good_lines = front.goods;
    count = front.count;
    wrong = wrong;
  },
  at,
)

-- the line is faulty
pub bad_row : (n good p : ℕ) → p ≡ good + 2 → (old a mid : Option (List ℕ)) (vertices : List Vertex) (places : List (Option ℕ))
    (e : PgError) → LinesSoFar n good old a vertices places → HasLine a mid true
    → ((before : List VertexLine) → ArePlaces n before places → TellsFault n before mid p e) → RefusesPg old (HasPgRestFault n) e
bad_row n good p at None a mid vertices places e so more tells = tt
bad_row n good p at (Some text) None mid vertices places e so more tells = absurd so.cut
bad_row n good p at (Some text) (Some left) None vertices places e so more tells = absurd more
bad_row n good p at (Some text) (Some left) (Some same) vertices places Read so more tells = tt
bad_row n good p at (Some text) (Some left) (Some same) vertices places Memory so more tells = tt
bad_row n good p at (Some text) (Some left) (Some same) vertices places (Fault fault l) so (kept, more) tells =
    let (wrong, here) = tells so.spelled so.placed in
    bad_text n good l (here ∙ at) text left (stream.line_of left) (lines (after_line left)) so.spelled fault (front_of n good text left vertices places so) more
    (subst (λ t. PgLineFault n so.spelled (stream.line_of t) fault) kept wrong)

within_id : (n : ℕ) (spelled : List VertexLine) → AllByRecursion (IsLineWithin n) spelled → (x : VertexLine) → Has spelled x → x.id ≤ n
within_id n spelled within x there = (all_has (IsLineWithin n) spelled x within there).id

-- a line after as many as were announced
past_shape : (n : ℕ) (old now : Option (List ℕ)) (vertices : List Vertex) (places : List (Option ℕ)) (line : List ℕ) (x : VertexLine)
    → (so : LinesSoFar n (n + 1) old now vertices places) → IsLine line x → PgLineFault n so.spelled line BadIdentifier
past_shape n old now vertices places line x so is =
    elim (cases_lt n x.id) [
      | inl high ↦ (x, is, inl high)
      | inr low ↦
          let (y, there, same) = each_there n x.id so.spelled so.once (within_id n so.spelled so.within) so.count low in
          (x, is, inr (y, Contains-from_Has so.spelled y there, same))
    ]

past_end : (n p : ℕ) → p ≡ n + 3 → (old a mid : Option (List ℕ)) (vertices : List Vertex) (places : List (Option ℕ)) (fault : PgFault)
    → LinesSoFar n (n + 1) old a vertices places → HasLine a mid true
    → ((so : LinesSoFar n (n + 1) old a vertices places) → IfSome mid (λ text. PgLineFault n so.spelled (stream.line_of text) fault))
    → IfSome old (λ text. HasPgRestFault n text fault p)
past_end n p at None a mid vertices places fault so more wrong = tt
past_end n p at (Some text) None mid vertices places fault so more wrong = absurd so.cut
past_end n p at (Some text) (Some left) None vertices places fault so more wrong = absurd more
past_end n p at (Some text) (Some left) (Some same) vertices places fault so (kept, more) wrong =
    bad_text n (n + 1) p (omega arith) text left (stream.line_of left) (lines (after_line left)) so.spelled fault (front_of n (n + 1) text left vertices places so) more
    (subst (λ t. PgLineFault n so.spelled (stream.line_of t) fault) kept (wrong so))

pub past_bad : (n p : ℕ) → p ≡ n + 3 → (old a mid new : Option (List ℕ)) (vertices : List Vertex) (places : List (Option ℕ)) (targets : List ℕ)
    → LinesSoFar n (n + 1) old a vertices places → HasLine a mid true → IfKnown mid new (PassesVertex targets None)
    → IfSome old (λ text. HasPgRestFault n text BadLine p)
past_bad n p at old a mid new vertices places targets so more none =
    past_end n p at old a mid vertices places BadLine so more (λ so. no_shape n so.spelled targets mid new none)

-- a vertex line is one too many
one_more : (n : ℕ) (old a : Option (List ℕ)) (vertices : List Vertex) (places : List (Option ℕ)) (head : Head) (targets : List ℕ) (mid new : Option (List ℕ))
    → IfKnown mid new (PassesVertex targets (Some head)) → (so : LinesSoFar n (n + 1) old a vertices places)
    → IfSome mid (λ text. PgLineFault n so.spelled (stream.line_of text) BadIdentifier)
one_more n old a vertices places head targets None new found so = tt
one_more n old a vertices places head targets (Some text) None found so = absurd found
one_more n old a vertices places head targets (Some text) (Some left) (numbers, found, same, after) so =
    let (x, is, e) = line_gives (stream.line_of text) (line_said head numbers) found in
    past_shape n old a vertices places (stream.line_of text) x so is

pub past_all : (n p : ℕ) → p ≡ n + 3 → (old a mid new : Option (List ℕ)) (vertices : List Vertex) (places : List (Option ℕ)) (head : Head)
    (targets : List ℕ) → LinesSoFar n (n + 1) old a vertices places → HasLine a mid true → IfKnown mid new (PassesVertex targets (Some head))
    → IfSome old (λ text. HasPgRestFault n text BadIdentifier p)
past_all n p at old a mid new vertices places head targets so more found =
    past_end n p at old a mid vertices places BadIdentifier so more (one_more n old a vertices places head targets mid new found)

-- ---- all lines

pub all_rows : (n good : ℕ) → good ≡ n + 1 → (old mid new : Option (List ℕ)) (vertices : List Vertex) (places : List (Option ℕ))
    → LinesSoFar n good old mid vertices places → IfKnown mid new HasNoLine → IfKnown old new (AreAll n vertices places)
all_rows n good all None mid new vertices places so none = tt
all_rows n good all (Some text) None new vertices places so none = absurd so.cut
all_rows n good all (Some text) (Some left) None vertices places so none = absurd none
all_rows n good all (Some text) (Some left) (Some rest) vertices places so none =
    let front = front_of n good text left vertices places so in
    let whole : lines text ≡ front.done = front.cut ∙ ap (λ l. front.done ++ l) none ∙ append-nil front.done in
    record {
      spelled = so.spelled;
      good_lines = subst (λ l. AreGoodLines n l so.spelled) (sym whole) front.goods;
      count = ap length whole ∙ front.count ∙ all;
      kept = so.kept;
      placed = so.placed;
    }

pub row_count : (n good : ℕ) (old now : Option (List ℕ)) (vertices : List Vertex) (places : List (Option ℕ)) → LinesSoFar n good old now vertices places
    → length vertices ≡ good
row_count n good old now vertices places so = ap length so.kept ∙ length-map so.spelled vertex_said ∙ so.count

fit : (n m : ℕ) (x : VertexLine) → m ≡ n + 1 → IsLineWithin n x → IsVertex m (vertex_said x)
fit n m x is h = record {
  priority = omega (arith, h.priority);
  some = some x.successors h.some;
  ascending = ascending_up 0 (number_set x.successors) (set_up x.successors);
  within = all_less (number_set x.successors) (set_all (λ t. t ≤ n) x.successors h.successors);
}
  where
    some : (ts : List ℕ) → (ts ≡ [] → ⊥) → 1 ≤ length (number_set ts)
    some [] h = absurd (h refl)
    some (t ∷ ts) h = set_some t ts

    all_less : (ts : List ℕ) → AllByRecursion (λ t. t ≤ n) ts → AllByRecursion (λ t. t < m) ts
    all_less [] h = tt
    all_less (t ∷ ts) h = (omega (arith, h.0, is), all_less ts h.1)

fits : (n m : ℕ) (spelled : List VertexLine) → m ≡ n + 1 → AllByRecursion (IsLineWithin n) spelled → AllByRecursion (IsVertex m) (map vertex_said spelled)
fits n m [] is h = tt
fits n m (x ∷ spelled) is h = (fit n m x is h.0, fits n m spelled is h.1)

-- the vertices make a game, in whatever order they stand
pub read_game_is : (n good : ℕ) → good ≡ n + 1 → n < MOST_VERTICES → (old now : Option (List ℕ)) (vertices : List Vertex) (places : List (Option ℕ))
    → LinesSoFar n good old now vertices places → IsGame (record { vertices = vertices; named = None })
read_game_is n good all small old now vertices places so =
    let count = row_count n good old now vertices places so in
    record {
      some = omega (arith, count, all);
      limit = omega (arith, count);
      vertices = subst (AllByRecursion (IsVertex (length vertices))) (sym so.kept) (fits n (length vertices) so.spelled (count ∙ all) so.within);
      named = λ states nodes e. cc;
    }

-- each identifier has its line
pub all_filled : (n good : ℕ) → good ≡ n + 1 → (old now : Option (List ℕ)) (vertices : List Vertex) (places : List (Option ℕ))
    → LinesSoFar n good old now vertices places → AreFilled (length vertices) places
all_filled n good all old now vertices places so v below =
    let count : length so.spelled ≡ n + 1 = so.count ∙ all in
    let low : v ≤ n = omega (arith, so.placed.count) in
    let many : length vertices ≡ length so.spelled = ap length so.kept ∙ length-map so.spelled vertex_said in
    let (x, there, same) = each_there n v so.spelled so.once (within_id n so.spelled so.within) count low in
    elim (slice_index_or places v None) as (λ o. IsPlace so.spelled v o → (k : ℕ) × (o ≡ Some k) × (k < length vertices)) [
      | None ↦ λ none. absurd (none x (Contains-from_Has so.spelled x there) same)
      | (Some k) ↦ λ at. let (y, is, e) = at in (k, refl, omega (arith, many, slice_get_within so.spelled k y is))
    ] (so.placed.each v low)
