-- What a worker noted, as its turn has it.
use Rattle.std.proofs.Common.{◌≡◌, ℕ, zero, suc, ◌<◌, ◌≤◌, Bool, true, false, List, [], ◌∷◌, length, take, refl, sym, ◌∙◌, ap, subst, inl, inr, arith}
use Rattle.std.proofs.Common.{true≢false, Contains, Option, Some, None, option_map, slice_index, slice_index_or, slice_set}
use Rattle.std.specs.Prelude.{if◌then◌else◌, MatchOption, MatchResult, Result, Ok, Err}
use Rattle.std.specs.List.{AllZip}
use Rattle.std.specs.List.Sorted.{IsBinarySearchResult}
use Rattle.std.specs.Ordering.{nat_cmp}
use Rattle.std.specs.Result.{result_ok}
use Rattle.std.proofs.lemmas.Bool.{cases_Bool, cases_lt, le-ltb, lt-ltb, ne_eqb}
use Rattle.std.proofs.lemmas.Option.{none-some}
use Rattle.std.proofs.lemmas.List.Sorted.{searched}
use Rattle.game.specs.Game.{Game, IsAscending, IsGame, IsVertex, Vertex, vertex}
use Rattle.game.specs.Predecessors.{successors_at}
use Rattle.measures.specs.Measure.{Measure, Top}
use Rattle.measures.proofs.Lists.{all_got, contains_cases, contains_first, contains_later, contains_none}
use Rattle.liftcore.specs.Core.{Holding, Note, Owing, noted, owing, with_note}
use Rattle.liftcore.specs.Marks.{IsMarked, members}
use Rattle.liftcore.specs.Reading.{AreRead, IsReadAt, successors_read, values_of}
use Rattle.liftcore.specs.Seats.{IsSeat, notes_from, notes_of, worker_of}
use Rattle.liftcore.specs.Work.{CanRaise, CanRead, IsUnread, Owes}
use Rattle.liftcore.specs.declared.seat.CoreWorker.{CoreWorker}
use Rattle.liftcore.proofs.Notes.{holds_owes, holds_same, idle_owes, owes_same, owing_has}
use Rattle.liftcore.proofs.Marked.{marked_member, member_marked}
use Rattle.measures.proofs.Bests.{vertex_here}
use Rattle.game.proofs.Placing.{successors_of as successors_are}
use Rattle.liftcore.proofs.Sets.{same_eqb}

-- ---- ascending numbers

pub contains_at : (xs : List ℕ) (k : ℕ) → k < length xs → Contains xs (slice_index xs k)
contains_at [] k h = absurd (omega arith)
contains_at (x ∷ xs) zero h = contains_first x xs
contains_at (x ∷ xs) (suc k) h = contains_later x (slice_index xs k) xs (contains_at xs k (omega arith))

pub place_in : (xs : List ℕ) (x : ℕ) → Contains xs x → (k : ℕ) × (k < length xs) × (slice_index xs k ≡ x)
place_in [] x h = absurd (contains_none x h)
place_in (y ∷ ys) x (zero, h, e) = (0, omega arith, e)
place_in (y ∷ ys) x (suc k, h, e) = let w = place_in ys x (k, omega arith, e) in (suc w.0, (let l = w.1 in omega arith), w.2)

pub ascending_rest : (x : ℕ) (xs : List ℕ) → IsAscending (x ∷ xs) → IsAscending xs
ascending_rest x [] up = tt
ascending_rest x (y ∷ ys) up = up.1

pub ascending_above : (x : ℕ) (xs : List ℕ) (y : ℕ) → IsAscending (x ∷ xs) → Contains xs y → x < y
ascending_above x [] y up h = absurd (contains_none y h)
ascending_above x (z ∷ zs) y up h = elim (contains_cases z y zs h) [
  | inl e ↦ subst (λ n. x < n) e up.0
  | inr k ↦ (let l = ascending_above z zs y up.1 k in let m = up.0 in omega (arith, l, m))
]

ascending_at : (xs : List ℕ) (i j : ℕ) → IsAscending xs → i ≤ j → j < length xs → slice_index xs i ≤ slice_index xs j
ascending_at [] i j up le h = absurd (omega arith)
ascending_at (x ∷ xs) zero zero up le h = omega arith
ascending_at (x ∷ xs) zero (suc j) up le h = let l = ascending_above x xs (slice_index xs j) up (contains_at xs j (omega arith)) in omega (arith, l)
ascending_at (x ∷ xs) (suc i) zero up le h = absurd (omega arith)
ascending_at (x ∷ xs) (suc i) (suc j) up le h = ascending_at xs i j (ascending_rest x xs up) (omega arith) (omega arith)

pub successors_ascend : (g : Game) (v : ℕ) → IsGame g → IsAscending (successors_at (vertex g v))
successors_ascend g v is = by (vertex g v) refl
  where
    by : (o : Option Vertex) → vertex g v ≡ o → IsAscending (successors_at o)
    by None e = tt
    by (Some x) e = (all_got (IsVertex (length g.vertices)) g.vertices v x is.vertices e).ascending

-- where a number stands, as a search tells
pub found_at : (xs : List ℕ) (v : ℕ) (r : Result ℕ ℕ) (o : Option ℕ) → IsAscending xs → IsBinarySearchResult (λ y. nat_cmp y v) xs r → o ≡ result_ok r
    → MatchOption o (Contains xs v → ⊥) (λ k. (k < length xs) × (slice_index xs k ≡ v))
found_at xs v r o up is same =
    subst (λ (o : Option ℕ). MatchOption o (Contains xs v → ⊥) (λ k. (k < length xs) × (slice_index xs k ≡ v))) (sym same)
    (by r (searched xs v r is (λ i j le h. ascending_at xs i j up le h)))
  where
    by : (r : Result ℕ ℕ) → MatchResult r (λ i. (i < length xs) × (slice_index xs i ≡ v))
        (λ i. (i ≤ length xs) × ((k : ℕ) → k < i → slice_index xs k < v) × ((k : ℕ) → i ≤ k → k < length xs → v < slice_index xs k))
        → MatchOption (result_ok r) (Contains xs v → ⊥) (λ k. (k < length xs) × (slice_index xs k ≡ v))
    by (Ok i) h = h
    by (Err i) h = λ c.
        let w = place_in xs v c in
        let e = w.2 in
        elim (cases_lt w.0 i) [ inl l ↦ (let b = h.1 w.0 l in omega (arith, b, e)) | inr l ↦ (let b = h.2 w.0 l w.1 in omega (arith, b, e)) ]

-- ---- notes of what was read

module _ (v : ℕ) where
  none_noted : (ts : List ℕ) (marks : List Bool) (values : List Measure) → (Contains ts v → ⊥) → noted (notes_from ts marks values) v ≡ None
  none_noted [] marks values lack = refl
  none_noted (t ∷ ts) [] values lack = refl
  none_noted (t ∷ ts) (b ∷ bs) [] lack = refl
  none_noted (t ∷ ts) (false ∷ bs) (m ∷ ms) lack = none_noted ts bs ms (λ h. lack (contains_later t v ts h))
  none_noted (t ∷ ts) (true ∷ bs) (m ∷ ms) lack =
      let apart = ne_eqb t v (λ e. lack (subst (λ z. Contains (t ∷ ts) z) e (contains_first t ts))) in
      rw apart (none_noted ts bs ms (λ h. lack (contains_later t v ts h)))

-- a number that stands before others isn't one of them
not_later : (x : ℕ) (xs : List ℕ) → IsAscending (x ∷ xs) → Contains xs x → ⊥
not_later x xs up h = let l = ascending_above x xs x up h in omega (arith, l)

later_apart : (x : ℕ) (xs : List ℕ) (k : ℕ) → IsAscending (x ∷ xs) → k < length xs → x ≡ slice_index xs k → ⊥
later_apart x xs k up h e = let l = ascending_above x xs (slice_index xs k) up (contains_at xs k h) in omega (arith, l)

pub noted_unread : (ts : List ℕ) (marks : List Bool) (values : List Measure) (k : ℕ) → IsAscending ts → k < length ts → slice_index_or marks k false ≡ false
    → noted (notes_from ts marks values) (slice_index ts k) ≡ None
noted_unread [] marks values k up h e = refl
noted_unread (t ∷ ts) [] values k up h e = refl
noted_unread (t ∷ ts) (b ∷ bs) [] k up h e = refl
noted_unread (t ∷ ts) (b ∷ bs) (m ∷ ms) zero up h e = rw e (none_noted t ts bs ms (not_later t ts up))
noted_unread (t ∷ ts) (b ∷ bs) (m ∷ ms) (suc k) up h e = by b (noted_unread ts bs ms k (ascending_rest t ts up) (omega arith) e)
  where
    by : (b : Bool) → noted (notes_from ts bs ms) (slice_index ts k) ≡ None → noted (notes_from (t ∷ ts) (b ∷ bs) (m ∷ ms)) (slice_index ts k) ≡ None
    by false rest = rest
    by true rest = let apart = ne_eqb t (slice_index ts k) (later_apart t ts k up (omega arith)) in rw apart rest

pub noted_read : (ts : List ℕ) (marks : List Bool) (values : List Measure) (k : ℕ) → IsAscending ts → k < length ts → k < length values
    → slice_index_or marks k false ≡ true
    → noted (notes_from ts marks values) (slice_index ts k) ≡ Some (slice_index_or values k Top)
noted_read [] marks values k up h i e = absurd (omega arith)
noted_read (t ∷ ts) [] values k up h i e = absurd (true≢false (sym e))
noted_read (t ∷ ts) (b ∷ bs) [] k up h i e = absurd (omega arith)
noted_read (t ∷ ts) (b ∷ bs) (m ∷ ms) zero up h i e = let same = same_eqb t t refl in rw (e, same) refl
noted_read (t ∷ ts) (b ∷ bs) (m ∷ ms) (suc k) up h i e = by b (noted_read ts bs ms k (ascending_rest t ts up) (omega arith) (omega arith) e)
  where
    by : (b : Bool) → noted (notes_from ts bs ms) (slice_index ts k) ≡ Some (slice_index_or ms k Top)
        → noted (notes_from (t ∷ ts) (b ∷ bs) (m ∷ ms)) (slice_index ts k) ≡ Some (slice_index_or ms k Top)
    by false rest = rest
    by true rest = let apart = ne_eqb t (slice_index ts k) (later_apart t ts k up (omega arith)) in rw apart rest

-- nothing is noted where nothing is read
pub nothing_noted : (ts : List ℕ) (marks : List Bool) (values : List Measure) → ((k : ℕ) → k < length ts → slice_index_or marks k false ≡ false)
    → notes_from ts marks values ≡ []
nothing_noted [] marks values lack = refl
nothing_noted (t ∷ ts) [] values lack = refl
nothing_noted (t ∷ ts) (b ∷ bs) [] lack = refl
nothing_noted (t ∷ ts) (b ∷ bs) (m ∷ ms) lack = let e : b ≡ false = lack 0 (omega arith) in rw e (nothing_noted ts bs ms (λ k h. lack (suc k) (omega arith)))

-- ---- one more note

note_first : (x : Note) (ts : List ℕ) (marks : List Bool) (values : List Measure) → ((t : ℕ) → Contains ts t → x.vertex < t)
    → with_note x (notes_from ts marks values) ≡ x ∷ notes_from ts marks values
note_first x [] marks values low = refl
note_first x (t ∷ ts) [] values low = refl
note_first x (t ∷ ts) (b ∷ bs) [] low = refl
note_first x (t ∷ ts) (false ∷ bs) (m ∷ ms) low = note_first x ts bs ms (λ s h. low s (contains_later t s ts h))
note_first x (t ∷ ts) (true ∷ bs) (m ∷ ms) low = let l = lt-ltb x.vertex t (low t (contains_first t ts)) in rw l refl

pub one_more_note : (ts : List ℕ) (marks : List Bool) (values : List Measure) (k : ℕ) (m : Measure) → IsAscending ts → k < length ts → k < length marks
    → k < length values
    → slice_index_or marks k false ≡ false → notes_from ts (slice_set marks k true) (slice_set values k m)
    ≡ with_note (record { vertex = slice_index ts k; value = m }) (notes_from ts marks values)
one_more_note [] marks values k m up h i j e = absurd (omega arith)
one_more_note (t ∷ ts) [] values k m up h i j e = absurd (omega arith)
one_more_note (t ∷ ts) (b ∷ bs) [] k m up h i j e = absurd (omega arith)
one_more_note (t ∷ ts) (b ∷ bs) (n ∷ ns) zero m up h i j e = rw e
    (sym (note_first (record { vertex = t; value = m }) ts bs ns (λ s c. ascending_above t ts s up c)))
one_more_note (t ∷ ts) (b ∷ bs) (n ∷ ns) (suc k) m up h i j e = by b
    (one_more_note ts bs ns k m (ascending_rest t ts up) (omega arith) (omega arith) (omega arith) e)
  where
    by : (b : Bool) → notes_from ts (slice_set bs k true) (slice_set ns k m) ≡ with_note (record { vertex = slice_index ts k; value = m }) (notes_from ts bs ns)
        → notes_from (t ∷ ts) (b ∷ slice_set bs k true) (n ∷ slice_set ns k m)
        ≡ with_note (record { vertex = slice_index ts k; value = m }) (notes_from (t ∷ ts) (b ∷ bs) (n ∷ ns))
    by false rest = rest
    by true rest =
        let above = ascending_above t ts (slice_index ts k) up (contains_at ts k (omega arith)) in
        let low = le-ltb (slice_index ts k) t (omega (arith, above)) in
        rw low (ap (λ (xs : List Note). record { vertex = t; value = n } ∷ xs) rest)

-- ---- all is read

pub zip_noted_from : (notes : List Note) (ts : List ℕ) (values : List Measure) → length ts ≤ length values
    → ((k : ℕ) → k < length ts → noted notes (slice_index ts k) ≡ Some (slice_index_or values k Top))
    → AllZip (λ t m. noted notes t ≡ Some m) ts (take (length ts) values)
zip_noted_from notes [] values h f = tt
zip_noted_from notes (t ∷ ts) [] h f = absurd (omega arith)
zip_noted_from notes (t ∷ ts) (m ∷ ms) h f = (f 0 (omega arith), zip_noted_from notes ts ms (omega arith) (λ k l. f (suc k) (omega arith)))

pub zip_noted_at : (notes : List Note) (ts : List ℕ) (values : List Measure) (k : ℕ) → AllZip (λ t m. noted notes t ≡ Some m) ts values → k < length ts
    → noted notes (slice_index ts k) ≡ None → ⊥
zip_noted_at notes [] values k h l e = absurd (omega arith)
zip_noted_at notes (t ∷ ts) [] k h l e = absurd h
zip_noted_at notes (t ∷ ts) (m ∷ ms) zero h l e = none-some m (sym e ∙ h.0)
zip_noted_at notes (t ∷ ts) (m ∷ ms) (suc k) h l e = zip_noted_at notes ts ms k h.1 (omega arith) e

-- ---- the seat of a worker

pub worker_holding : (s : CoreWorker) → s.holding ≡ true → worker_of s ≡ Holding s.turn.vertex (notes_of s.turn)
worker_holding s h = ap (λ (b : Bool). if b then Holding s.turn.vertex (notes_of s.turn) else owing (members s.owed)) h

pub worker_free : (s : CoreWorker) → s.holding ≡ false → worker_of s ≡ owing (members s.owed)
worker_free s h = ap (λ (b : Bool). if b then Holding s.turn.vertex (notes_of s.turn) else owing (members s.owed)) h

module _ (g : Game) (s : CoreWorker) (is : IsSeat g s) where
  ascend : IsAscending (successors_read s.turn)
  ascend = successors_ascend s.turn.game s.turn.vertex is.turn.game

  pub here : (x : Vertex) → vertex g s.turn.vertex ≡ Some x → successors_read s.turn ≡ x.successors
  here x e = ap (λ (h : Game). successors_at (vertex h s.turn.vertex)) is.game ∙ ap successors_at e

  pub coded : (u : ℕ) (ts : List ℕ) → u ≡ s.turn.vertex → option_map (λ (x : Vertex). x.successors) (vertex g u) ≡ Some ts → successors_read s.turn ≡ ts
  coded u ts e at = ap (λ (h : Game). successors_at (vertex h s.turn.vertex)) is.game
      ∙ (ap (λ (u : ℕ). successors_at (vertex g u)) (sym e) ∙ successors_are (vertex g u) ts at)

  pub long : s.holding ≡ true → length (successors_read s.turn) ≤ length s.turn.marks
  long h = is.turn.room s.turn.vertex (subst (λ (g : Game). s.turn.vertex < length g.vertices) (sym is.game) (is.vertex h))

  -- it has read what it noted
  noted_then : (place : ℕ) → s.holding ≡ true → place < length (successors_read s.turn) → IsReadAt s.turn place
      → noted (notes_of s.turn) (slice_index (successors_read s.turn) place) ≡ Some (slice_index_or s.turn.values place Top)
  noted_then place h l read = let k = long h in let q = is.turn.even
      in noted_read (successors_read s.turn) s.turn.marks s.turn.values place ascend l (omega arith) read

  -- a worker that has read v can't read it
  pub read_no_more : (v place : ℕ) → s.holding ≡ true → place < length (successors_read s.turn) → slice_index (successors_read s.turn) place ≡ v
      → IsReadAt s.turn place → CanRead g (worker_of s) v → ⊥
  read_no_more v place h l e read c =
      let same = holds_same s.turn.vertex c.u (notes_of s.turn) c.notes (sym (worker_holding s h) ∙ c.holds) in
      none-some (slice_index_or s.turn.values place Top) (sym c.unread
      ∙ (ap (λ (ns : List Note). noted ns v) (sym same.1) ∙ (ap (noted (notes_of s.turn)) (sym e) ∙ noted_then place h l read)))

  pub zip_read : s.holding ≡ true → AreRead s.turn (length (successors_read s.turn))
      → AllZip (λ t m. noted (notes_of s.turn) t ≡ Some m) (successors_read s.turn) (values_of s.turn)
  zip_read h all =
      let k = long h in let q = is.turn.even in
      zip_noted_from (notes_of s.turn) (successors_read s.turn) s.turn.values (omega arith) (λ k l. noted_then k h l (all k l))

  pub whole_raises : s.holding ≡ true → AreRead s.turn (length (successors_read s.turn)) → CanRaise g (worker_of s)
  whole_raises h all =
      let x = vertex_here g s.turn.vertex (is.vertex h) in
      record {
        u = s.turn.vertex;
        notes = notes_of s.turn;
        x = x.0;
        values = values_of s.turn;
        holds = worker_holding s h;
        held = x.1;
        read = subst (λ (ts : List ℕ). AllZip (λ t m. noted (notes_of s.turn) t ≡ Some m) ts (values_of s.turn)) (here x.0 x.1) (zip_read h all);
      }

  pub unread_waits : (place : ℕ) → s.holding ≡ true → place < length (successors_read s.turn) → slice_index_or s.turn.marks place false ≡ false
      → CanRaise g (worker_of s) → ⊥
  unread_waits place h l e c =
      let same = holds_same s.turn.vertex c.u (notes_of s.turn) c.notes (sym (worker_holding s h) ∙ c.holds) in
      let at = here c.x (ap (vertex g) same.0 ∙ c.held) in
      let read = subst (λ (ts : List ℕ). AllZip (λ t m. noted c.notes t ≡ Some m) ts c.values) (sym at) c.read in
      let read' = subst (λ (ns : List Note). AllZip (λ t m. noted ns t ≡ Some m) (successors_read s.turn) c.values) (sym same.1) read in
      zip_noted_at (notes_of s.turn) (successors_read s.turn) c.values place read' l
      (noted_unread (successors_read s.turn) s.turn.marks s.turn.values place ascend l e)

  -- what is unread can be read
  pub unread_reads : (v place : ℕ) → IsUnread s v place → CanRead g (worker_of s) v
  unread_reads v place r =
      let x = vertex_here g s.turn.vertex (is.vertex r.holding) in
      record {
        u = s.turn.vertex;
        notes = notes_of s.turn;
        x = x.0;
        holds = worker_holding s r.holding;
        held = x.1;
        successor = subst (λ (ts : List ℕ). Contains ts v) (here x.0 x.1)
            (subst (Contains (successors_read s.turn)) r.here (contains_at (successors_read s.turn) place r.inside));
        unread = ap (noted (notes_of s.turn)) (sym r.here) ∙ noted_unread (successors_read s.turn) s.turn.marks s.turn.values place ascend r.inside r.unread;
      }

  pub note_one : (v place : ℕ) (m : Measure) → IsUnread s v place
      → notes_from (successors_read s.turn) (slice_set s.turn.marks place true) (slice_set s.turn.values place m)
      ≡ with_note (record { vertex = v; value = m }) (notes_of s.turn)
  note_one v place m r =
      let l = r.inside in let k = long r.holding in let q = is.turn.even in
      one_more_note (successors_read s.turn) s.turn.marks s.turn.values place m ascend l (omega arith) (omega arith) r.unread
      ∙ ap (λ (n : ℕ). with_note (record { vertex = n; value = m }) (notes_of s.turn)) r.here

-- what a free worker owes is marked
pub owes_marked : (s : CoreWorker) (v : ℕ) → s.holding ≡ false → IsMarked s.owed v → Owes (worker_of s) v
owes_marked s v h e =
    let among = marked_member s.owed v e in
    record { owed = members s.owed; owes = worker_free s h ∙ owing_has (members s.owed) v among; among = among }

pub marked_owes : (s : CoreWorker) (v : ℕ) → Owes (worker_of s) v → (s.holding ≡ false) × IsMarked s.owed v
marked_owes s v o = elim (cases_Bool s.holding) [
  | inl h ↦ absurd (holds_owes s.turn.vertex (notes_of s.turn) o.owed (sym (worker_holding s h) ∙ o.owes))
  | inr h ↦ (h, member_marked s.owed v (by (members s.owed) (sym (worker_free s h) ∙ o.owes)))
]
  where
    by : (xs : List ℕ) → owing xs ≡ Owing o.owed → Contains xs v
    by [] e = absurd (idle_owes o.owed e)
    by (x ∷ xs) e = subst (λ (ys : List ℕ). Contains ys v) (sym (owes_same (x ∷ xs) o.owed e)) o.among
