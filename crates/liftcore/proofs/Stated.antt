-- The state after an event.
use Rattle.std.proofs.Common.{◌≡◌, ℕ, zero, suc, ◌+◌, ◌<◌, Bool, true, false, ◌⊎◌, List, [], ◌∷◌, ◌++◌, length, map, replicate, refl, sym, ◌∙◌}
use Rattle.std.proofs.Common.{ap, ap₂, subst, inl, inr, true≢false, Some, option_map, slice_index_or, slice_set, get_or, if◌then◌else◌}
use Rattle.std.specs.Prelude.{◌==◌, slice_get, nat_lt}
use Rattle.std.specs.List.{AllZip, list_all, list_any}
use Rattle.std.specs.Ordering.{is_lt}
use Rattle.std.proofs.lemmas.Bool.{cases_Bool, cases_lt, false_from_ne_true, lt-ltb, ltb-true}
use Rattle.std.proofs.lemmas.List.{get_or_past, length-set}
use Rattle.std.proofs.lemmas.Option.{get_or_from_slice_get, none-some, same_Some, slice_get-get_or, slice_get-map, slice_get_read, slice_get_within}
use Rattle.game.specs.Game.{Game, vertex}
use Rattle.game.specs.Predecessors.{predecessors, successors_at}
use Rattle.measures.specs.Measure.{Measure, measure_cmp}
use Rattle.measures.specs.Progress.{IsLift, greater_of, value_at}
use Rattle.measures.specs.Progs.{IsDemandOf}
use Rattle.measures.specs.Tables.{GameTable}
use Rattle.measures.proofs.Measures.{at_most_itself, not_below}
use Rattle.liftcore.specs.Core.{Core, Holding, Idle, Note, Owing, Worker, is_idle, noted, owing, with_note, without}
use Rattle.liftcore.specs.Marks.{IsMarked, members}
use Rattle.liftcore.specs.Reading.{AreRead, successors_read, values_of}
use Rattle.liftcore.specs.Seats.{AreIdle, HasSeat, IsSeat, core_of, notes_of, worker_of}
use Rattle.liftcore.specs.declared.event.Event.TheVariants.{Push, Raise, Read, Take}
use Rattle.liftcore.specs.Step.{Pushes, LiftsHeld, ReadsVertex, Skips, TakesVertex, after_raise, value_in, with_value, with_worker}
use Rattle.liftcore.specs.Work.{AreOwed, CanRaise, CanRead, IsUnread, Owes}
use Rattle.liftcore.specs.declared.seat.CoreWorker.{CoreWorker}
use Rattle.liftcore.specs.declared.state.CoreParts.{CoreParts}
use Rattle.liftcore.proofs.Marked.{insert_members, marked_member, member_marked, owed_members, remove_members}
use Rattle.liftcore.proofs.Notes.{all_idle, holds_same, owing_has, owing_holds}
use Rattle.liftcore.proofs.Seated.{here, marked_owes, unread_reads, unread_waits, worker_free, worker_holding, zip_read}
use Rattle.liftcore.proofs.Sets.{get_back}

-- ---- the workers of seats

pub worker_there : (seats : List CoreWorker) (w : ℕ) (x : CoreWorker) → slice_get seats w ≡ Some x → slice_get (map worker_of seats) w ≡ Some (worker_of x)
worker_there seats w x e = slice_get-map worker_of seats w ∙ ap (option_map worker_of) e

pub seat_there : (seats : List CoreWorker) (w : ℕ) (y : Worker) → slice_get (map worker_of seats) w ≡ Some y → (x : CoreWorker) × (slice_get seats w ≡ Some x)
    × (worker_of x ≡ y)
seat_there [] w y e = absurd (none-some y e)
seat_there (x ∷ xs) zero y e = (x, refl, same_Some (worker_of x) y e)
seat_there (x ∷ xs) (suc w) y e = seat_there xs w y e

pub set_seat : (seats : List CoreWorker) (w : ℕ) (x : CoreWorker) → map worker_of (slice_set seats w x) ≡ slice_set (map worker_of seats) w (worker_of x)
set_seat [] w x = refl
set_seat (y ∷ ys) zero x = refl
set_seat (y ∷ ys) (suc w) x = ap (λ zs. worker_of y ∷ zs) (set_seat ys w x)

pub seats_kept : (g : Game) (seats items : List CoreWorker) (w : ℕ) (old x : CoreWorker) → ((k : ℕ) (y : CoreWorker) → slice_get seats k ≡ Some y → IsSeat g y)
    → slice_get seats w ≡ Some old → IsSeat g x
    → items ≡ slice_set seats w x → (k : ℕ) (y : CoreWorker) → slice_get items k ≡ Some y → IsSeat g y
seats_kept g seats items w old x all there is e k y at = elim (get_back seats w k x old y there (ap (λ (zs : List CoreWorker). slice_get zs k) (sym e) ∙ at)) [
  | inl q ↦ subst (IsSeat g) q is
  | inr q ↦ all k y q
]

pub marked_inside : (marks : List Bool) (v : ℕ) → IsMarked marks v → v < length marks
marked_inside marks v h = elim (cases_lt v (length marks)) [ inl l ↦ l | inr l ↦ absurd (true≢false (sym h ∙ get_or_past marks v false l)) ]

-- a worker that can raise has read all
pub raises_whole : (g : Game) (s : CoreWorker) → IsSeat g s → CanRaise g (worker_of s) → (s.holding ≡ true) × AreRead s.turn (length (successors_read s.turn))
raises_whole g s is c = elim (cases_Bool s.holding) [
  | inl h ↦ (h, λ k l. elim (cases_Bool (slice_index_or s.turn.marks k false)) [ inl e ↦ e | inr e ↦ absurd (unread_waits g s is k h l e c) ])
  | inr h ↦ absurd (owing_holds (members s.owed) c.u c.notes (sym (worker_free s h) ∙ c.holds))
]

-- ---- a raise

greater_same : (own d : Measure) (b : Bool) → is_lt (measure_cmp own d) ≡ b → is_lt (measure_cmp own (greater_of own d)) ≡ b
greater_same own d true e = ap (λ b. is_lt (measure_cmp own (if b then d else own))) e ∙ e
greater_same own d false e = ap (λ b. is_lt (measure_cmp own (if b then d else own))) e
    ∙ false_from_ne_true (is_lt (measure_cmp own own)) (λ b. not_below own own b (at_most_itself own))

stay_is : (c : Core) (w u : ℕ) (m : Measure) → is_lt (measure_cmp (value_in c u) m) ≡ false → after_raise c w u m ≡ with_worker c w Idle
stay_is c w u m e = ap (λ b. if b then with_worker (with_value c u m) w (owing (predecessors c.table.game u)) else with_worker c w Idle) e

rise_is : (c : Core) (w u : ℕ) (m : Measure) → is_lt (measure_cmp (value_in c u) m) ≡ true
    → after_raise c w u m ≡ with_worker (with_value c u m) w (owing (predecessors c.table.game u))
rise_is c w u m e = ap (λ b. if b then with_worker (with_value c u m) w (owing (predecessors c.table.game u)) else with_worker c w Idle) e

abbrev pub table : Game → List Measure → GameTable
table g vs = record { game = g; values = vs }

abbrev pub core : GameTable → List ℕ → List Worker → Core
core t ps ws = record { table = t; pending = ps; workers = ws }

module _ (s : CoreParts) (w : ℕ) (x new : CoreWorker) (items : List CoreWorker) (there : slice_get s.seats.items w ≡ Some x) (are : items ≡ slice_set s.seats.items w new) where
  workers_are : (y : Worker) → worker_of new ≡ y → map worker_of items ≡ slice_set (map worker_of s.seats.items) w y
  workers_are y e = ap (map worker_of) are ∙ (set_seat s.seats.items w new ∙ ap (slice_set (map worker_of s.seats.items) w) e)

  pub take_step : (v : ℕ) (pending : List Bool) → worker_of x ≡ Idle → IsMarked s.pending v → pending ≡ slice_set s.pending v false
      → worker_of new ≡ Holding v []
      → TakesVertex (core_of s) w v (core s.table (members pending) (map worker_of items))
  take_step v pending idle marked e holds = record {
    idle = worker_there s.seats.items w x there ∙ ap (λ (y : Worker). Some y) idle;
    pending = marked_member s.pending v marked;
    effect = ap₂ (core s.table) (ap members e ∙ remove_members s.pending v (marked_inside s.pending v marked)) (workers_are (Holding v []) holds);
  }

  pub push_step : (v : ℕ) (pending owed : List Bool) → Owes (worker_of x) v → v < length s.pending → pending ≡ slice_set s.pending v true
      → owed ≡ slice_set x.owed v false
      → worker_of new ≡ owing (members owed) → Pushes (core_of s) w v (core s.table (members pending) (map worker_of items))
  push_step v pending owed o inside e i now =
      let free = marked_owes x v o in
      let among = marked_member x.owed v free.1 in
      record {
        owed = members x.owed;
        owes = worker_there s.seats.items w x there ∙ ap (λ (y : Worker). Some y) (worker_free x free.0 ∙ owing_has (members x.owed) v among);
        among = among;
        effect = ap₂ (core s.table) (ap members e ∙ insert_members s.pending v inside)
            (workers_are (owing (without v (members x.owed))) (now ∙ ap owing (ap members i ∙ remove_members x.owed v (marked_inside x.owed v free.1))));
      }

  pub read_step : (g : Game) (v place : ℕ) → IsSeat g x → s.table.game ≡ g → IsUnread x v place
      → worker_of new ≡ Holding x.turn.vertex (with_note (record { vertex = v; value = value_at s.table.values v }) (notes_of x.turn))
      → ReadsVertex (core_of s) w v (core s.table (members s.pending) (map worker_of items))
  read_step g v place is same r now =
      let c = unread_reads g x is v place r in
      let q = holds_same x.turn.vertex c.u (notes_of x.turn) c.notes (sym (worker_holding x r.holding) ∙ c.holds) in
      record {
        u = c.u;
        notes = c.notes;
        x = c.x;
        holds = worker_there s.seats.items w x there ∙ ap (λ (y : Worker). Some y) c.holds;
        held = ap (λ (g : Game). vertex g c.u) same ∙ c.held;
        successor = c.successor;
        unread = c.unread;
        effect = ap (core s.table (members s.pending)) (workers_are (Holding c.u (with_note (record { vertex = v; value = value_at s.table.values v }) c.notes))
            (now ∙ ap₂ (λ (u : ℕ) (ns : List Note). Holding u (with_note (record { vertex = v; value = value_at s.table.values v }) ns)) q.0 q.1));
      }

  module _ (g : Game) (is : IsSeat g x) (same : s.table.game ≡ g) (d : Measure) (can : CanRaise g (worker_of x))
      (demand : IsDemandOf g x.turn.vertex (values_of x.turn) d) where
    raises_by : (c : Core) → c ≡ after_raise (core_of s) w x.turn.vertex (greater_of (value_at s.table.values x.turn.vertex) d) → LiftsHeld (core_of s) w c
    raises_by c e =
        let whole = raises_whole g x is can in
        record {
          u = x.turn.vertex;
          notes = notes_of x.turn;
          x = demand.0;
          values = values_of x.turn;
          lifted = greater_of (value_at s.table.values x.turn.vertex) d;
          holds = worker_there s.seats.items w x there ∙ ap (λ (y : Worker). Some y) (worker_holding x whole.0);
          held = ap (λ (g : Game). vertex g x.turn.vertex) same ∙ demand.1;
          read = subst (λ (ts : List ℕ). AllZip (λ t m. noted (notes_of x.turn) t ≡ Some m) ts (values_of x.turn)) (here g x is demand.0 demand.1)
              (zip_read g x is whole.0 whole.1);
          lift = subst (λ (g : Game). IsLift g demand.0 (value_at s.table.values x.turn.vertex) (values_of x.turn)
              (greater_of (value_at s.table.values x.turn.vertex) d)) (sym same)
              (demand.2.0, d, demand.2.1, demand.2.2, refl);
          effect = e;
        }

    pub stay_step : is_lt (measure_cmp (value_at s.table.values x.turn.vertex) d) ≡ false → worker_of new ≡ Idle
        → LiftsHeld (core_of s) w (core s.table (members s.pending) (map worker_of items))
    stay_step low now = raises_by (core s.table (members s.pending) (map worker_of items))
        (ap (core s.table (members s.pending)) (workers_are Idle now)
        ∙ sym (stay_is (core_of s) w x.turn.vertex (greater_of (value_at s.table.values x.turn.vertex) d)
        (greater_same (value_at s.table.values x.turn.vertex) d false low)))

    pub rise_step : (t : GameTable) → is_lt (measure_cmp (value_at s.table.values x.turn.vertex) d) ≡ true → t.game ≡ s.table.game
        → t.values ≡ slice_set s.table.values x.turn.vertex (greater_of (value_at s.table.values x.turn.vertex) d)
        → worker_of new ≡ owing (predecessors g x.turn.vertex)
        → LiftsHeld (core_of s) w (core t (members s.pending) (map worker_of items))
    rise_step t high kept raised now = raises_by (core t (members s.pending) (map worker_of items))
        (ap₂ (λ (t : GameTable) (ws : List Worker). core t (members s.pending) ws) (ap₂ (λ (g : Game) (vs : List Measure). table g vs) kept raised)
        (workers_are (owing (predecessors s.table.game x.turn.vertex)) (now ∙ ap (λ (g : Game). owing (predecessors g x.turn.vertex)) (sym same)))
        ∙ sym (rise_is (core_of s) w x.turn.vertex (greater_of (value_at s.table.values x.turn.vertex) d)
        (greater_same (value_at s.table.values x.turn.vertex) d true high)))

-- ---- what was looked up

pub got : (xs ys : List CoreWorker) (w : ℕ) (x : CoreWorker) → xs ≡ ys → true ≡ nat_lt w (length xs) → x ≡ get_or xs w x → slice_get ys w ≡ Some x
got xs ys w x e l i = ap (λ (zs : List CoreWorker). slice_get zs w) (sym e) ∙ slice_get_read xs (length xs) w x refl (ltb-true w (length xs) (sym l)) i

pub got_none : (xs ys : List CoreWorker) (w : ℕ) (x : CoreWorker) → xs ≡ ys → false ≡ nat_lt w (length xs) → slice_get ys w ≡ Some x → ⊥
got_none xs ys w x e l i =
    let h = slice_get_within xs w x (ap (λ (zs : List CoreWorker). slice_get zs w) e ∙ i) in
    true≢false (sym (lt-ltb w (length xs) h) ∙ sym l)

pub at_index : (s : CoreParts) (w : ℕ) (P : CoreWorker → Type 0) (r : CoreWorker) → HasSeat s w P → r ≡ get_or s.seats.items w r → (slice_get s.seats.items w ≡ Some r) × P r
at_index s w P r h e =
    let same : r ≡ h.seat = e ∙ get_or_from_slice_get s.seats.items w h.seat r h.here in
    (h.here ∙ ap (λ (x : CoreWorker). Some x) (sym same), subst P (sym same) h.is)

-- ---- what can't be done is skipped

module _ (s : CoreParts) (w : ℕ) where
  pub skip_take : (v : ℕ) → (IsMarked s.pending v → HasSeat s w (λ x. worker_of x ≡ Idle) → ⊥) → Skips (core_of s) (Take w v) (core_of s)
  skip_take v never = record {
    nothing = λ c d. (let x = seat_there s.seats.items w Idle d.idle
        in never (member_marked s.pending v d.pending) (record { seat = x.0; here = x.1; is = x.2 }));
    same = refl;
  }

  pub skip_read : (g : Game) (v : ℕ) → s.table.game ≡ g → (HasSeat s w (λ x. CanRead g (worker_of x) v) → ⊥) → Skips (core_of s) (Read w v) (core_of s)
  skip_read g v same never = record {
    nothing = λ c d. (let x = seat_there s.seats.items w (Holding d.u d.notes) d.holds in never (record {
      seat = x.0;
      here = x.1;
      is = record {
        u = d.u;
        notes = d.notes;
        x = d.x;
        holds = x.2;
        held = ap (λ (g : Game). vertex g d.u) (sym same) ∙ d.held;
        successor = d.successor;
        unread = d.unread;
      };
    }));
    same = refl;
  }

  pub skip_raise : (g : Game) → s.table.game ≡ g → (HasSeat s w (λ x. CanRaise g (worker_of x)) → ⊥) → Skips (core_of s) (Raise w) (core_of s)
  skip_raise g same never = record {
    nothing = λ c d. (let x = seat_there s.seats.items w (Holding d.u d.notes) d.holds in never (record {
      seat = x.0;
      here = x.1;
      is = record {
        u = d.u;
        notes = d.notes;
        x = d.x;
        values = d.values;
        holds = x.2;
        held = ap (λ (g : Game). vertex g d.u) (sym same) ∙ d.held;
        read = d.read;
      };
    }));
    same = refl;
  }

  pub skip_push : (v : ℕ) → (HasSeat s w (λ x. Owes (worker_of x) v) → ⊥) → Skips (core_of s) (Push w v) (core_of s)
  skip_push v never = record {
    nothing = λ c d. (let x = seat_there s.seats.items w (Owing d.owed) d.owes
        in never (record { seat = x.0; here = x.1; is = record { owed = d.owed; owes = x.2; among = d.among } }));
    same = refl;
  }

-- ---- the seat after a push

pub pay_keeps : (g : Game) (s : CoreWorker) (owed : List Bool) (v : ℕ) → IsSeat g s → s.holding ≡ false → owed ≡ slice_set s.owed v false
    → IsSeat g (record { holding = s.holding; turn = s.turn; owed = owed })
pay_keeps g s owed v is h e = record {
  turn = is.turn;
  game = is.game;
  vertex = is.vertex;
  long = ap length e ∙ length-set s.owed v false ∙ is.long;
  free = λ t. absurd (true≢false (sym t ∙ h));
}

-- ---- the seat after a raise

pub release_keeps : (g : Game) (s : CoreWorker) → IsSeat g s → IsSeat g (record { holding = false; turn = s.turn; owed = s.owed })
release_keeps g s is = record {
  turn = is.turn;
  game = is.game;
  vertex = λ t. absurd (true≢false (sym t));
  long = is.long;
  free = λ t. absurd (true≢false (sym t));
}

pub owing_predecessors : (g : Game) (v : ℕ) (s : CoreWorker) → IsSeat g s → s.holding ≡ false → AreOwed (predecessors g v) s.owed
    → worker_of s ≡ owing (predecessors g v)
unfolding predecessors
owing_predecessors g v s is h are = worker_free s h ∙ ap owing
    (owed_members (λ u. list_any (λ t. t == v) (successors_at (vertex g u))) (length g.vertices) s.owed is.long are)

pub read_idle : (s : CoreWorker) → s.holding ≡ false → members s.owed ≡ [] → worker_of s ≡ Idle
read_idle s h e = worker_free s h ∙ ap owing e

-- ---- at the start

last_idle : (seats : List CoreWorker) (n : ℕ) (x : CoreWorker) → map worker_of seats ≡ replicate n Idle → worker_of x ≡ Idle
    → map worker_of (seats ++ x ∷ []) ≡ replicate (suc n) Idle
last_idle seats n x e i = more seats ∙ (ap₂ (λ ys y. ys ++ y ∷ []) e i ∙ twice n)
  where
    more : (seats : List CoreWorker) → map worker_of (seats ++ x ∷ []) ≡ map worker_of seats ++ worker_of x ∷ []
    more [] = refl
    more (y ∷ ys) = ap (λ zs. worker_of y ∷ zs) (more ys)

    twice : (n : ℕ) → replicate n Idle ++ Idle ∷ [] ≡ replicate (suc n) Idle
    twice zero = refl
    twice (suc n) = ap (λ zs. Idle ∷ zs) (twice n)

last_there : (seats : List CoreWorker) (x : CoreWorker) (w : ℕ) (y : CoreWorker) → slice_get (seats ++ x ∷ []) w ≡ Some y → (slice_get seats w ≡ Some y) ⊎ (x ≡ y)
last_there [] x zero y e = inr (same_Some x y e)
last_there [] x (suc w) y e = absurd (none-some y e)
last_there (z ∷ zs) x zero y e = inl e
last_there (z ∷ zs) x (suc w) y e = last_there zs x w y e

pub one_more_idle : (g : Game) (n m : ℕ) (seats items : List CoreWorker) (x : CoreWorker) → AreIdle g n seats → IsSeat g x → worker_of x ≡ Idle → items ≡ seats ++ x ∷ []
    → m ≡ suc n → AreIdle g m items
one_more_idle g n m seats items x are is idle e k = record {
  each = λ w y at. elim (last_there seats x w y (ap (λ (zs : List CoreWorker). slice_get zs w) (sym e) ∙ at))
      [ inl h ↦ are.each w y h | inr q ↦ subst (IsSeat g) q is ];
  idle = ap (map worker_of) e ∙ (last_idle seats n x are.idle idle ∙ ap (λ (n : ℕ). replicate n Idle) (sym k));
}

-- ---- whether all is quiet

pub one_busy : (seats : List CoreWorker) (i : ℕ) (x : CoreWorker) → i < length seats → slice_index_or seats i x ≡ x → (worker_of x ≡ Idle → ⊥)
    → list_all is_idle (map worker_of seats) ≡ true → ⊥
one_busy seats i x h e busy all = busy (idle_is (worker_of x)
    (all_idle (map worker_of seats) i (worker_of x) all (worker_there seats i x (slice_get-get_or seats i x h ∙ ap (λ (s : CoreWorker). Some s) e))))
  where
    idle_is : (y : Worker) → is_idle y ≡ true → y ≡ Idle
    idle_is Idle q = refl
    idle_is (Holding u notes) q = absurd (true≢false (sym q))
    idle_is (Owing owed) q = absurd (true≢false (sym q))
