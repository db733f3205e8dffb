use Rattle.std.proofs.Common.{◌≡◌, ◌<◌, ◌∙◌, ℕ, ap, arith, refl, length, List, slice_set, subst, sym, false, true≢false}
use Rattle.std.specs.List.{AllByRecursion}
use Rattle.std.specs.Ordering.{is_lt}
use Rattle.std.proofs.lemmas.Bool.{false_from_ne_true}
use Rattle.std.proofs.lemmas.Option.{slice_get_within}
use Rattle.game.specs.Game.{Game}
use Rattle.game.specs.Predecessors.{predecessors}
use Rattle.measures.specs.Measure.{Measure, measure_cmp}
use Rattle.measures.specs.Progress.{greater_of, value_at}
use Rattle.liftcore.specs.Seats.{HasSeat, worker_of}
use Rattle.liftcore.specs.Work.{AreOwed, CanRaise}
use Rattle.liftcore.specs.declared.seat.CoreWorker.{CoreWorker}
use Rattle.liftcore.proofs.Stated.{at_index, owing_predecessors, raises_whole, read_idle, release_keeps, rise_step, seats_kept, skip_raise, stay_step}
use Rattle.liftcore.proofs.state.CoreParts.raise.Goals as goal

pub returns-then-not-is_whole-clause-step : goal.returns-then-not-is_whole-clause-step
returns-then-not-is_whole-clause-step c =
    skip_raise c.args.self.now c.args.worker c.args.game.now c.requires.game (λ h. true≢false (sym (c.is_whole.ensures.1 h) ∙ c.if-not-is_whole.true))

pub index_mut-seat-requires : goal.index_mut-seat-requires
index_mut-seat-requires c =
    let has : HasSeat c.args.self.now c.args.worker (λ x. CanRaise c.args.game.now (worker_of x)) = c.is_whole.ensures.0 c.if-not-is_whole.false in
    let l = slice_get_within c.args.self.now.seats.items c.args.worker has.seat has.here in
    omega (arith, l)

pub lifted-lifted-requires-clause-same : goal.lifted-lifted-requires-clause-same
lifted-lifted-requires-clause-same c =
    let there = at_index c.args.self.now c.args.worker (λ x. CanRaise c.args.game.now (worker_of x)) c.index_mut-seat.result.now
    (c.is_whole.ensures.0 c.if-not-is_whole.false) c.index_mut-seat.ensures.value in
    (c.requires.seats c.args.worker c.index_mut-seat.result.now there.0).game

pub lifted-lifted-requires-clause-vertex : goal.lifted-lifted-requires-clause-vertex
lifted-lifted-requires-clause-vertex c =
    let there = at_index c.args.self.now c.args.worker (λ x. CanRaise c.args.game.now (worker_of x)) c.index_mut-seat.result.now
    (c.is_whole.ensures.0 c.if-not-is_whole.false) c.index_mut-seat.ensures.value in
    let is = c.requires.seats c.args.worker c.index_mut-seat.result.now there.0 in
    is.vertex (raises_whole c.args.game.now c.index_mut-seat.result.now is there.1).0

pub lifted-lifted-requires-clause-whole : goal.lifted-lifted-requires-clause-whole
lifted-lifted-requires-clause-whole c =
    let there = at_index c.args.self.now c.args.worker (λ x. CanRaise c.args.game.now (worker_of x)) c.index_mut-seat.result.now
    (c.is_whole.ensures.0 c.if-not-is_whole.false) c.index_mut-seat.ensures.value in
    (raises_whole c.args.game.now c.index_mut-seat.result.now (c.requires.seats c.args.worker c.index_mut-seat.result.now there.0) there.1).1

pub value-requires : goal.value-requires
value-requires c =
    let there = at_index c.args.self.now c.args.worker (λ x. CanRaise c.args.game.now (worker_of x)) c.index_mut-seat.result.now
    (c.is_whole.ensures.0 c.if-not-is_whole.false) c.index_mut-seat.ensures.value in
    let is = c.requires.seats c.args.worker c.index_mut-seat.result.now there.0 in
    subst (λ (g : Game). c.vertex-vertex.result < length g.vertices) (sym c.requires.game)
    (subst (λ (u : ℕ). u < length c.args.game.now.vertices) (sym c.vertex-vertex.ensures)
    (is.vertex (raises_whole c.args.game.now c.index_mut-seat.result.now is there.1).0))

pub owe-requires-clause-seat : goal.owe-requires-clause-seat
owe-requires-clause-seat c =
    let there = at_index c.args.self.now c.args.worker (λ x. CanRaise c.args.game.now (worker_of x)) c.index_mut-seat.result.now
    (c.is_whole.ensures.0 c.if-not-is_whole.false) c.index_mut-seat.ensures.value in
    release_keeps c.args.game.now c.index_mut-seat.result.now (c.requires.seats c.args.worker c.index_mut-seat.result.now there.0)

pub owe-requires-clause-none : goal.owe-requires-clause-none
owe-requires-clause-none c =
    let there = at_index c.args.self.now c.args.worker (λ x. CanRaise c.args.game.now (worker_of x)) c.index_mut-seat.result.now
    (c.is_whole.ensures.0 c.if-not-is_whole.false) c.index_mut-seat.ensures.value in
    let is = c.requires.seats c.args.worker c.index_mut-seat.result.now there.0 in
    is.free (raises_whole c.args.game.now c.index_mut-seat.result.now is there.1).0

pub owe-requires-clause-within : goal.owe-requires-clause-within
owe-requires-clause-within c =
    subst (λ (g : Game). AllByRecursion (λ t. t < length g.vertices) c.get.result.now) c.requires.edges c.get.ensures.vertices

pub returns-then-is_below-clause-state : goal.returns-then-is_below-clause-state
returns-then-is_below-clause-state c =
    let s = c.args.self.now in
    let r = c.index_mut-seat.result.now in
    let there = at_index s c.args.worker (λ x. CanRaise c.args.game.now (worker_of x)) r
    (c.is_whole.ensures.0 c.if-not-is_whole.false) c.index_mut-seat.ensures.value in
    record {
      game = c.raise.ensures.game ∙ c.requires.game;
      edges = c.requires.edges;
      pending = c.requires.pending;
      seats = seats_kept c.args.game.now s.seats.items
          (slice_set s.seats.items c.args.worker c.owe.new.self) c.args.worker r c.owe.new.self c.requires.seats there.0 c.owe.ensures.seat refl;
    }

pub returns-then-is_below-clause-step : goal.returns-then-is_below-clause-step
returns-then-is_below-clause-step c =
    let s = c.args.self.now in
    let g = c.args.game.now in
    let r = c.index_mut-seat.result.now in
    let d = c.lifted-lifted.result in
    let new = c.owe.new.self in
    let there = at_index s c.args.worker (λ x. CanRaise g (worker_of x)) r (c.is_whole.ensures.0 c.if-not-is_whole.false) c.index_mut-seat.ensures.value in
    let is = c.requires.seats c.args.worker r there.0 in
    let own = c.value.ensures.value ∙ ap (value_at s.table.values) c.vertex-vertex.ensures in
    let high = ap (λ (m : Measure). is_lt (measure_cmp m d)) (sym own) ∙ c.is_below.ensures.0 c.if-is_below.true in
    let raised = subst (λ (u : ℕ). c.raise.new.self.values ≡ slice_set s.table.values u
    (greater_of (value_at s.table.values u) d)) c.vertex-vertex.ensures c.raise.ensures.values in
    let preds = c.get.ensures.are ∙ (ap (λ (h : Game). predecessors h c.vertex-vertex.result) c.requires.edges ∙ ap (predecessors g) c.vertex-vertex.ensures) in
    let owed = subst (λ (ts : List ℕ). AreOwed ts new.owed) preds c.owe.ensures.owed in
    rise_step s c.args.worker r new
    (slice_set s.seats.items c.args.worker new) there.0 refl g is c.requires.game d there.1 c.lifted-lifted.ensures.value c.raise.new.self high
    c.raise.ensures.game raised
    (owing_predecessors g r.turn.vertex new c.owe.ensures.seat c.owe.ensures.holding owed)

pub returns-else-is_below-clause-state : goal.returns-else-is_below-clause-state
returns-else-is_below-clause-state c =
    let s = c.args.self.now in
    let r = c.index_mut-seat.result.now in
    let new : CoreWorker = record { holding = false; turn = r.turn; owed = r.owed } in
    let there = at_index s c.args.worker (λ x. CanRaise c.args.game.now (worker_of x)) r
    (c.is_whole.ensures.0 c.if-not-is_whole.false) c.index_mut-seat.ensures.value in
    record {
      game = c.requires.game;
      edges = c.requires.edges;
      pending = c.requires.pending;
      seats = seats_kept c.args.game.now s.seats.items (slice_set s.seats.items c.args.worker new) c.args.worker r new c.requires.seats there.0
          (release_keeps c.args.game.now r (c.requires.seats c.args.worker r there.0)) refl;
    }

pub returns-else-is_below-clause-step : goal.returns-else-is_below-clause-step
returns-else-is_below-clause-step c =
    let s = c.args.self.now in
    let g = c.args.game.now in
    let r = c.index_mut-seat.result.now in
    let d = c.lifted-lifted.result in
    let new : CoreWorker = record { holding = false; turn = r.turn; owed = r.owed } in
    let there = at_index s c.args.worker (λ x. CanRaise g (worker_of x)) r (c.is_whole.ensures.0 c.if-not-is_whole.false) c.index_mut-seat.ensures.value in
    let is = c.requires.seats c.args.worker r there.0 in
    let own = c.value.ensures.value ∙ ap (value_at s.table.values) c.vertex-vertex.ensures in
    let low = false_from_ne_true (is_lt (measure_cmp c.value.result d)) (λ t. true≢false (sym (c.is_below.ensures.1 t) ∙ c.if-is_below.false)) in
    stay_step s c.args.worker r new (slice_set s.seats.items c.args.worker new) there.0 refl g is c.requires.game d there.1 c.lifted-lifted.ensures.value
    (ap (λ (m : Measure). is_lt (measure_cmp m d)) (sym own) ∙ low) (read_idle new refl (is.free (raises_whole g r is there.1).0))
