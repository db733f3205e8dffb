use Rattle.std.proofs.Common.{◌<◌, ◌∙◌, ap, refl, length, Bool, List, true, slice_set, true≢false, sym, subst, ℕ, arith}
use Rattle.std.proofs.lemmas.List.{length-set}
use Rattle.std.proofs.lemmas.Option.{slice_get_within}
use Rattle.liftcore.specs.Seats.{HasSeat, worker_of}
use Rattle.liftcore.specs.Work.{Owes}
use Rattle.liftcore.specs.declared.seat.CoreWorker.{CoreWorker}
use Rattle.liftcore.proofs.Seated.{marked_owes, worker_free}
use Rattle.liftcore.proofs.Stated.{at_index, marked_inside, pay_keeps, push_step, seats_kept, skip_push}
use Rattle.liftcore.proofs.state.CoreParts.push.Goals as goal

pub returns-then-not-owes-clause-step : goal.returns-then-not-owes-clause-step
returns-then-not-owes-clause-step c = skip_push c.args.self.now c.args.worker c.args.vertex (λ h. true≢false (sym (c.owes.ensures.1 h) ∙ c.if-not-owes.true))

pub index_mut-requires : goal.index_mut-requires
index_mut-requires c =
    let has : HasSeat c.args.self.now c.args.worker (λ x. Owes (worker_of x) c.args.vertex) = c.owes.ensures.0 c.if-not-owes.false in
    let l = slice_get_within c.args.self.now.seats.items c.args.worker has.seat has.here in
    omega (arith, l)

pub remove-requires : goal.remove-requires
remove-requires c =
    let there = at_index c.args.self.now c.args.worker (λ x. Owes (worker_of x) c.args.vertex) c.index_mut.result.now
    (c.owes.ensures.0 c.if-not-owes.false) c.index_mut.ensures.value in
    marked_inside c.index_mut.result.now.owed c.args.vertex (marked_owes c.index_mut.result.now c.args.vertex there.1).1

pub insert-requires : goal.insert-requires
insert-requires c =
    let there = at_index c.args.self.now c.args.worker (λ x. Owes (worker_of x) c.args.vertex) c.index_mut.result.now
    (c.owes.ensures.0 c.if-not-owes.false) c.index_mut.ensures.value in
    let is = c.requires.seats c.args.worker c.index_mut.result.now there.0 in
    subst (λ (n : ℕ). c.args.vertex < n) (is.long ∙ sym c.requires.pending)
    (marked_inside c.index_mut.result.now.owed c.args.vertex (marked_owes c.index_mut.result.now c.args.vertex there.1).1)

pub returns-clause-state : goal.returns-clause-state
returns-clause-state c =
    let s = c.args.self.now in
    let r = c.index_mut.result.now in
    let new : CoreWorker = record { holding = r.holding; turn = r.turn; owed = c.remove.new.self } in
    let there = at_index s c.args.worker (λ x. Owes (worker_of x) c.args.vertex) r (c.owes.ensures.0 c.if-not-owes.false) c.index_mut.ensures.value in
    let is = c.requires.seats c.args.worker r there.0 in
    record {
      game = c.requires.game;
      edges = c.requires.edges;
      pending = ap (λ (bs : List Bool). length bs) c.insert.ensures ∙ (length-set s.pending c.args.vertex true ∙ c.requires.pending);
      seats = seats_kept c.args.game.now s.seats.items (slice_set s.seats.items c.args.worker new) c.args.worker r new c.requires.seats there.0
          (pay_keeps c.args.game.now r c.remove.new.self c.args.vertex is (marked_owes r c.args.vertex there.1).0 c.remove.ensures) refl;
    }

pub returns-clause-step : goal.returns-clause-step
returns-clause-step c =
    let s = c.args.self.now in
    let r = c.index_mut.result.now in
    let new : CoreWorker = record { holding = r.holding; turn = r.turn; owed = c.remove.new.self } in
    let there = at_index s c.args.worker (λ x. Owes (worker_of x) c.args.vertex) r (c.owes.ensures.0 c.if-not-owes.false) c.index_mut.ensures.value in
    let is = c.requires.seats c.args.worker r there.0 in
    let owes = marked_owes r c.args.vertex there.1 in
    push_step s c.args.worker r new (slice_set s.seats.items c.args.worker new) there.0 refl c.args.vertex c.insert.new.self c.remove.new.self there.1
    (subst (λ (n : ℕ). c.args.vertex < n) (is.long ∙ sym c.requires.pending) (marked_inside r.owed c.args.vertex owes.1)) c.insert.ensures c.remove.ensures
    (worker_free new owes.0)
