use Rattle.std.proofs.Common.{◌≡◌, ◌∙◌, ap, refl, length, Bool, List, slice_set, false, sym, true≢false}
use Rattle.std.proofs.lemmas.List.{length-set}
use Rattle.liftcore.specs.Core.{Idle}
use Rattle.liftcore.specs.Seats.{worker_of}
use Rattle.liftcore.proofs.Stated.{at_index, seats_kept, skip_take, take_step}
use Rattle.liftcore.proofs.state.CoreParts.take.Goals as goal
use Rattle.liftcore.proofs.state.CoreParts.take.Goals.{then-not-has-via-then-not-has, then-not-has-via-else-not-has+then-not-is_idle}

pub returns-clause-step : goal.returns-clause-step
returns-clause-step c =
    let s = c.args.self.now in
    let there = at_index s c.args.worker (λ x. worker_of x ≡ Idle) c.index_mut.result.now
    (c.is_idle.ensures.0 c.if-not-is_idle.false) c.index_mut.ensures.value in
    take_step s c.args.worker c.index_mut.result.now c.take.new.self
    (slice_set s.seats.items c.args.worker c.take.new.self) there.0 refl c.args.vertex c.remove.new.self there.1
    (c.has.ensures.0 c.if-not-has.false) c.remove.ensures c.take.ensures.holds

pub returns-clause-state : goal.returns-clause-state
returns-clause-state c =
    let s = c.args.self.now in
    let there = at_index s c.args.worker (λ x. worker_of x ≡ Idle) c.index_mut.result.now
    (c.is_idle.ensures.0 c.if-not-is_idle.false) c.index_mut.ensures.value in
    record {
      game = c.requires.game;
      edges = c.requires.edges;
      pending = ap (λ (bs : List Bool). length bs) c.remove.ensures ∙ (length-set s.pending c.args.vertex false ∙ c.requires.pending);
      seats = seats_kept c.args.game.now s.seats.items
          (slice_set s.seats.items c.args.worker c.take.new.self) c.args.worker c.index_mut.result.now c.take.new.self c.requires.seats there.0
          c.take.ensures.seat refl;
    }

pub returns-then-not-has-clause-step : goal.returns-then-not-has-clause-step
returns-then-not-has-clause-step c = skip_take c.args.self.now c.args.worker c.args.vertex (λ m h. elim c.then-not-has.branch [
  | then-not-has-via-then-not-has w ↦ true≢false (sym (c.has.ensures.1 m) ∙ w.if-not-has.true)
  | then-not-has-via-else-not-has+then-not-is_idle w ↦ true≢false (sym (w.is_idle.ensures.1 h) ∙ w.if-not-is_idle.true)
])
