use Rattle.std.proofs.Common.{◌∙◌, ap, refl, slice_set}
use Rattle.liftcore.specs.Core.{Holding, with_note}
use Rattle.liftcore.specs.Seats.{notes_of}
use Rattle.liftcore.specs.Work.{IsUnread}
use Rattle.measures.specs.Measure.{Measure}
use Rattle.liftcore.proofs.Stated.{at_index, read_step, seats_kept, skip_read}
use Rattle.liftcore.proofs.state.CoreParts.read.Goals as goal

pub returns-in_default-clause-step : goal.returns-in_default-clause-step
returns-in_default-clause-step c = skip_read c.args.self.now c.args.worker c.args.game.now c.args.vertex c.requires.game c.in_default.ensures

pub returns-clause-state : goal.returns-clause-state
returns-clause-state c =
    let s = c.args.self.now in
    let there = at_index s c.args.worker (λ x. IsUnread x c.args.vertex c.in-Some.place) c.index_mut.result.now c.in-Some.ensures c.index_mut.ensures.value in
    record {
      game = c.requires.game;
      edges = c.requires.edges;
      pending = c.requires.pending;
      seats = seats_kept c.args.game.now s.seats.items
          (slice_set s.seats.items c.args.worker c.note.new.self) c.args.worker c.index_mut.result.now c.note.new.self c.requires.seats there.0
          c.note.ensures.seat refl;
    }

pub returns-clause-step : goal.returns-clause-step
returns-clause-step c =
    let s = c.args.self.now in
    let r = c.index_mut.result.now in
    let there = at_index s c.args.worker (λ x. IsUnread x c.args.vertex c.in-Some.place) r c.in-Some.ensures c.index_mut.ensures.value in
    let is = c.requires.seats c.args.worker r there.0 in
    read_step s c.args.worker r c.note.new.self
    (slice_set s.seats.items c.args.worker c.note.new.self) there.0 refl c.args.game.now c.args.vertex c.in-Some.place is c.requires.game there.1
    (c.note.ensures.notes ∙ ap (λ (m : Measure). Holding r.turn.vertex
    (with_note (record { vertex = c.args.vertex; value = m }) (notes_of r.turn))) c.value.ensures.value)
