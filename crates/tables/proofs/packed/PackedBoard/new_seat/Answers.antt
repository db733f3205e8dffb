use Rattle.std.proofs.Common.{◌≡◌, [], ap, arith, length, subst, ◌∙◌}
use Rattle.std.specs.Arc.{arc_value}
use Rattle.game.specs.Game.{Game, IsGame}
use Rattle.measures.specs.Progress.{opening}
use Rattle.measures.proofs.Plain.{opening_plain}
use Rattle.tables.specs.declared.packed.View.{View}
use Rattle.tables.proofs.Packing.{enters}
use Rattle.tables.proofs.packed.PackedBoard.new_seat.Goals as goal

pub load_new_seat-seat-requires : goal.load_new_seat-seat-requires
load_new_seat-seat-requires c =
    let board = c.args.self.now in
    let shared = board.table.shared in
    let some : c.vertices.result ≡ length (arc_value board.game).vertices = c.vertices.ensures ∙ ap (λ (g : Game). length g.vertices) c.deref-2.ensures in
    let sized = board.sized in
    let none = c.if-vertices-eq0.false in (
      omega (arith, some, sized, none),
      enters shared.key shared.table_id.slots 0,
    )

pub returns-clause-seat : goal.returns-clause-seat
returns-clause-seat c =
    let board = c.args.self.now in
    let g = arc_value board.game in
    let me = c.load_new_seat-seat.result.1.me.0 in
    let entered : me ≡ record { of = board.table.shared.key; seen = opening board.table.shared.key; done = [] } = c.load_new_seat-seat.ensures.2 in
    let game : IsGame g = subst IsGame c.deref.ensures c.known.ensures in
    let values : me.seen ≡ opening g = ap (λ (w : View). w.seen) entered ∙ ap opening board.keyed in record {
      table = c.load_new_seat-seat.ensures.0;
      game = ap (λ (w : View). w.of) entered ∙ board.keyed;
      plain = opening_plain g me.seen game values;
    }
