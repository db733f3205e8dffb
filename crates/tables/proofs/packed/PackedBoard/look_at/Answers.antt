use Rattle.std.proofs.Common.{◌<◌, [], ◌∷◌, ◌++◌, ap, length, subst, sym, ◌∙◌}
use Rattle.std.specs.Arc.{arc_value}
use Rattle.game.specs.Game.{Game}
use Rattle.measures.specs.Lifting.{of_rank}
use Rattle.measures.specs.Tables.{LiesBelow}
use Rattle.tables.specs.Packed.{IsWord}
use Rattle.tables.proofs.Packing.{looks, seen_more}
use Rattle.tables.specs.declared.access.Access.TheVariants.{Read}
use Rattle.tables.specs.declared.packed.View.{View}
use Rattle.tables.proofs.packed.PackedBoard.look_at.Goals as goal

pub load-requires : goal.load-requires
load-requires c =
    let board = c.args.self.now in
    let shared = board.table.shared in
    let me = c.args.seat.now.seat in (
      c.requires.seat.table,
      subst (λ n. c.args.v < n) (sym board.sized) c.requires.vertex,
      looks shared.key shared.table_id.slots me.id c.args.v me.me (c.requires.seat.game ∙ sym board.keyed)
          (subst (λ (g : Game). c.args.v < length g.vertices) (sym board.keyed) c.requires.vertex),
    )

pub returns-clause-seat : goal.returns-clause-seat
returns-clause-seat c =
    let g = arc_value c.args.self.now.game in
    let was = c.args.seat.now.seat.me.0 in
    let word : IsWord g c.args.v c.load.result = subst (λ (h : Game). IsWord h c.args.v c.load.result) c.requires.seat.game c.load.ensures.2.word in
    let more = seen_more g was c.load.new.seat.me.0 c.args.v (of_rank was.of c.load.result) (was.done ++ Read c.args.v (of_rank was.of c.load.result) ∷ []) c.requires.seat.game c.requires.seat.plain c.requires.vertex
    (subst (λ (h : Game). LiesBelow g c.args.v (of_rank h c.load.result)) (sym c.requires.seat.game) word.below) c.load.ensures.2.view in record {
      table = c.load.ensures.0 ∙ c.requires.seat.table;
      game = more.0;
      plain = more.1;
    }

pub returns-clause-read : goal.returns-clause-read
returns-clause-read c =
    let was = c.args.seat.now.seat.me.0 in
    ap (λ (w : View). w.done) c.load.ensures.2.view
    ∙ ap (λ (g : Game). was.done ++ Read c.args.v (of_rank g c.load.result) ∷ []) c.requires.seat.game
