use Rattle.std.proofs.Common.{◌≡◌, ap, arith, length, sym, ◌∙◌}
use Rattle.std.specs.Mem.Slots.{slots_items}
use Rattle.game.specs.Game.{Game}
use Rattle.measures.specs.Lifting.{height}
use Rattle.tables.proofs.Packing.{closed_over, closed_words}
use Rattle.tables.proofs.packed.PackedBoard.close.Goals as goal

pub pour-requires : goal.pour-requires
pour-requires c =
    let board = c.args.self in
    let g = c.deref-2.result.now in
    let same : board.table.shared.key ≡ g = board.keyed ∙ sym c.deref-2.ensures in
    let final = c.close_with.ensures.values.2 in record {
      full = c.close_with.ensures.values.0;
      size = c.close_with.ensures.counts.0 ∙ (board.sized ∙ ap (λ (h : Game). length h.vertices) (sym c.deref-2.ensures));
      slotless = c.close_with.ensures.counts.1 ∙ board.slotless;
      few = let top : board.top ≡ height g = board.topped ∙ ap height (sym c.deref-2.ensures) in let few = board.few in omega (arith, top, few);
      same = c.in-Ok.ensures.game ∙ (c.deref.ensures ∙ sym c.deref-2.ensures);
      words = closed_words board.table.shared.key g (slots_items c.close_with.result.words) final.0 same final.1.0 final.2;
    }

pub returns-clause-kept : goal.returns-clause-kept
returns-clause-kept c =
    let board = c.args.self in
    let g = c.deref-2.result.now in
    let same : board.table.shared.key ≡ g = board.keyed ∙ sym c.deref-2.ensures in
    let final = c.close_with.ensures.values.2 in
    let seat = c.args.seat.seat in
    let long = c.known.ensures.long ∙ ap (λ (h : Game). length h.vertices) c.pour.ensures.game in
    closed_over board.table.shared.key g
    (slots_items c.close_with.result.words) final.0 seat.id seat.me.0 c.pour.new.table.values same final.1.0 final.1.1 final.2 long c.pour.ensures.poured
