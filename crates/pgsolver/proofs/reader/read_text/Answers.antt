use Rattle.std.proofs.Common.{arith}
use Rattle.pgsolver.proofs.Whole.{read_whole}
use Rattle.pgsolver.proofs.reader.read_text.Goals as goal

pub put_in_order-requires-clause-filled : goal.put_in_order-requires-clause-filled
put_in_order-requires-clause-filled g c = rw (c.deref.ensures.value, c.into_game-game.ensures) c.in_ok-read_rows.ensures.filled

pub returns-clause-spelled : goal.returns-clause-spelled
returns-clause-spelled g c =
    read_whole (g.B.Read.remaining c.args.reader.now) _ _ c.in_ok-last.last _ _ c.in_ok-put_in_order.field-0 c.in_ok-last.ensures.within
    c.in_ok-last.ensures.first c.in_ok-read_rows.ensures.all
    (omega (arith, c.in_ok-read_rows.ensures.count, c.read_rows.new.rows.places.ok.0)) (rw c.into_game-game.ensures at c.in_ok-put_in_order.ensures.size)
    (rw (c.deref.ensures.value, c.into_game-game.ensures) at c.in_ok-put_in_order.ensures.put) c.in_ok-put_in_order.ensures.unnamed
