use Rattle.std.proofs.Common.{add-one}
use Rattle.liftcore.proofs.Stated.{one_more_idle}
use Rattle.liftcore.proofs.state.idle_seats.Goals as goal

pub loop-preserved : goal.loop-preserved
loop-preserved c = one_more_idle c.args.game.now c.loop.counter _ c.loop.seats.items c.push.new.self.items c.in_ok-new.field-0 c.loop.invariant
    c.in_ok-new.ensures.seat c.in_ok-new.ensures.idle c.in_ok-push.ensures.items (add-one c.loop.counter)
