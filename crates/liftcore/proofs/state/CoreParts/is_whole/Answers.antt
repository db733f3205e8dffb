use Rattle.liftcore.proofs.Stated.{got}
use Rattle.liftcore.proofs.state.CoreParts.is_whole.Goals as goal

pub is_whole-requires : goal.is_whole-requires
is_whole-requires c =
    record {
      seat = c.requires.seats c.args.worker c.in-Some.seat.now
          (got c.deref.result.now c.args.self.now.seats.items c.args.worker c.in-Some.seat.now c.deref.ensures.value c.in-Some.ensures.lookup.0
          c.in-Some.ensures.lookup.1);
    }
