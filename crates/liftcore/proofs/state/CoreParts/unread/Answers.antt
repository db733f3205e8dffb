use Rattle.liftcore.proofs.Stated.{got, got_none}
use Rattle.liftcore.proofs.state.CoreParts.unread.Goals as goal

pub unread-requires : goal.unread-requires
unread-requires c =
    record {
      seat = c.requires.seats c.args.worker c.in-Some.seat.now
          (got c.deref.result.now c.args.self.now.seats.items c.args.worker c.in-Some.seat.now c.deref.ensures.value c.in-Some.ensures.lookup.0
          c.in-Some.ensures.lookup.1);
    }

pub returns-in-None : goal.returns-in-None
returns-in-None c = λ h. got_none c.deref.result.now c.args.self.now.seats.items c.args.worker h.seat c.deref.ensures.value c.in-None.ensures.lookup.0 h.here
