use Rattle.liftcore.proofs.Marked.{unmarked}
use Rattle.liftcore.proofs.seat.CoreWorker.owe.Goals as goal

pub loop-v-init : goal.loop-v-init
loop-v-init c = record {
  seat = c.requires.seat;
  holding = c.requires.free;
  owed = λ v. unmarked c.args.self.now.owed v c.requires.none;
  within = c.requires.within;
}
