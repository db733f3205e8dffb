use Rattle.liftcore.proofs.Seated.{found_at}
use Rattle.liftcore.proofs.seat.place_of.Goals as goal

pub returns : goal.returns
returns c = found_at c.args.numbers.now c.args.v c.binary_search.result c.ok.result c.requires c.binary_search.ensures.position c.ok.ensures.value
