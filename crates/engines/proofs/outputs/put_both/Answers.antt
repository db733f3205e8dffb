use Rattle.engines.proofs.Orders.{unasked}
use Rattle.engines.proofs.outputs.put_both.Goals as goal

pub returns-in-Neither : goal.returns-in-Neither
returns-in-Neither g c = rw c.in-Neither.is (λ x both. (unasked x (g.E.Sink.taken c.args.even.now), (unasked x (g.O.Sink.taken c.args.odd.now), tt)))

pub returns-in-Made : goal.returns-in-Made
returns-in-Made g c = rw c.in-Made.is (λ x both. c.put_pair.ensures x both)

pub returns-in-Least : goal.returns-in-Least
returns-in-Least g c = rw c.in-Least.is (λ x both. c.put_least.ensures x both.0 both.1)
