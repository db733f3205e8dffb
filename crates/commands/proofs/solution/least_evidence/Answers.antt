use Rattle.std.proofs.Common.{arith}
use Rattle.requests.proofs.Readings.{was_ok}
use Rattle.commands.proofs.Solving.{least_full}
use Rattle.commands.proofs.solution.least_evidence.Goals as goal

pub returns-clause-full : goal.returns-clause-full
returns-clause-full c =
    let even = rw (was_ok _ _ c.in_ok-even.ensures.cases) at c.even_evidence.ensures in
    let odd = rw (was_ok _ _ c.in_ok-odd.ensures.cases) at c.odd_evidence_from.ensures in
    least_full c.args.game.now c.in_ok-even.even c.in_ok-odd.odd c.written_is_accepted.ensures c.known.ensures (omega arith) even.game even.even even.good
    even.exact odd.game odd.odd odd.good odd.exact
