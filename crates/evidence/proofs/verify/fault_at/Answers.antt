use Rattle.measures.proofs.Bests.{vertex_here}
use Rattle.evidence.proofs.Checked.{fault_here}
use Rattle.evidence.proofs.verify.fault_at.Goals as goal

pub returns-in-Some : goal.returns-in-Some
returns-in-Some c =
    let x = vertex_here c.args.game.now c.args.v c.requires.vertex in
    let least = c.fault_with_move.ensures x.0 x.1 in
    fault_here c.args.game.now c.args.evidence.now.evidence c.args.v _ x.0 c.fault_with_move.result (rw c.in-Some.is at c.in_ok-entry.ensures) x.1 least

pub returns-in-None : goal.returns-in-None
returns-in-None c =
    let x = vertex_here c.args.game.now c.args.v c.requires.vertex in
    let least = c.fault_without.ensures x.0 x.1 in
    fault_here c.args.game.now c.args.evidence.now.evidence c.args.v _ x.0 c.fault_without.result (rw c.in-None.is at c.in_ok-entry.ensures) x.1 least
