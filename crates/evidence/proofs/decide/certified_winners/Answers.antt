use Rattle.evidence.proofs.Marked.{full_marks}
use Rattle.evidence.proofs.decide.certified_winners.Goals as goal

pub returns-in-Ok : goal.returns-in-Ok
returns-in-Ok c = full_marks c.args.game.now c.in_ok-pair.pair.even.evidence c.in-Ok.marks.items c.in_ok-pair.ensures.even c.in-Ok.ensures
