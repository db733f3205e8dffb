use Rattle.lts.proofs.Gathering.{gathers_more}
use Rattle.lts.proofs.intake.ReadTransitions.add.Goals as goal

pub returns-clause-added : goal.returns-clause-added
returns-clause-added g c = λ arrows so_far. rw c.in_ok-push.ensures.items
    (gathers_more _ _ _ arrows _ _ _ _ c.in_ok-label.ensures.kept c.in_ok-label.ensures.number so_far)
