use Rattle.why.proofs.writer.+step_before.Given as goal

abbrev pub decreases-step_before : goal.decreases-step_before
decreases-step_before l = l.number
