use Rattle.std.proofs.Common.{arith, ◌∙◌}
use Rattle.liftcore.proofs.Lines.{far_vertex, far_worker, good_line, no_event}
use Rattle.liftcore.proofs.schedule.judged.Goals as goal

pub returns-in_default : goal.returns-in_default
returns-in_default c = λ line found. no_event line (found ∙ c.in_default.is)

pub returns-then-worker_of-workers : goal.returns-then-worker_of-workers
returns-then-worker_of-workers c = λ line found. far_worker c.args.workers line c.in-Some.event (found ∙ c.in-Some.is) (omega arith)

pub returns-then-is_far : goal.returns-then-is_far
returns-then-is_far c = λ line found.
    far_vertex c.args.workers c.args.vertices line c.in-Some.event (omega arith) (found ∙ c.in-Some.is) (omega arith)
    (rw c.if-is_far.true at c.is_far.ensures)

pub returns : goal.returns
returns c = λ line found.
    good_line c.args.workers c.args.vertices line c.in-Some.event (omega arith) (omega arith) (found ∙ c.in-Some.is)
    (record { worker = omega arith; vertex = rw c.if-is_far.false at c.is_far.ensures })
