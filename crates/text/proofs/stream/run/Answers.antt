use Rattle.text.proofs.Streaming.{run_more, run_ends, no_run}
use Rattle.text.proofs.stream.run.Goals as goal

pub loop-init : goal.loop-init
loop-init g c = no_run c.args.class c.args.most _ _ c.clear.ensures.items

pub loop-preserved : goal.loop-preserved
loop-preserved g c = run_more c.args.class c.args.most c.in_ok-run_on.field-0 _ _ _ _ _ c.loop.invariant c.in_ok-run_on.ensures

pub returns-then-branch : goal.returns-then-branch
returns-then-branch g c = run_ends c.args.class c.args.most _ _ _ _ _ c.loop.invariant (rw c.if-branch.true at c.in_ok-run_on.ensures)
