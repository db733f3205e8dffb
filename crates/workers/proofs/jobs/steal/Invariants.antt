use Rattle.crossbeam_deque.specs.Handles.{IsPassOf, stealer_deque}
use Rattle.workers.proofs.jobs.steal.Given as goal

abbrev pub invariant-loop : goal.invariant-loop
invariant-loop g l = IsPassOf (stealer_deque l.other) l.pass
