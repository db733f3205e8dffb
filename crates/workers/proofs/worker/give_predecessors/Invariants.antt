use Rattle.std.proofs.Common.{ℕ, ◌<◌, ◌⊎◌, Contains, List, slice_index}
use Rattle.workers.specs.Jobs.{Gave}
use Rattle.workers.specs.Turns.{first_in_block}
use Rattle.workers.proofs.worker.give_predecessors.Given as goal

abbrev pub invariant-loop-u : goal.invariant-loop-u
invariant-loop-u g l = (jobs : List ℕ) × Gave l.fn.own l.own jobs
    × ((k : ℕ) → k < l.u-index → g.M.Pending.was_pending l.marks (slice_index l.u-items k) ⊎ Contains jobs (first_in_block (slice_index l.u-items k)))
