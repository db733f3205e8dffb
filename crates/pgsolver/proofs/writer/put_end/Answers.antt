use Rattle.std.proofs.Common.{◌+◌, ◌*◌, ◌<◌, ◌≤◌, ℕ, zero, suc, arith}
use Rattle.pgsolver.proofs.writer.put_end.Goals as goal

-- a name past the sinks is of some node
some_nodes : (v states nodes : ℕ) → 2 ≤ v → v < 2 + states * nodes → 0 < nodes
some_nodes v states zero low fits = absurd (omega arith)
some_nodes v states (suc nodes) low fits = omega arith

pub nonzero_div-v : goal.nonzero_div-v
nonzero_div-v g c = some_nodes c.args.v _ _ (omega arith) (c.requires _ _ c.in-Some-default.is-0)

pub nonzero_rem-v : goal.nonzero_rem-v
nonzero_rem-v g c = some_nodes c.args.v _ _ (omega arith) (c.requires _ _ c.in-Some-default.is-0)
