use Rattle.game.proofs.Common.{◌≡◌, ◌++◌, ◌-◌, range_with_len, normal_nodes, rows}
use Rattle.game.proofs.build.push_states.Given as goal

abbrev pub invariant-loop-state : goal.invariant-loop-state
invariant-loop-state l = l.builder ≡ l.initial.builder ++ rows l.lts.system (normal_nodes l.form) (range_with_len l.first (l.state - l.first))
