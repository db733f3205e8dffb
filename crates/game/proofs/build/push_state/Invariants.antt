use Rattle.game.proofs.Common.{◌≡◌, ◌++◌, length, map, take, normal_nodes, vertex_of}
use Rattle.game.proofs.build.push_state.Given as goal

abbrev pub invariant-loop-number : goal.invariant-loop-number
invariant-loop-number l = l.builder ≡ l.initial.builder ++ map (vertex_of l.lts.system (length (normal_nodes l.form)) l.state)
    (take l.number (normal_nodes l.form))
