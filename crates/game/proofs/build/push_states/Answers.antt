use Rattle.game.proofs.Common.{arith, normal_nodes}
use Rattle.game.proofs.Arenas.{rows_more, rows_fit}
use Rattle.game.proofs.build.push_states.Goals as goal

pub loop-state-preserved : goal.loop-state-preserved
loop-state-preserved c = rows_more c.args.lts.now.system
    (normal_nodes c.args.form.now) c.args.first c.loop-state.state c.args.builder.now c.loop-state.builder c.push_state.new.builder
    (omega arith) c.loop-state.invariant c.in_ok-push_state.ensures

pub push_state-requires-clause-room : goal.push_state-requires-clause-room
push_state-requires-clause-room c = rows_fit c.args.lts.now.system
    (normal_nodes c.args.form.now) c.args.first c.loop-state.state c.args.end c.args.builder.now c.loop-state.builder c.loop-state.invariant
    (omega arith) c.loop-state-test.true c.requires.room
