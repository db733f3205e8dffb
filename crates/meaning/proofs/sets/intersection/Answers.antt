use Rattle.std.proofs.Common.{◌&&◌, arith, ◌∙◌}
use Rattle.meaning.proofs.Mixed.{mixed_turn, mixed_all}
use Rattle.meaning.proofs.sets.intersection.Goals as goal

pub loop-state-preserved : goal.loop-state-preserved
loop-state-preserved c =
    mixed_turn (λ p. p.0 && p.1) c.loop-state.state c.args.marks.items c.args.others.now c.loop-state.marks.items c.index_mut.result.now
    c.loop-state.invariant c.index_mut.ensures.value c.requires
    c.loop-state-test.true

pub returns : goal.returns
returns c = c.loop-state.invariant ∙ mixed_all (λ p. p.0 && p.1) c.loop-state.state c.args.marks.items c.args.others.now c.requires (omega arith)
