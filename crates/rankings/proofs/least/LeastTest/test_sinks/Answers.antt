use Rattle.std.proofs.Common.{◌+◌, sym, subst}
use Rattle.calculus.specs.Normal.{normal_nodes}
use Rattle.rankings.specs.Least.{AreTestedTo, tested_arena}
use Rattle.rankings.proofs.Proposed.{sink_is, tested_more}
use Rattle.rankings.proofs.least.LeastTest.test_sinks.Goals as goal

pub loop-sink-preserved : goal.loop-sink-preserved
loop-sink-preserved c =
    let t = c.args.self.now in
    let sink = c.loop-sink.sink in
    let here = c.in-Some.ensures (tested_arena t) (sink_is t.lts.now.system (normal_nodes t.form.now) sink c.loop-sink-test.true) c.requires.known.even
    c.requires.known.odd in
    subst (λ xs. AreTestedTo t xs (sink + 1)) (sym c.in_ok-push-in-Some.ensures.items)
    (tested_more t c.loop-sink.moves.items sink c.in-Some.next c.loop-sink.invariant here)
