use Rattle.std.proofs.Common.{◌≡◌, ◌∙◌, length, ap, arith, subst}
use Rattle.calculus.specs.Normal.{normal_nodes}
use Rattle.game.specs.Arena.{place}
use Rattle.rankings.specs.Least.{AreTestedTo}
use Rattle.rankings.proofs.least.LeastTest.test_all.Goals as goal

pub returns : goal.returns
returns c =
    let t = c.args.self.now in
    let n = length (normal_nodes t.form.now) in
    let long = c.requires.long in
    let count = c.states-state-end.ensures.count in
    let state = c.loop-state.state in
    let past = c.loop-state-test.false in
    let in_end = c.loop-state.auto.state-end in
    let all : state ≡ t.lts.now.system.states = omega (arith, count, past, in_end) in
    let whole : place n t.lts.now.system.states 0 ≡ t.proposals.now.vertices = omega (arith, long) in
    subst (AreTestedTo t c.loop-state.moves.items) (ap (λ s. place n s 0) all ∙ whole) c.loop-state.invariant
