use Rattle.std.proofs.Common.{◌+◌, List, Bool, sym, subst}
use Rattle.calculus.specs.Meaning.{MarksOf}
use Rattle.requests.specs.Roots.{WinsRoot}
use Rattle.calculus.proofs.Marks.{marks_more}
use Rattle.verdicts.proofs.Roots.{root_below, wins_root}
use Rattle.verdicts.proofs.lifting.root_marks.Goals as goal

pub even_wins_by-requires-clause-vertex : goal.even_wins_by-requires-clause-vertex
even_wins_by-requires-clause-vertex c =
    root_below c.args.states c.loop-state.state c.vertex_of.result c.args.game.now c.known.ensures c.requires.named c.loop-state-test.true c.vertex_of.ensures

pub loop-state-preserved : goal.loop-state-preserved
loop-state-preserved c =
    let state = c.loop-state.state in
    let root = wins_root state c.vertex_of.result c.args.game.now c.even_wins_by.result c.vertex_of.ensures c.even_wins_by.ensures in
    subst (λ (ms : List Bool). MarksOf (state + 1) ms (WinsRoot c.args.game.now)) (sym {A = List Bool} c.in_ok-push.ensures.items)
    (marks_more state c.loop-state.marks.items c.even_wins_by.result (WinsRoot c.args.game.now) c.loop-state.invariant root)
