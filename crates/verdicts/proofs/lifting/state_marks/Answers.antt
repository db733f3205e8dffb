use Rattle.std.proofs.Common.{subst, ◌∙◌}
use Rattle.calculus.specs.Closed.{closed_formula}
use Rattle.calculus.specs.Meaning.{MarksOf}
use Rattle.calculus.specs.Rules.{nodes_with}
use Rattle.game.specs.Game.{Game}
use Rattle.requests.specs.Roots.{WinsRoot}
use Rattle.requests.specs.Solver.{FitsBoard}
use Rattle.verdicts.proofs.Limits.{nodes_some}
use Rattle.verdicts.proofs.Roots.{arena_roots, roots_mean}
use Rattle.verdicts.proofs.lifting.state_marks.Goals as goal

pub root_marks-requires-clause-named : goal.root_marks-requires-clause-named
root_marks-requires-clause-named c =
    let f = closed_formula c.args.formula.now in
    let rule = c.args.priorities in
    arena_roots c.args.system.now.system (nodes_with rule f) c.deref.result.now c.states-states.result
    (c.deref.ensures ∙ c.requires.arena.same) c.states-states.ensures.count (nodes_some rule f)

pub returns-clause-marks : goal.returns-clause-marks
returns-clause-marks c = λ board fits.
    let l = c.args.system.now.system in
    let f = closed_formula c.args.formula.now in
    let rule = c.args.priorities in
    let marks = c.in_ok-root_marks.field-0.items in
    let counted = subst (λ n. MarksOf n marks (WinsRoot c.deref.result.now)) c.states-states.ensures.count c.in_ok-root_marks.ensures in
    let won = subst (λ (g : Game). MarksOf l.states marks (WinsRoot g)) (c.deref.ensures ∙ c.requires.arena.same) counted in
    let admitted = c.args.formula.now.admitted in
    let known = c.states-states.ensures.known in
    record {
      within = (c.requires.arena.within, subst (FitsBoard board) c.requires.arena.same fits);
      exact = roots_mean l f (nodes_with rule f) marks c.even_wins_where_meant.ensures.root known admitted (c.chosen_is_admissible.ensures rule f admitted) won;
      won = won;
    }
