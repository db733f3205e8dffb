use Rattle.std.proofs.Common.{◌≢◌, ◌∙◌, List, length, ap, refl, subst}
use Rattle.calculus.specs.Closed.{closed_formula}
use Rattle.calculus.specs.Form.{IsForm}
use Rattle.calculus.specs.Meaning.{MarksOf}
use Rattle.calculus.specs.Nodes.{Node}
use Rattle.calculus.specs.Rules.{nodes_with}
use Rattle.game.specs.declared.player.Player.TheVariants.{Even}
use Rattle.game.specs.Arena.{place}
use Rattle.measures.specs.Measure.{Top}
use Rattle.measures.specs.Progress.{value_at}
use Rattle.measures.specs.StoredProposal.{values_of}
use Rattle.verdicts.proofs.Leasts.{least_won}
use Rattle.verdicts.proofs.Ranking.{ranked_by}
use Rattle.verdicts.proofs.proposing.least_marks.Goals as goal

pub returns-clause-marks : goal.returns-clause-marks
returns-clause-marks c =
    let l = c.args.texts.now.system.system in
    let f = closed_formula c.args.texts.now.formula in
    let rule = c.args.options.now.priorities in
    let ns = nodes_with rule f in
    let is = c.requires in
    let form : IsForm ns = subst IsForm is.form c.known.ensures in
    let count = c.count.ensures.count ∙ ap (λ (xs : List Node). length xs) is.form in
    let marks = c.in_ok-root_marks_of.field-0 in
    let m = subst (λ n. MarksOf n marks.items (λ s. value_at (values_of Even c.args.least.now.proposals) (place c.count.result s 0) ≢ Top))
    c.states-states.ensures.count c.in_ok-root_marks_of.ensures in
    ranked_by rule c.args.options.now.board l f ns marks.items c.chosen_is_admissible.ensures c.even_wins_where_meant.ensures.root
    c.states-states.ensures.known c.args.texts.now.formula.admitted is.fits is.within.form.nodes is.within.form.priorities refl is.within.vertices
    (least_won l ns c.args.least.now.proposals c.count.result marks.items c.least_decides.ensures form is.within.vertices is.least count m)
