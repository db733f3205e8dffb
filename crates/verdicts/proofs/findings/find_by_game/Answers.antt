use Rattle.std.proofs.Common.{◌∙◌, Some, subst}
use Rattle.std.proofs.lemmas.Result.{IfErr-weaker, IfOk-weaker}
use Rattle.std.specs.Arc.{arc_value}
use Rattle.text.proofs.PassedOn.{passed_on}
use Rattle.calculus.specs.Closed.{closed_formula}
use Rattle.requests.specs.declared.texts.Texts.{Texts}
use Rattle.requests.specs.Check.{ByGame, IsArenaOf, IsBeyond}
use Rattle.verdicts.proofs.Beyond.{beyond_any, beyond_board}
use Rattle.verdicts.proofs.findings.find_by_game.Goals as goal

pub returns-clause-texts : goal.returns-clause-texts
returns-clause-texts g c = IfOk-weaker c.find_posed.result _ _ (λ found same. same ∙ c.in_ok-posed.ensures.texts) c.find_posed.ensures.texts

pub returns-clause-refusal : goal.returns-clause-refusal
returns-clause-refusal g c =
    let options = c.args.options.now in
    let posed = c.in_ok-posed.posed in
    let l = c.args.texts.value.system.system in
    let f = closed_formula c.args.texts.value.formula in
    let arena = subst (λ rule. IsArenaOf rule posed.texts.value.system.system (closed_formula posed.texts.value.formula) (arc_value posed.game))
    c.in_ok-posed.ensures.rule c.in_ok-posed.ensures.posed.game in
    let is = subst (λ (t : Texts). IsArenaOf options.priorities t.system.system (closed_formula t.formula) (arc_value posed.game)) c.in_ok-posed.ensures.texts
    arena in
    IfErr-weaker c.find_posed.result _ _ (λ e h. beyond_board options.priorities options.board l f (arc_value posed.game) e is h)
    c.find_posed.ensures.refusal

pub returns-in_err-posed-clause-refusal : goal.returns-in_err-posed-clause-refusal
returns-in_err-posed-clause-refusal g c =
    let rule = c.args.options.now.priorities in
    let board = Some c.args.options.now.board in
    let l = c.args.texts.value.system.system in
    let f = closed_formula c.args.texts.value.formula in
    passed_on c.from_residual.result c.in_err-posed.field-0.0 (IsBeyond (ByGame rule board) l f) c.from_residual.ensures.1
    (beyond_any rule board l f c.in_err-posed.field-0.0 c.in_err-posed.ensures.refusal)
