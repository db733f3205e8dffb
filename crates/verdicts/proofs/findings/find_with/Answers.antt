use Rattle.std.proofs.Common.{Some, subst}
use Rattle.std.proofs.lemmas.Result.{IfErr-weaker}
use Rattle.std.specs.Arc.{arc_value}
use Rattle.text.proofs.PassedOn.{passed_on}
use Rattle.calculus.specs.Closed.{closed_formula}
use Rattle.verdicts.specs.declared.findings.Findings.{Findings}
use Rattle.requests.specs.Check.{ByGame, IsArenaOf, RefusesCheck}
use Rattle.verdicts.proofs.Beyond.{beyond_board, beyond_of, spelled_by}
use Rattle.requests.proofs.Caused.{unsolved_caused}
use Rattle.verdicts.proofs.findings.find_with.Goals as goal

pub returns-clause-spelled : goal.returns-clause-spelled
returns-clause-spelled g c = λ first second known also.
    spelled_by (λ (x : Findings). x.texts.value) first second c.in_ok-posed.posed.texts.value c.find_by_workers.result
    (c.in_ok-posed.ensures.spelled first second known also) c.find_by_workers.ensures.texts

pub returns-clause-refusal : goal.returns-clause-refusal
returns-clause-refusal g c = λ first second known also writers kept.
    let options = c.args.options.now in
    let posed = c.in_ok-posed.posed in
    let l = posed.texts.value.system.system in
    let f = closed_formula posed.texts.value.formula in
    let is = subst (λ rule. IsArenaOf rule l f (arc_value posed.game)) c.in_ok-posed.ensures.rule c.in_ok-posed.ensures.posed.game in
    IfErr-weaker c.find_by_workers.result _ _
    (λ e h. beyond_of options.priorities (Some options.board) first second writers l f e (c.in_ok-posed.ensures.spelled first second known also)
    (beyond_board options.priorities options.board l f (arc_value posed.game) e is h) kept) c.find_by_workers.ensures.refusal

pub returns-in_err-posed-clause-refusal : goal.returns-in_err-posed-clause-refusal
returns-in_err-posed-clause-refusal g c = λ first second known also writers kept.
    let way = ByGame c.args.options.now.priorities (Some c.args.options.now.board) in
    passed_on c.from_residual.result c.in_err-posed.field-0.0 (RefusesCheck way first second writers) c.from_residual.ensures.1
    (c.in_err-posed.ensures.refusal first second known also (Some c.args.options.now.board) writers kept)

pub returns-clause-cause : goal.returns-clause-cause
returns-clause-cause g c = unsolved_caused (Some c.args.options.now.board) _ _ _ c.find_by_workers.result c.find_by_workers.ensures.refusal
