use Rattle.std.proofs.Common.{subst, sym}
use Rattle.std.proofs.lemmas.Result.{IfErr-weaker}
use Rattle.text.proofs.PassedOn.{passed_on}
use Rattle.calculus.specs.Closed.{closed_formula}
use Rattle.verdicts.specs.declared.findings.GameToSolve.{GameToSolve}
use Rattle.requests.specs.declared.error.MuError.TheVariants as error
use Rattle.requests.specs.declared.texts.Texts.{Texts}
use Rattle.requests.specs.Check.{ByGame, AreSpelled, RefusesCheck}
use Rattle.verdicts.proofs.Beyond.{beyond_any, beyond_of, spelled_by}
use Rattle.verdicts.proofs.findings.read_and_build.Goals as goal

pub returns-clause-spelled : goal.returns-clause-spelled
returns-clause-spelled g c = λ first second known also.
    let spelled = subst (λ (t : Texts). AreSpelled first second t.system.system (closed_formula t.formula)) (sym c.in_ok-boxed.ensures)
    (c.in_ok-texts.ensures.spelled first second known also) in
    spelled_by (λ (x : GameToSolve). x.texts.value) first second c.in_ok-boxed.boxed.value c.build_of.result spelled c.build_of.ensures.texts

pub returns-clause-refusal : goal.returns-clause-refusal
returns-clause-refusal g c = λ first second known also board writers kept.
    let rule = c.args.priorities in
    let l = c.in_ok-boxed.boxed.value.system.system in
    let f = closed_formula c.in_ok-boxed.boxed.value.formula in
    let spelled = subst (λ (t : Texts). AreSpelled first second t.system.system (closed_formula t.formula)) (sym c.in_ok-boxed.ensures)
    (c.in_ok-texts.ensures.spelled first second known also) in
    IfErr-weaker c.build_of.result _ _ (λ e h. beyond_of rule board first second writers l f e spelled
    (beyond_any rule board l f e h) kept) c.build_of.ensures.refusal

pub returns-in_err-boxed-clause-refusal : goal.returns-in_err-boxed-clause-refusal
returns-in_err-boxed-clause-refusal g c = λ first second known also board writers kept.
    let spelled = c.in_ok-texts.ensures.spelled first second known also in
    passed_on c.from_residual-in_err-boxed.result error.Memory (RefusesCheck (ByGame c.args.priorities board) first second writers)
    c.from_residual-in_err-boxed.ensures.1 ((_, spelled.system.spelled), kept)

pub returns-in_err-texts-clause-refusal : goal.returns-in_err-texts-clause-refusal
returns-in_err-texts-clause-refusal g c = λ first second known also board writers kept.
    let way = ByGame c.args.priorities board in
    passed_on c.from_residual.result c.in_err-texts.field-0.0 (RefusesCheck way first second writers) c.from_residual.ensures.1
    (c.in_err-texts.ensures.refusal first second known also way writers kept)
