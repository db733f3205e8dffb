use Rattle.std.proofs.Common.{None, subst, sym}
use Rattle.std.proofs.lemmas.Result.{IfErr-weaker}
use Rattle.text.proofs.PassedOn.{passed_on}
use Rattle.verdicts.specs.declared.findings.Findings.{Findings}
use Rattle.requests.specs.Check.{ByGame, RefusesCheck}
use Rattle.verdicts.proofs.Beyond.{memory_caused, spelled_by}
use Rattle.verdicts.proofs.findings.find_alone.Goals as goal

pub returns-clause-spelled : goal.returns-clause-spelled
returns-clause-spelled g c = λ first second known also.
    spelled_by (λ (x : Findings). x.texts.value) first second c.in_ok-posed.posed.texts.value c.find_by_one.result
    (c.in_ok-posed.ensures.spelled first second known also) c.find_by_one.ensures.texts

pub returns-clause-refusal : goal.returns-clause-refusal
returns-clause-refusal g c = λ first second known also writers kept.
    let spelled = c.in_ok-posed.ensures.spelled first second known also in
    IfErr-weaker c.find_by_one.result _ _ (λ e h. subst (RefusesCheck (ByGame c.args.priorities None) first second writers) (sym h)
    ((_, spelled.system.spelled), kept)) c.find_by_one.ensures.refusal

pub returns-in_err-posed-clause-refusal : goal.returns-in_err-posed-clause-refusal
returns-in_err-posed-clause-refusal g c = λ first second known also writers kept.
    passed_on c.from_residual.result c.in_err-posed.field-0.0 (RefusesCheck (ByGame c.args.priorities None) first second writers) c.from_residual.ensures.1
    (c.in_err-posed.ensures.refusal first second known also None writers kept)

pub returns-clause-cause : goal.returns-clause-cause
returns-clause-cause g c = IfErr-weaker c.find_by_one.result _ _ (λ e h. memory_caused _ _ e h) c.find_by_one.ensures.refusal
