use Rattle.std.proofs.Common.{Some, refl}
use Rattle.std.proofs.lemmas.Result.{IfErr-weaker}
use Rattle.requests.specs.Texts.{IsReadRefusal}
use Rattle.requests.specs.declared.error.MuError.TheVariants as error
use Rattle.requests.proofs.Readings.{ok_after_both, err_after}
use Rattle.requests.proofs.Fronts.{formula_of_front, refused_of}
use Rattle.requests.proofs.texts.parse_front.Goals as goal

pub returns-clause-spelled : goal.returns-clause-spelled
returns-clause-spelled c =
    λ text front.
    ok_after_both _ c.parse.result c.map_err.result _ _ _ c.map_err.ensures.cases c.parse.ensures.spelled c.parse.ensures.only
    (λ f spelled only. formula_of_front (Some text) c.args.front.now c.args.front.now _ front refl spelled f.admitted only)

pub returns-clause-refusal : goal.returns-clause-refusal
returns-clause-refusal c =
    λ text front.
    err_after error.Formula c.parse.result c.map_err.result (IsReadRefusal text) c.map_err.ensures.cases
    (IfErr-weaker c.parse.result _ _ (λ e told. refused_of text c.args.front.now c.args.front.now e front refl told) c.parse.ensures.fault)
