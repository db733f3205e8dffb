use Rattle.std.proofs.Common.{[], ◌∙◌, Some, rules}
use Rattle.text.proofs.Writing.{Stays-refl}
use Rattle.calculus.specs.Closed.{closed_formula}
use Rattle.requests.proofs.Readings.{was_err, was_ok, was_turned}
use Rattle.requests.specs.Check.{BySets}
use Rattle.commands.specs.Labels.{IsListed, RefusesLabels}
use Rattle.commands.proofs.Answered.{refused}
use Rattle.commands.proofs.Listed.{refused_texts, text_given}
use Rattle.commands.proofs.labels_text.labels_text.Goals as goal

pub returns-in_err-texts-in-Some-clause-lists : goal.returns-in_err-texts-in-Some-clause-lists
returns-in_err-texts-in-Some-clause-lists g c = λ first second known also.
    let (text, is, left) = text_given g.S.Source.remaining c.args.formula c.in-Some.formula second c.in-Some.is also in
    let refusal = c.in_err-texts-in-Some.ensures.refusal first text known left BySets [] tt in
    rw (is, was_err _ _ c.from_residual-in_err-texts-in-Some.ensures.1)
    (refused (IsListed first (Some text)) (RefusesLabels first (Some text)) _ _ (λ fault h. h.begun) (refused_texts first text _ refusal))

pub returns-in_err-form-in-Some-clause-lists : goal.returns-in_err-form-in-Some-clause-lists
returns-in_err-form-in-Some-clause-lists g c = λ first second known also.
    let (text, is, left) = text_given g.S.Source.remaining c.args.formula c.in-Some.formula second c.in-Some.is also in
    let t = was_turned _ _ _ _ c.in_err-form-in-Some.ensures.cases c.from_residual-in_err-form-in-Some.ensures.1 in
    rw (is, t.2) (
      record {
        l = c.in_ok-texts-in-Some.texts.system.system;
        f = closed_formula c.in_ok-texts-in-Some.texts.formula;
        spelled = c.in_ok-texts-in-Some.ensures.spelled first text known left;
        beyond = rw t.1 at c.normal.ensures.refused;
      },
      Stays-refl _,
    )

pub returns-in_ok-system-in-None-clause-lists : goal.returns-in_ok-system-in-None-clause-lists
returns-in_ok-system-in-None-clause-lists g c = λ first second known also.
    let read = rw (was_ok _ _ c.in_ok-system-in-None.ensures.cases) at c.read_aut.ensures in
    c.write_labels.ensures.answers first second (search rules)

pub returns-in_ok-form-in-Some-clause-lists : goal.returns-in_ok-form-in-Some-clause-lists
returns-in_ok-form-in-Some-clause-lists g c = λ first second known also.
    let (text, is, left) = text_given g.S.Source.remaining c.args.formula c.in-Some.formula second c.in-Some.is also in
    let made = rw (was_ok _ _ c.in_ok-form-in-Some.ensures.cases) at c.normal.ensures in
    c.write_labels-in-Some.ensures.answers first second (rw is (
      closed_formula c.in_ok-texts-in-Some.texts.formula,
      c.in_ok-texts-in-Some.ensures.spelled first text known left,
      record { nodes = made.count; priorities = made.low },
      c.nodes.ensures ∙ made.nodes,
    ))
