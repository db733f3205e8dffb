use Rattle.std.proofs.Common.{◌≡◌, ◌∙◌, inl, take}
use Rattle.std.specs.Prelude.{IfSome}
use Rattle.lts.specs.Aut.{HasAutFault, IsAut}
use Rattle.lts.specs.Left.{aut_fault_of}
use Rattle.requests.proofs.Fronts.{whole_spelled}
use Rattle.requests.proofs.Readings.{at_known, spelled_of, was_err, was_ok, was_turned}
use Rattle.requests.proofs.Words.{fault_read, known_of, refused_word, unread_by}
use Rattle.requests.proofs.texts.read_asked.Goals as goal

pub returns-clause-spelled : goal.returns-clause-spelled
returns-clause-spelled g c = λ first second known also.
    let read = rw (was_ok _ _ c.in_ok-system.ensures.cases) at c.read_aut.ensures.reads in
    let front = at_known (λ text. c.in_ok-text.text.items ≡ take 1048577 text) _ second also c.in_ok-text.ensures.front in
    spelled_of first second _ _ _ known read.spelled read.only (c.in_ok-formula.ensures.spelled second (c.deref.ensures.value ∙ front))

pub returns-clause-known : goal.returns-clause-known
returns-clause-known g c = λ first second known also.
    let read = rw (was_ok _ _ c.in_ok-system.ensures.cases) at c.read_aut.ensures.reads in
    let front = at_known (λ text. c.in_ok-text.text.items ≡ take 1048577 text) _ second also c.in_ok-text.ensures.front in
    let formula = c.in_ok-formula.ensures.spelled second (c.deref.ensures.value ∙ front) in
    known_of first second c.args.strict _ _ _ (spelled_of first second _ _ _ known read.spelled read.only formula)
    (c.deref-2.ensures.value ∙ whole_spelled _ second _ front formula) c.in_ok-look_where.ensures.known

pub returns-in_err-system-clause-refusal : goal.returns-in_err-system-clause-refusal
returns-in_err-system-clause-refusal g c = λ first second known also way writers kept.
    let t = was_turned _ _ _ _ c.in_err-system.ensures.cases c.from_residual.ensures.1 in
    let read = rw t.1 at c.read_aut.ensures.reads in
    rw t.2 (inl ((at_known (λ text. IfSome (aut_fault_of t.0) (λ told. HasAutFault text told.0 told.1)) _ first known read.fault, kept), λ asked. inl tt))

pub returns-in_err-text-clause-refusal : goal.returns-in_err-text-clause-refusal
returns-in_err-text-clause-refusal g c = λ first second known also way writers kept.
    let l = c.in_ok-system.system.system in
    let read = rw (was_ok _ _ c.in_ok-system.ensures.cases) at c.read_aut.ensures.reads in
    rw (was_err _ _ c.from_residual-in_err-text.ensures.1)
    (unread_by c.args.strict way first second writers c.in_err-text.field-0.0 (l, at_known (λ text. IsAut text l) _ first known read.spelled)
    (fault_read second c.in_err-text.field-0.0 c.in_err-text.ensures.refusal) kept)

pub returns-in_err-formula-clause-refusal : goal.returns-in_err-formula-clause-refusal
returns-in_err-formula-clause-refusal g c = λ first second known also way writers kept.
    let l = c.in_ok-system.system.system in
    let read = rw (was_ok _ _ c.in_ok-system.ensures.cases) at c.read_aut.ensures.reads in
    let front = at_known (λ text. c.in_ok-text.text.items ≡ take 1048577 text) _ second also c.in_ok-text.ensures.front in
    rw (was_err _ _ c.from_residual-in_err-formula.ensures.1)
    (unread_by c.args.strict way first second writers c.in_err-formula.field-0.0 (l, at_known (λ text. IsAut text l) _ first known read.spelled)
    (c.in_err-formula.ensures.refusal second (c.deref.ensures.value ∙ front)) kept)

pub returns-in_err-look_where-clause-refusal : goal.returns-in_err-look_where-clause-refusal
returns-in_err-look_where-clause-refusal g c = λ first second known also way writers kept.
    let read = rw (was_ok _ _ c.in_ok-system.ensures.cases) at c.read_aut.ensures.reads in
    let front = at_known (λ text. c.in_ok-text.text.items ≡ take 1048577 text) _ second also c.in_ok-text.ensures.front in
    let formula = c.in_ok-formula.ensures.spelled second (c.deref.ensures.value ∙ front) in
    rw (was_err _ _ c.from_residual-in_err-look_where.ensures.1)
    (refused_word first second c.args.strict way writers _ _ _ c.in_err-look_where.field-0.0 (spelled_of first second _ _ _ known read.spelled read.only formula)
    (c.deref-2.ensures.value ∙ whole_spelled _ second _ front formula) c.in_err-look_where.ensures.asked kept c.in_err-look_where.ensures.refusal)
