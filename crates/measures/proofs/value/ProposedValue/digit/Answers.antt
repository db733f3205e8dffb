use Rattle.measures.proofs.Common.{◌≡◌, ◌∙◌, ◌-◌, List, Some, ap, slice_get, slice_get-get_or, subst, sym}
use Rattle.measures.specs.declared.field.CountField.{CountField}
use Rattle.measures.proofs.Values.{digit_said}
use Rattle.measures.proofs.value.ProposedValue.digit.Goals as goal

pub returns-in-Some : goal.returns-in-Some
returns-in-Some c =
    let k = c.args.digit - 1 in
    let lookup = c.in-Some.ensures.lookup in
    let field : CountField = c.in-Some.field.now in
    let here : slice_get c.deref.result.now k ≡ Some field = slice_get-get_or c.deref.result.now k field lookup.3.0 ∙ ap Some (sym lookup.1) in
    c.count.ensures ∙ digit_said c.args.self c.args.digit field c.if-digit-eq0.false c.if-not-self.true
    (subst (λ (fields : List CountField). slice_get fields k ≡ Some field) c.deref.ensures.0 here)
