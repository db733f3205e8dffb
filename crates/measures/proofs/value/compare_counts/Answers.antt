use Rattle.measures.proofs.Common.{◌∙◌, ap₂, nat_cmp, sym}
use Rattle.measures.specs.declared.field.CountField.{CountField}
use Rattle.measures.proofs.Values.{agrees, all_agree, differs}
use Rattle.measures.proofs.value.compare_counts.Goals as goal

pub returns-then-is_ne : goal.returns-then-is_ne
returns-then-is_ne c =
    let none : CountField = record { left = 0; right = 0 } in
    differs c.args.fields.now c.args.number c.args.other c.loop-field.field-index none c.loop-field-test.true c.loop-field.invariant c.cmp-order.result
    (c.cmp-order.ensures ∙ ap₂ nat_cmp c.count.ensures c.count-in-loop-field.ensures) (sym c.is_ne.ensures ∙ c.if-is_ne.true)

pub loop-field-preserved : goal.loop-field-preserved
loop-field-preserved c =
    let none : CountField = record { left = 0; right = 0 } in
    agrees c.args.fields.now c.args.number c.args.other c.loop-field.field-index none c.loop-field-test.true c.loop-field.invariant c.cmp-order.result
    (c.cmp-order.ensures ∙ ap₂ nat_cmp c.count.ensures c.count-in-loop-field.ensures) (sym c.is_ne.ensures ∙ c.if-is_ne.false)

pub returns : goal.returns
returns c = all_agree c.args.fields.now c.args.number c.args.other c.loop-field.field-index c.loop-field-test.false c.loop-field.invariant
