use Rattle.measures.proofs.Common.{◌≡◌, ◌∙◌, ap, length, subst, sym, true, false, LiesBelow, opening, value_at}
use Rattle.measures.proofs.Plain.{opening_below, opening_is, padded_zeros}
use Rattle.measures.proofs.table.opening_value.Goals as goal

pub returns-then-turns_odd-clause-below : goal.returns-then-turns_odd-clause-below
returns-then-turns_odd-clause-below c =
    let g = c.args.game.now in
    let is : c.top.result ≡ value_at (opening g) c.args.v = c.top.ensures ∙ sym (opening_is g c.args.v true (rw c.if-turns_odd.true at c.turns_odd.ensures)) in
    subst (LiesBelow g c.args.v) (sym is) (opening_below g c.args.v c.known.ensures c.requires)

pub returns-else-turns_odd-clause-value : goal.returns-else-turns_odd-clause-value
returns-else-turns_odd-clause-value c =
    let g = c.args.game.now in
    padded_zeros g c.new.result.items c.len.result c.padded.result c.new.ensures (c.len.ensures.value ∙ ap length c.bounds.ensures) c.padded.ensures
    ∙ sym (opening_is g c.args.v false (rw c.if-turns_odd.false at c.turns_odd.ensures))

pub returns-else-turns_odd-clause-below : goal.returns-else-turns_odd-clause-below
returns-else-turns_odd-clause-below c =
    subst (LiesBelow c.args.game.now c.args.v) (sym (returns-else-turns_odd-clause-value c)) (opening_below c.args.game.now c.args.v c.known.ensures c.requires)
