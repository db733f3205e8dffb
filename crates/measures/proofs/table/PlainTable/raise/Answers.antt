use Rattle.measures.proofs.Common.{ap, arith, length, slice_set, subst, sym, ◌<◌, ◌≡◌, ◌∙◌, is_lt, IsAtMost, LiesBelow, Rows, GameTable, value_at}
use Rattle.measures.proofs.Measures.{below_at_most}
use Rattle.measures.proofs.Monotone.{LiesUnder}
use Rattle.measures.proofs.Rising.{set_under}
use Rattle.measures.proofs.Plain.{measure_width, set_stored, stored_width}
use Rattle.measures.proofs.table.PlainTable.raise.Goals as goal

pub invariant_of-self : goal.invariant_of-self
invariant_of-self c =
    let i = c.self.inside in
    let inside = subst (λ (t : GameTable). c.args.v < length t.game.vertices) (sym c.self.view_is) c.requires.vertex in
    let below = subst (λ (t : GameTable). LiesBelow t.game c.args.v c.args.m.now) (sym c.self.view_is) c.requires.below in
    set_stored i.of.value i.pending c.note.new.self i.bounds.items i.rows c.set.new.self c.args.v c.args.m.now c.self.invariant inside below c.set.ensures
    c.note.ensures

pub set-requires-clause-width : goal.set-requires-clause-width
set-requires-clause-width c =
    let i = c.self.inside in
    let below = subst (λ (t : GameTable). LiesBelow t.game c.args.v c.args.m.now) (sym c.self.view_is) c.requires.below in
    measure_width i.of.value i.rows.width c.args.m.now
    (stored_width i.of.value i.pending i.bounds.items i.rows.width i.rows.values c.self.invariant) below.measure

pub returns-then-is_lt-clause-kept : goal.returns-then-is_lt-clause-kept
returns-then-is_lt-clause-kept c =
    let rows = c.self.inside.rows in
    let m = c.args.m.now in
    let inside = subst (λ (t : GameTable). c.args.v < length t.game.vertices) (sym c.self.view_is) c.requires.vertex in
    let there : c.args.v < length rows.values = let long = c.self.invariant.plain.long in omega (arith, inside, long) in
    let low : IsAtMost (value_at rows.values c.args.v) m = below_at_most (value_at rows.values c.args.v) m
    (ap is_lt (sym c.compare_with.ensures) ∙ (sym c.is_lt.ensures ∙ c.if-is_lt.true)) in
    let new : c.set.new.self.values ≡ slice_set rows.values c.args.v m = ap (λ (r : Rows). r.values) c.set.ensures in
    subst (λ (t : GameTable). LiesUnder t.values c.set.new.self.values) c.self.view_is
    (subst (LiesUnder rows.values) (sym new) (set_under rows.values c.args.v m there low))
