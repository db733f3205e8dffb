use Rattle.std.proofs.Common.{◌≡◌, ◌-◌, ◌<◌, subst, sym, refl, take, drop, map, arith}
use Rattle.systems.specs.Numbered.{Numbered, arrow_of, arrows_from}
use Rattle.systems.specs.View.{numbered, labels_of}
use Rattle.systems.proofs.Rows.{row_is, row_rises}
use Rattle.systems.proofs.system.Lts.from.Goals as goal

pub returns-clause-arrows : goal.returns-clause-arrows
returns-clause-arrows c =
    let i = c.self.inside in
    let s = c.args.state in
    let fits : s < i.states = subst (λ (v : Numbered). s < v.system.states) (sym c.self.view_is) c.requires in
    let us = take (c.index-2.result.now - c.index.result.now) (drop c.index.result.now c.deref.result.now) in
    subst
    (λ (v : Numbered). map (arrow_of v.labels) us ≡ arrows_from v.system s)
    c.self.view_is
    (row_is (labels_of i) (numbered i).system i.starts.items i.transitions.items _ s _ _ refl (c.self.invariant.rows s fits) c.deref.ensures.value
    (omega (arith, c.self.invariant.starts)) c.index.ensures c.index-2.ensures)

pub slice_bounds-result-count : goal.slice_bounds-result-count
slice_bounds-result-count c =
    let fits : c.args.state < c.self.inside.states = subst (λ (v : Numbered). c.args.state < v.system.states) (sym c.self.view_is) c.requires in
    row_rises c.self.inside.starts.items c.self.inside.transitions.items c.args.state _ _ (c.self.invariant.rows c.args.state fits)
    (omega (arith, c.self.invariant.starts)) c.index.ensures c.index-2.ensures
