use Rattle.std.proofs.Common.{◌≡◌, ◌+◌, ◌-◌, ◌++◌, length, map, ap, sym, ◌∙◌, arith, append-nil}
use Rattle.calculus.specs.Normal.{normal_nodes}
use Rattle.measures.specs.Measure.{odd_down}
use Rattle.measures.proofs.Components.{map_odd_down}
use Rattle.rankings.proofs.Bounding.{are_bounds, bound_at, even_down, form_low}
use Rattle.rankings.proofs.least.bounds_for.Goals as goal

pub overflow_step-p : goal.overflow_step-p
overflow_step-p c = omega (arith, form_low (normal_nodes c.args.form.now) c.known.ensures, c.greatest.ensures, c.risen-risen.ensures.few)

pub loop-p-init : goal.loop-p-init
loop-p-init c =
    let f = bound_at c.args.states (normal_nodes c.args.form.now) c.risen-risen.result in
    let low = form_low (normal_nodes c.args.form.now) c.known.ensures in
    let top = c.greatest.ensures in
    let one = c.risen-risen.ensures.few in
    let none = ap length c.new-bounds.ensures in
    record {
      rest = λ i. c.new-bounds.ensures i ++ map f (odd_down (c.greatest.ensures i + c.risen-risen.result));
      few = omega arith;
    }

pub loop-p-preserved-then-p-eq0 : goal.loop-p-preserved-then-p-eq0
loop-p-preserved-then-p-eq0 c = record {
  rest = rw (c.push.ensures.items, c.nodes_with.ensures) (map_odd_down (bound_at c.args.states (normal_nodes c.args.form.now) c.risen-risen.result)
      (c.loop-p.p - 1) c.loop-p.p c.loop-p.bounds.items _ (omega arith) c.if-p-eq0.true c.loop-p.invariant.rest);
  few = let n = c.push.ensures.len in let old = c.loop-p.invariant.few in omega arith;
}

pub loop-p-preserved : goal.loop-p-preserved
loop-p-preserved c = record {
  rest = even_down (bound_at c.args.states (normal_nodes c.args.form.now) c.risen-risen.result) c.loop-p.p c.loop-p.bounds.items _ (omega arith)
      c.if-p-eq0.false c.loop-p.invariant.rest;
  few = let old = c.loop-p.invariant.few in omega arith;
}

pub returns : goal.returns
returns c = λ l same.
    let f = bound_at c.args.states (normal_nodes c.args.form.now) c.risen-risen.result in
    let z : 0 ≡ c.loop-p.p = omega arith in
    are_bounds c.args.player l (normal_nodes c.args.form.now) c.args.states c.risen-risen.result c.loop-p.bounds.items c.requires.some same
    c.risen-risen.ensures.value
    (sym (append-nil c.loop-p.bounds.items) ∙ (ap (λ q. c.loop-p.bounds.items ++ map f (odd_down q)) z ∙ c.loop-p.invariant.rest))
