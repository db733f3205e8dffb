use Rattle.std.proofs.Common.{◌+◌, ◌≡◌, ℕ, length, map, sym, subst, ap, arith, ◌∙◌, List}
use Rattle.std.proofs.Common.{Bool, Vec, Global}
use Rattle.systems.specs.declared.system.Transition.{Transition}
use Rattle.calculus.specs.Normal.{normal_nodes}
use Rattle.calculus.specs.NodeView.{node_of}
use Rattle.game.specs.Arena.{place}
use Rattle.game.specs.Lent.{lent_vertex}
use Rattle.game.specs.Steps.{IsRowOf}
use Rattle.rankings.specs.Least.{AreTestedTo, IsTestedAt, tested_arena}
use Rattle.game.proofs.Steps.{inside_below}
use Rattle.rankings.proofs.Proposed.{seen, set_there, tested_more}
use Rattle.rankings.proofs.least.LeastTest.test_state.Goals as goal

pub vertex_in-requires-clause-inside : goal.vertex_in-requires-clause-inside
vertex_in-requires-clause-inside c = rw c.deref.ensures.value
    (inside_below c.args.self.now.lts.now _ (omega (arith, c.states-states.ensures.known)) c.in_ok-by_target.ensures.inside)

pub good_move-requires-clause-inside : goal.good_move-requires-clause-inside
good_move-requires-clause-inside c =
    let t = c.args.self.now in
    let number = c.loop-number.number in
    let there = set_there t.sets.now number c.index-self-number.result c.as_slice-set.result.now
    (omega (arith, c.loop-number-test.true, c.requires.known.count, c.count-nodes.ensures.count)) c.index-self-number.is
    (c.as_slice-set.ensures.value ∙ ap (λ (s : Vec Bool Global). s.items) (sym c.index-self-number.is)) in
    let of_state = subst (λ (ts : List Transition). IsRowOf t.lts.now c.args.state ts) (sym c.deref.ensures.value) c.in_ok-by_target.ensures in
    let at = seen t.proposals.now t.lts.now (normal_nodes t.form.now) (map (λ (s : Vec Bool Global). s.items) t.sets.now) c.count-nodes.result c.args.state
    number c.as_slice-set.result.now c.deref.result.now (node_of c.node-node.result.now) (lent_vertex c.in_ok-vertex.vertex) c.known.ensures
    c.requires.known.few c.requires.known.long c.requires.state c.requires.known.sets there c.count-nodes.ensures.count c.node-node.ensures of_state
    c.in_ok-vertex.ensures in
    at.within

pub good_move-requires-clause-few : goal.good_move-requires-clause-few
good_move-requires-clause-few c =
    let t = c.args.self.now in
    let number = c.loop-number.number in
    let there = set_there t.sets.now number c.index-self-number.result c.as_slice-set.result.now
    (omega (arith, c.loop-number-test.true, c.requires.known.count, c.count-nodes.ensures.count)) c.index-self-number.is
    (c.as_slice-set.ensures.value ∙ ap (λ (s : Vec Bool Global). s.items) (sym c.index-self-number.is)) in
    let of_state = subst (λ (ts : List Transition). IsRowOf t.lts.now c.args.state ts) (sym c.deref.ensures.value) c.in_ok-by_target.ensures in
    let at = seen t.proposals.now t.lts.now (normal_nodes t.form.now) (map (λ (s : Vec Bool Global). s.items) t.sets.now) c.count-nodes.result c.args.state
    number c.as_slice-set.result.now c.deref.result.now (node_of c.node-node.result.now) (lent_vertex c.in_ok-vertex.vertex) c.known.ensures
    c.requires.known.few c.requires.known.long c.requires.state c.requires.known.sets there c.count-nodes.ensures.count c.node-node.ensures of_state
    c.in_ok-vertex.ensures in
    at.low

pub loop-number-preserved : goal.loop-number-preserved
loop-number-preserved c =
    let t = c.args.self.now in
    let number = c.loop-number.number in
    let n = length (normal_nodes t.form.now) in
    let there = set_there t.sets.now number c.index-self-number.result c.as_slice-set.result.now
    (omega (arith, c.loop-number-test.true, c.requires.known.count, c.count-nodes.ensures.count)) c.index-self-number.is
    (c.as_slice-set.ensures.value ∙ ap (λ (s : Vec Bool Global). s.items) (sym c.index-self-number.is)) in
    let of_state = subst (λ (ts : List Transition). IsRowOf t.lts.now c.args.state ts) (sym c.deref.ensures.value) c.in_ok-by_target.ensures in
    let at = seen t.proposals.now t.lts.now (normal_nodes t.form.now) (map (λ (s : Vec Bool Global). s.items) t.sets.now) c.count-nodes.result c.args.state
    number c.as_slice-set.result.now c.deref.result.now (node_of c.node-node.result.now) (lent_vertex c.in_ok-vertex.vertex) c.known.ensures
    c.requires.known.few c.requires.known.long c.requires.state c.requires.known.sets there c.count-nodes.ensures.count c.node-node.ensures of_state
    c.in_ok-vertex.ensures in
    let v : ℕ = place c.count-nodes.result c.args.state number in
    let here : IsTestedAt t.proposals.now (tested_arena t) v c.in-Some.next = c.in-Some.ensures (tested_arena t) at.is c.requires.known.even c.requires.known.odd in
    let same : v ≡ place n c.args.state number = ap (λ m. place m c.args.state number) c.count-nodes.ensures.count in
    let next : place n c.args.state number + 1 ≡ place n c.args.state (number + 1) = omega arith in
    subst (λ xs. AreTestedTo t xs (place n c.args.state (number + 1))) (sym c.in_ok-push-in-Some.ensures.items)
    (subst (AreTestedTo t _) next (tested_more t c.loop-number.moves.items (place n c.args.state number) c.in-Some.next c.loop-number.invariant
    (subst (λ u. IsTestedAt t.proposals.now (tested_arena t) u c.in-Some.next) same here)))

pub returns : goal.returns
returns c = λ yes.
    let t = c.args.self.now in
    let n = length (normal_nodes t.form.now) in
    let end : place n c.args.state c.loop-number.number ≡ place n (c.args.state + 1) 0 =
    (let count = c.count-nodes.ensures.count in let past = c.loop-number-test.false in let in_end = c.loop-number.auto.number-end in omega (arith, count, past, in_end)) in
    subst (AreTestedTo t c.loop-number.moves.items) end c.loop-number.invariant
