use Rattle.game.proofs.Common.{◌≡◌, ◌++◌, Bool, List, [], Vec, Global, length, length-append, length-take, map, slice_index_or, subst, sym, ap, ◌∙◌, arith}
use Rattle.game.proofs.Common.{get_or-map, length-map, take_all, Transition, node_of, normal_nodes, vertex_of, IsSetFor, IsRowOf, picks, is_in, vertex_by}
use Rattle.game.proofs.Steps.{inside_below, node_numbered, vertex_is}
use Rattle.game.proofs.Arenas.{vertices_more}
use Rattle.game.proofs.build.push_state.Goals as goal

pub loop-number-preserved : goal.loop-number-preserved
loop-number-preserved c =
    let l = c.args.lts.now in
    let nodes = normal_nodes c.args.form.now in
    let i = c.loop-number.number in
    let node = node_of c.node.result.now in
    let set = c.as_slice-set.result.now in
    let there : slice_index_or (map (λ (s : Vec Bool Global). s.items) c.args.sets.now) i [] ≡ set =
    get_or-map (λ (s : Vec Bool Global). s.items) c.args.sets.now i c.index-sets-number.result []
    (omega (arith, c.loop-number-test.true, c.requires.count, c.count-nodes.ensures.count))
    ∙ (ap (λ (s : Vec Bool Global). s.items) (sym c.index-sets-number.is) ∙ sym c.as_slice-set.ensures.value)
    in
    let passes : IsSetFor l.labels node.shape set = subst (IsSetFor l.labels node.shape) there (c.requires.sets i node c.node.ensures) in
    let row = c.deref.result.now in
    let of_state = subst (λ (ts : List Transition). IsRowOf l c.args.state ts) (sym c.deref.ensures.value) c.in_ok-by_target.ensures in
    let count : c.count-nodes.result ≡ length nodes = c.count-nodes.ensures.count in
    let is : vertex_by c.count-nodes.result c.args.state (picks (is_in set) 0 row) node ≡ vertex_of l.system (length nodes) c.args.state node =
    ap (λ n. vertex_by n c.args.state (picks (is_in set) 0 row) node) count ∙ vertex_is l (length nodes) c.args.state set row node of_state passes
    in
    vertices_more (vertex_of l.system
    (length nodes) c.args.state) nodes i node _ c.args.builder.now c.loop-number.builder c.push_node.new.builder c.node.ensures c.loop-number.invariant
    c.in_ok-push_node.ensures is

pub push_node-requires-clause-room : goal.push_node-requires-clause-room
push_node-requires-clause-room c =
    omega (
      arith,
      simp (length-append, length-map, length-take) at (ap length c.loop-number.invariant),
      c.requires.room,
      c.count-nodes.ensures.count,
      c.loop-number-test.true,
    )

pub push_node-requires-clause-inside : goal.push_node-requires-clause-inside
push_node-requires-clause-inside c = rw c.deref.ensures.value
    (inside_below c.args.lts.now _ (omega (arith, c.states-states.ensures.known)) c.in_ok-by_target.ensures.inside)

pub returns : goal.returns
returns c =
    let nodes = normal_nodes c.args.form.now in
    c.loop-number.invariant ∙ ap (λ ns. c.args.builder.now ++ map (vertex_of c.args.lts.now.system (length nodes) c.args.state) ns)
    (take_all c.loop-number.number nodes (omega (arith, c.count-nodes.ensures.count, c.loop-number-test.false)))

pub push_node-requires-clause-node : goal.push_node-requires-clause-node
push_node-requires-clause-node c = node_numbered (normal_nodes c.args.form.now) c.count-nodes.result c.loop-number.number
    (node_of c.node.result.now) c.known.ensures c.count-nodes.ensures.count c.node.ensures
