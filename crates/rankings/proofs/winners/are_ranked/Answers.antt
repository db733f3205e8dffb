use Rattle.std.proofs.Common.{◌≡◌, Bool, [], length, map, sym, ap, subst, ◌∙◌, arith, slice_index_or}
use Rattle.std.proofs.Common.{Vec, Global}
use Rattle.std.proofs.lemmas.List.{get_or-map}
use Rattle.std.proofs.lemmas.Option.{slice_get_within}
use Rattle.calculus.specs.Nodes.{Node}
use Rattle.calculus.specs.Normal.{normal_nodes}
use Rattle.calculus.specs.NodeView.{node_of}
use Rattle.game.specs.Arena.{vertex_of}
use Rattle.calculus.specs.Taken.{IsSetFor}
use Rattle.rankings.specs.Cells.{cell, ranking_of}
use Rattle.rankings.specs.Ranking.{IsRanked}
use Rattle.rankings.proofs.Rows.{more_nodes}
use Rattle.rankings.proofs.winners.are_ranked.Goals as goal

pub is_ranked-requires-clause-set : goal.is_ranked-requires-clause-set
is_ranked-requires-clause-set c =
    let l = c.args.lts.now in
    let i = c.loop-number.number in
    let node = node_of c.node.result.now in
    let there : slice_index_or (map (λ (s : Vec Bool Global). s.items) c.args.sets.now) i [] ≡ c.as_slice-set.result.now =
    get_or-map (λ (s : Vec Bool Global). s.items) c.args.sets.now i c.index-sets-number.result []
    (omega (arith, c.loop-number-test.true, c.requires.count, c.count-number-end.ensures.count))
    ∙ (ap (λ (s : Vec Bool Global). s.items) (sym c.index-sets-number.is) ∙ sym c.as_slice-set.ensures.value)
    in
    subst (IsSetFor l.labels node.shape) there (c.requires.sets i node c.node.ensures)

pub loop-number-preserved : goal.loop-number-preserved
loop-number-preserved c =
    let here = c.is_ranked.ensures c.if-not-is_ranked.false in
    λ k s node h first end at.
    more_nodes (λ j (x : Node). IsRanked (ranking_of c.args.sheet.now) (cell c.args.sheet.now j s)
    (vertex_of c.args.lts.now.system (length c.args.sheet.now.nodes) s x)) (normal_nodes c.args.form.now) c.loop-number.number (node_of c.node.result.now)
    c.node.ensures (λ j x i e. c.loop-number.invariant j s x i first end e) (here s first end) k node h at

pub returns : goal.returns
returns c = λ yes s k node first end at.
    c.loop-number.invariant k s node
    (let w = slice_get_within (normal_nodes c.args.form.now) k node at in let e = c.count-number-end.ensures.count in let t = c.loop-number-test.false in omega arith)
    first end at
