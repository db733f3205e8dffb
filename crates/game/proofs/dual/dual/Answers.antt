use Rattle.std.proofs.Common.{None, List, arith, ap, ◌∙◌}
use Rattle.game.specs.Game.{Vertex}
use Rattle.game.proofs.Duals.{successors_few, turned_game, turned_more, turned_whole}
use Rattle.game.proofs.dual.dual.Goals as goal

pub push-requires-clause-few : goal.push-requires-clause-few
push-requires-clause-few c = successors_few c.args.game.now c.loop-v.v (omega arith) c.known.ensures c.successors.result.now c.successors.ensures

pub loop-v-preserved : goal.loop-v-preserved
loop-v-preserved c =
    let new = rw c.opponent-owner.ensures at c.in_ok-push.ensures.ok in
    turned_more c.args.game.now c.loop-v.v
    (omega arith) c.owner.result c.priority.result c.successors.result.now c.loop-v.builder _ c.owner.ensures c.priority.ensures c.successors.ensures
    c.loop-v.invariant new

pub into_game-requires : goal.into_game-requires
into_game-requires c =
    turned_game c.args.game.now c.loop-v.builder c.known.ensures c.requires
    (turned_whole c.args.game.now c.loop-v.v c.loop-v.builder (omega arith) c.loop-v.invariant)

pub returns-clause-game : goal.returns-clause-game
returns-clause-game c =
    c.into_game.ensures ∙ ap (λ (vs : List Vertex). record { vertices = vs; named = None })
    (turned_whole c.args.game.now c.loop-v.v c.loop-v.builder (omega arith) c.loop-v.invariant)
