use Rattle.std.proofs.Common.{rules}
use Rattle.witness.proofs.OneWay.{one_way_all, one_way_more}
use Rattle.witness.proofs.one_way.goes_one_way.Goals as goal

pub loop-v-preserved : goal.loop-v-preserved
loop-v-preserved c =
    one_way_more c.args.game.now c.args.evidence.now.evidence c.loop-v.v c.loop-v.invariant (c.goes_one_way_from.ensures (search rules))

pub returns : goal.returns
returns c = λ _. one_way_all c.args.game.now c.args.evidence.now.evidence c.loop-v.v (search rules) c.loop-v.invariant
