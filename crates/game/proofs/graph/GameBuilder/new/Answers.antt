use Rattle.game.proofs.Common.{arith, get_or-replicate}
use Rattle.game.proofs.graph.GameBuilder.new.Goals as goal

pub invariant_of-result : goal.invariant_of-result
invariant_of-result c =
    record {
      limit = rw c.new.ensures.items (omega arith);
      stored = rw (c.new.ensures.items, c.new-2.ensures.items) (record { within = tt; counted = λ p k. get_or-replicate 33 p 0 0 (omega arith) });
    }
