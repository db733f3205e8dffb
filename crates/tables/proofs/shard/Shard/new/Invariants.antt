use Rattle.tables.proofs.Parts.{IsFilled}
use Rattle.tables.proofs.shard.Shard.new.Given as goal

abbrev pub invariant-loop-place : goal.invariant-loop-place
invariant-loop-place g l = IsFilled l.game l.index l.shards l.place l.rows
