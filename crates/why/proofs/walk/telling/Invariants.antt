use Rattle.std.proofs.Common.{◌≡◌, None, length}
use Rattle.calculus.specs.Normal.{normal_nodes}
use Rattle.why.specs.Walk.{IsWalkBy, left}
use Rattle.why.proofs.walk.telling.Given as goal

abbrev pub invariant-loop-next : goal.invariant-loop-next
invariant-loop-next l = record {
  walk : IsWalkBy l.system.system (normal_nodes l.form) l.game l.evidence.evidence l.root l.walk l.next;
  end : l.next ≡ None → length l.walk.waiting.items ≡ 0;
}

abbrev pub decreases-loop-next : goal.decreases-loop-next
decreases-loop-next l = left (length l.game.vertices) l.walk l.next
