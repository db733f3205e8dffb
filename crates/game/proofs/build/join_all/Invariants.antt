use Rattle.game.proofs.Common.{◌≡◌, ◌++◌, length, take}
use Rattle.std.specs.List.{flat_map}
use Rattle.game.proofs.build.join_all.Given as goal

abbrev pub invariant-loop-part : goal.invariant-loop-part
invariant-loop-part l = record {
  next : (goal.iterator-loop-part).can_next l.part-iterator;
  finite : (goal.iterator-loop-part).is_finite l.part-iterator;
  joined : l.builder ≡ l.fn.first ++ flat_map (λ part. part) (take (length l.yielded) l.fn.parts.items);
}
