use Rattle.std.proofs.Common.{◌-◌, drop, length}
use Rattle.why.specs.Walk.{HasLetWait}
use Rattle.why.proofs.walk.let_wait.Given as goal

abbrev pub invariant-loop-k : goal.invariant-loop-k
invariant-loop-k l = HasLetWait l.way (drop (length l.targets - l.k) l.targets) l.initial.waiting.items l.waiting.items
