use Rattle.std.proofs.Common.{◌≡◌, count_by, take}
use Rattle.std.specs.Option.{is_some}
use Rattle.evidence.proofs.evidence.Evidence.len.Given as goal

abbrev pub invariant-loop-v : goal.invariant-loop-v
invariant-loop-v l = l.count ≡ count_by is_some (take l.v l.self-inside.entries.entries)
