use Rattle.std.proofs.Common.{◌≡◌, length}
use Rattle.why.proofs.Heads.{AreSoFar}
use Rattle.why.proofs.setting.heads.Given as goal

abbrev pub invariant-loop-visit : goal.invariant-loop-visit
invariant-loop-visit l = record {
  long : length l.heads.items ≡ length l.visits;
  marks : AreSoFar l.visits l.heads.items l.visit-index;
}
