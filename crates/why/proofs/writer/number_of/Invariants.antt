use Rattle.std.proofs.Common.{◌≡◌, ◌+◌, drop}
use Rattle.calculus.specs.Normal.{normal_nodes}
use Rattle.why.specs.Story.{number_from}
use Rattle.why.proofs.writer.number_of.Given as goal

abbrev pub invariant-loop-v : goal.invariant-loop-v
invariant-loop-v l = record {
  number : l.number ≡ 1 + l.v-index;
  is : number_from (normal_nodes l.story.normal.now) 1 l.long l.modality
      ≡ number_from (normal_nodes l.story.normal.now) l.number (drop l.v-index l.long) l.modality;
}
