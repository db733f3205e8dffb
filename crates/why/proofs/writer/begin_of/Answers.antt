use Rattle.std.proofs.Common.{ap, take, ◌∙◌}
use Rattle.std.proofs.lemmas.List.{take_min}
use Rattle.why.specs.declared.visit.TheConstants.{MOST_SHOWN}
use Rattle.why.proofs.writer.begin_of.Goals as goal

pub returns : goal.returns
returns c = ap (λ k. take k c.args.modality.now) c.min.ensures ∙ take_min MOST_SHOWN c.args.modality.now
