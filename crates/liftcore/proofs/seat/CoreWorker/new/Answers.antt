use Rattle.std.proofs.Common.{ap, ◌∙◌, List, Bool}
use Rattle.liftcore.specs.Core.{owing}
use Rattle.liftcore.specs.Marks.{members}
use Rattle.liftcore.proofs.Marked.{none_members}
use Rattle.liftcore.proofs.seat.CoreWorker.new.Goals as goal

pub returns-clause-idle : goal.returns-clause-idle
returns-clause-idle c = ap (λ (bs : List Bool). owing (members bs)) c.in_ok-none.ensures ∙ ap owing (none_members c.vertices.result)
