use Rattle.std.proofs.Common.{true, sym}
use Rattle.normal.proofs.Counts.{norm_size}
use Rattle.normal.proofs.law.count_is_size.Goals as goal

pub returns : goal.returns
returns c = λ f. sym (norm_size true (λ _. 0) f 0)
