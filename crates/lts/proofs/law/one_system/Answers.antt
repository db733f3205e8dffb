use Rattle.lts.proofs.Unique as unique
use Rattle.lts.proofs.law.one_system.Goals as goal

pub returns : goal.returns
returns c = unique.one_system
