use Rattle.normal.proofs.Depth as depth
use Rattle.normal.proofs.law.priority_within_depth.Goals as goal

pub returns : goal.returns
returns c = depth.priority_within_depth
