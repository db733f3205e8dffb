use Rattle.laws.proofs.Nested as law
use Rattle.laws.proofs.nodes_follow.Goals as goal

pub returns : goal.returns
returns c = law.nodes_follow
