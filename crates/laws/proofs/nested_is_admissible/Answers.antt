use Rattle.laws.proofs.Nested as law
use Rattle.laws.proofs.nested_is_admissible.Goals as goal

pub returns : goal.returns
returns c = law.nested_is_admissible
