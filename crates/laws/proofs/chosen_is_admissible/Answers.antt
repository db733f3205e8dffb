use Rattle.laws.proofs.Dependent as law
use Rattle.laws.proofs.chosen_is_admissible.Goals as goal

pub returns : goal.returns
returns c = law.chosen_is_admissible
