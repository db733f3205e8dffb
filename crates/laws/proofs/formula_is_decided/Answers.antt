use Rattle.laws.proofs.Decided as law
use Rattle.laws.proofs.formula_is_decided.Goals as goal

pub returns : goal.returns
returns c = record { least = law.nested_table_decides; wins = law.nested_wins }
