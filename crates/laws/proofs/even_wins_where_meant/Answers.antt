use Rattle.laws.proofs.Decided as law
use Rattle.laws.proofs.even_wins_where_meant.Goals as goal

pub returns : goal.returns
returns c = record { node = law.even_wins_where_meant; root = law.even_wins_formula }
