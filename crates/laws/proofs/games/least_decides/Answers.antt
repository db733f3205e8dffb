use Rattle.measures.proofs.LeastDecides.{least_decides}
use Rattle.laws.proofs.games.least_decides.Goals as goal

abbrev pub returns : goal.returns
returns c = λ g game table is v. least_decides g game table is v
