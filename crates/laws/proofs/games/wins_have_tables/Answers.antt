use Rattle.measures.proofs.StrategyTable.{wins_table}
use Rattle.laws.proofs.games.wins_have_tables.Goals as goal

abbrev pub returns : goal.returns
returns c = λ g v w. wins_table g v w
