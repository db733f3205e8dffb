use Rattle.measures.proofs.NotBoth.{not_both_win}
use Rattle.laws.proofs.games.not_both_win.Goals as goal

abbrev pub returns : goal.returns
returns c = λ g v w o. not_both_win g v w o
