use Rattle.pgsolver.proofs.Unique as unique
use Rattle.pgsolver.proofs.law.one_game.Goals as goal

pub returns : goal.returns
returns c = unique.one_game
