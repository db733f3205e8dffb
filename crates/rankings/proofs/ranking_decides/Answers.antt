use Rattle.rankings.proofs.Winning.{ranking_decides}
use Rattle.rankings.proofs.ranking_decides.Goals as goal

pub returns : goal.returns
returns c = ranking_decides
