use Rattle.pgsolver.proofs.Decided.{decided}
use Rattle.pgsolver.proofs.law.game_text_is_decided.Goals as goal

pub returns : goal.returns
returns c = decided
