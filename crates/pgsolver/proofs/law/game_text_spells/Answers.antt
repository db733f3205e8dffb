use Rattle.pgsolver.proofs.Canonical as canonical
use Rattle.pgsolver.proofs.law.game_text_spells.Goals as goal

pub returns : goal.returns
returns c = canonical.canon_spells
