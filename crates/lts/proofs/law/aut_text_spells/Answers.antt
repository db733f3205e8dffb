use Rattle.lts.proofs.Canonical as canonical
use Rattle.lts.proofs.law.aut_text_spells.Goals as goal

pub returns : goal.returns
returns c = canonical.canon_spells
