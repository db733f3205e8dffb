use Rattle.formula.proofs.Spellable as spellable
use Rattle.formula.proofs.law.canon_spells_within.Goals as goal

pub returns : goal.returns
returns c = spellable.canon_within
