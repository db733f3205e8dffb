use Rattle.formula.proofs.Spellable as spellable
use Rattle.formula.proofs.law.formula_text_spells.Goals as goal

pub returns : goal.returns
returns c = spellable.canon_spells
