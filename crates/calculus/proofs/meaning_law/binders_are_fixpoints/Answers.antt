use Rattle.calculus.proofs.Binders
use Rattle.calculus.proofs.meaning_law.binders_are_fixpoints.Goals as goal

pub returns : goal.returns
returns c = record { least = Binders.mu_is_least; greatest = Binders.nu_is_greatest }
