use Rattle.std.proofs.Common.{rules, sym, subst}
use Rattle.text.proofs.PassedOn.{passed_on}
use Rattle.calculus.specs.Tree.{Formula}
use Rattle.formula.specs.Spells.{SpellsWithin}
use Rattle.calculus.specs.Admitted.{IsAdmitted}
use Rattle.formula.proofs.Refusals.{promised}
use Rattle.formula.proofs.reader.parse.Goals as goal

pub new-requires : goal.new-requires
new-requires c = c.in_ok-tree.ensures.1

pub returns : goal.returns
returns c = promised c.args.text.now _ (subst (λ (f : Formula). SpellsWithin c.args.text.now f × IsAdmitted f) (sym c.in_ok-new.ensures) c.in_ok-tree.ensures) tt

pub returns-in_err-tree : goal.returns-in_err-tree
returns-in_err-tree c = promised c.args.text.now c.from_residual.result (search rules) (passed_on _ _ _ c.from_residual.ensures.1 c.in_err-tree.ensures)
