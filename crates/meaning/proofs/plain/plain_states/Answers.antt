use Rattle.std.proofs.Common.{◌∙◌, subst}
use Rattle.calculus.specs.Tree.{Formula}
use Rattle.calculus.specs.Admitted.{IsAdmitted}
use Rattle.calculus.specs.Meaning.{MarksOf, Satisfies}
use Rattle.meaning.proofs.Extremes.{is_least, is_greatest}
use Rattle.meaning.proofs.plain.plain_states.Goals as goal

pub returns-clause-least : goal.returns-clause-least
returns-clause-least c = λ name f is.
    is_least c.args.lts.now.system c.marks_of-found.ensures.known name f c.in_ok-found.field-0.items (subst IsAdmitted is c.args.formula.now.admitted)
    (subst (λ (g : Formula). MarksOf c.args.lts.now.system.states c.in_ok-found.field-0.items (Satisfies c.args.lts.now.system g))
    (c.in_ok-term.ensures.formula ∙ c.tree.ensures ∙ is) c.in_ok-found.ensures.marks)

pub returns-clause-greatest : goal.returns-clause-greatest
returns-clause-greatest c = λ name f is.
    is_greatest c.args.lts.now.system c.marks_of-found.ensures.known name f c.in_ok-found.field-0.items (subst IsAdmitted is c.args.formula.now.admitted)
    (subst (λ (g : Formula). MarksOf c.args.lts.now.system.states c.in_ok-found.field-0.items (Satisfies c.args.lts.now.system g))
    (c.in_ok-term.ensures.formula ∙ c.tree.ensures ∙ is) c.in_ok-found.ensures.marks)
