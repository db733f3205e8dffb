use Rattle.std.proofs.Common.{arith, ◌∙◌}
use Rattle.calculus.specs.Normal.{normal_nodes}
use Rattle.rankings.proofs.Goodness.{good_from}
use Rattle.rankings.proofs.winners.is_good.Goals as goal

pub returns-then-has_size-clause-good : goal.returns-then-has_size-clause-good
returns-then-has_size-clause-good g c = λ yes.
    good_from c.args.sheet.now c.args.lts.now.system (normal_nodes c.args.form.now) (c.has_size.ensures c.if-has_size.true ∙ c.count.ensures.count)
    c.known.ensures
    (λ s k node below at. c.are_ranked_by.ensures yes s k node (omega arith) (let e = c.states-states.ensures.count in omega arith) at)
