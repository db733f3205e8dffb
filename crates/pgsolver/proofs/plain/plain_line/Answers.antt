use Rattle.std.proofs.Common.{◌-◌, [], ◌∷◌, ◌++◌, ◌∙◌, ap, length, refl, subst}
use Rattle.text.proofs.Scanning.{number_here_gives}
use Rattle.pgsolver.specs.Plain.{AddsCommas}
use Rattle.pgsolver.proofs.Unspaced.{plain_is, within}
use Rattle.pgsolver.proofs.plain.plain_line.Goals as goal

pub overflow_sub-result : goal.overflow_sub-result
overflow_sub-result c =
    within c.in-Some.head c.in-Some-number_here.first c.more_targets.new.targets.items c.args.block.now c.in-Some.rest.now c.in-Some-number_here.rest.now
    c.in-Some-2.rest.now c.in-Some-tail.rest.now c.in-Some.ensures (number_here_gives _ _ _ c.in-Some-number_here.ensures)
    (subst (λ old. AddsCommas old c.more_targets.new.targets.items c.in-Some-number_here.rest.now c.in-Some-2.rest.now)
    (c.in_ok-push.ensures.items ∙ ap (λ l. l ++ c.in-Some-number_here.first ∷ []) c.clear.ensures.items) (rw c.in-Some-2.is at c.in_ok-rest.ensures))
    c.in-Some-tail.ensures

pub returns-clause-line : goal.returns-clause-line
returns-clause-line c =
    plain_is c.in-Some.head c.in-Some-number_here.first (length c.args.block.now - length c.in-Some-tail.rest.now) c.more_targets.new.targets.items
    c.args.block.now c.in-Some.rest.now c.in-Some-number_here.rest.now c.in-Some-2.rest.now c.in-Some-tail.rest.now c.in-Some.ensures
    (number_here_gives _ _ _ c.in-Some-number_here.ensures)
    (subst (λ old. AddsCommas old c.more_targets.new.targets.items c.in-Some-number_here.rest.now c.in-Some-2.rest.now)
    (c.in_ok-push.ensures.items ∙ ap (λ l. l ++ c.in-Some-number_here.first ∷ []) c.clear.ensures.items) (rw c.in-Some-2.is at c.in_ok-rest.ensures))
    c.in-Some-tail.ensures refl
