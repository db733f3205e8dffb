use Rattle.std.proofs.Common.{◌+◌, ◌/◌, ap, arith, sym, ◌∙◌}
use Rattle.game.specs.Game.{greatest}
use Rattle.game.proofs.Greatest.{greatest_limit}
use Rattle.measures.proofs.Components.{odd_down_long}
use Rattle.evidence.specs.Evidence.{counted}
use Rattle.evidence.proofs.Shifted.{even_down_long}
use Rattle.evidence.proofs.evidence.width.Goals as goal
use Rattle.std.specs.Prelude.{length}

pub returns-in-Even-clause-width : goal.returns-in-Even-clause-width
returns-in-Even-clause-width c =
    ap (λ k. (k + 1) / 2) c.greatest_priority-greatest.ensures
    ∙ (sym (odd_down_long (greatest c.args.game.now)) ∙ ap (λ p. length (counted p c.args.game.now)) (sym c.in-Even.is))

pub returns-in-Even-clause-few : goal.returns-in-Even-clause-few
returns-in-Even-clause-few c = let l = greatest_limit c.args.game.now c.known.ensures in let e = c.greatest_priority-greatest.ensures in omega arith

pub returns-in-Odd-clause-width : goal.returns-in-Odd-clause-width
returns-in-Odd-clause-width c =
    ap (λ k. k / 2 + 1) c.greatest_priority-greatest.ensures
    ∙ (sym (even_down_long (greatest c.args.game.now)) ∙ ap (λ p. length (counted p c.args.game.now)) (sym c.in-Odd.is))

pub returns-in-Odd-clause-few : goal.returns-in-Odd-clause-few
returns-in-Odd-clause-few c = let l = greatest_limit c.args.game.now c.known.ensures in let e = c.greatest_priority-greatest.ensures in omega arith
