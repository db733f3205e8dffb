use Rattle.std.proofs.lemmas.Option.{IfSome_then}
use Rattle.std.proofs.lemmas.Result.{IfOk-weaker}
use Rattle.rankings.proofs.Proposed.{even_least, odd_least, winners_moves}
use Rattle.rankings.proofs.least.tested_moves.Goals as goal

pub returns-then-is_rising-2-clause-even : goal.returns-then-is_rising-2-clause-even
returns-then-is_rising-2-clause-even c =
    IfOk-weaker c.test_all.result _ _ (λ found all. IfSome_then found all (λ moves tested. even_least _ c.requires.few c.requires.long c.known.ensures moves.items tested (c.is_rising.ensures c.if-is_rising.true))) c.test_all.ensures

pub returns-then-is_rising-2-clause-odd : goal.returns-then-is_rising-2-clause-odd
returns-then-is_rising-2-clause-odd c =
    IfOk-weaker c.test_all.result _ _ (λ found all. IfSome_then found all (λ moves tested. odd_least _ c.requires.few c.requires.long c.known.ensures moves.items tested
    (c.is_rising-then-is_rising.ensures c.if-is_rising-2.true))) c.test_all.ensures

pub returns-then-is_rising-2-clause-moves : goal.returns-then-is_rising-2-clause-moves
returns-then-is_rising-2-clause-moves c =
    IfOk-weaker c.test_all.result _ _ (λ found all. IfSome_then found all (λ moves tested. winners_moves _ c.requires.few c.requires.long c.known.ensures moves.items tested
    (c.is_rising.ensures c.if-is_rising.true) (c.is_rising-then-is_rising.ensures c.if-is_rising-2.true))) c.test_all.ensures
