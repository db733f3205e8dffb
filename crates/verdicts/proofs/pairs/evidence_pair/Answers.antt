use Rattle.std.proofs.Common.{subst}
use Rattle.game.specs.Game.{Game}
use Rattle.requests.proofs.Readings.{ok_before}
use Rattle.verdicts.specs.Findings.{IsPairOf}
use Rattle.verdicts.proofs.pairs.evidence_pair.Goals as goal

pub returns-clause-pair : goal.returns-clause-pair
returns-clause-pair c =
    let even = c.in_ok-even.even in
    let odd = c.in_ok-odd.odd in
    let is_even = c.in_ok-even.ensures.cases in
    let is_odd = c.in_ok-odd.ensures.cases in
    let evens = c.even_evidence.ensures in
    let odds = c.odd_evidence_from.ensures in
    subst (λ (g : Game). IsPairOf g (record { even = even; odd = odd })) c.deref-game.ensures (record {
      even_game = ok_before c.even_evidence.result even _ is_even evens.game;
      even_good = ok_before c.even_evidence.result even _ is_even evens.good;
      even_exact = ok_before c.even_evidence.result even _ is_even evens.exact;
      odd_game = ok_before c.odd_evidence_from.result odd _ is_odd odds.game;
      odd_good = ok_before c.odd_evidence_from.result odd _ is_odd odds.good;
      odd_exact = ok_before c.odd_evidence_from.result odd _ is_odd odds.exact;
      even = ok_before c.even_evidence.result even _ is_even evens.even;
      odd = ok_before c.odd_evidence_from.result odd _ is_odd odds.odd;
    })
