use Rattle.std.proofs.Common.{inr, rules}
use Rattle.text.proofs.Writing.{Stays-refl}
use Rattle.requests.proofs.Readings.{was_ok, was_turned}
use Rattle.commands.specs.Spelled.{IsEvidenceOf, IsEvidenceTold, IsGameOf}
use Rattle.commands.proofs.verify_text.verify_both_text.Goals as goal

pub returns-in_err-second-clause-verifies : goal.returns-in_err-second-clause-verifies
returns-in_err-second-clause-verifies g c = λ first second third a b d.
    let read = rw (was_ok _ _ c.in_ok-game.ensures.cases) at c.read_game.ensures in
    let game : IsGameOf first c.in_ok-game.game = search rules in
    let then = rw (was_ok _ _ c.in_ok-first.ensures.cases) at c.read_evidence.ensures in
    let one : IsEvidenceOf c.in_ok-game.game second c.in_ok-first.first.evidence = search rules in
    let t = was_turned _ _ _ _ c.in_err-second.ensures.cases c.from_residual-in_err-second.ensures.1 in
    let also = rw t.1 at c.read_evidence-2.ensures in
    let told : IsEvidenceTold c.in_ok-game.game third t.0 = search rules in
    rw t.2 (inr (record { g = c.in_ok-game.game; f = c.in_ok-first.first.evidence; game = game; one = one; told = told }), Stays-refl _)

pub returns-clause-verifies : goal.returns-clause-verifies
returns-clause-verifies g c = λ first second third a b d.
    let read = rw (was_ok _ _ c.in_ok-game.ensures.cases) at c.read_game.ensures in
    let game : IsGameOf first c.in_ok-game.game = search rules in
    let then = rw (was_ok _ _ c.in_ok-first.ensures.cases) at c.read_evidence.ensures in
    let one : IsEvidenceOf c.in_ok-game.game second c.in_ok-first.first.evidence = search rules in
    let also = rw (was_ok _ _ c.in_ok-second.ensures.cases) at c.read_evidence-2.ensures in
    let other : IsEvidenceOf c.in_ok-game.game third c.in_ok-second.second.evidence = search rules in
    c.judge_both.ensures.answers first second third game one other
