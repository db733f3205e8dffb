use Rattle.std.proofs.Common.{rules}
use Rattle.requests.proofs.Readings.{was_ok}
use Rattle.commands.specs.Spelled.{IsEvidenceOf, IsGameOf}
use Rattle.commands.proofs.verify_text.verify_text.Goals as goal

pub returns-clause-verifies : goal.returns-clause-verifies
returns-clause-verifies g c = λ first second a b.
    let read = rw (was_ok _ _ c.in_ok-game.ensures.cases) at c.read_game.ensures in
    let game : IsGameOf first c.in_ok-game.game = search rules in
    let also = rw (was_ok _ _ c.in_ok-evidence.ensures.cases) at c.read_evidence.ensures in
    let evidence : IsEvidenceOf c.in_ok-game.game second c.in_ok-evidence.evidence.evidence = search rules in
    c.judge.ensures.answers first second game evidence
