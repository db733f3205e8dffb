use Rattle.std.proofs.Common.{rules, subst, sym}
use Rattle.requests.proofs.Readings.{was_ok}
use Rattle.commands.specs.Spelled.{IsGameOf}
use Rattle.commands.proofs.solve_text.read_shared.Goals as goal

pub returns-clause-reads : goal.returns-clause-reads
returns-clause-reads g c = λ text known.
    let read = rw (was_ok _ _ c.in_ok-game.ensures.cases) at c.read_game.ensures in
    let game : IsGameOf text c.in_ok-game.game = search rules in
    subst (IsGameOf text) (sym c.in_ok-new.ensures.ok) game
