use Rattle.std.proofs.Common.{subst, sym}
use Rattle.game.specs.Game.{IsGame}
use Rattle.measures.specs.Tables.{IsSettled}
use Rattle.liftcore.specs.Core.{Core}
use Rattle.liftcore.specs.Seats.{core_of}
use Rattle.liftcore.proofs.Reached.{reached_quiet}
use Rattle.liftcore.proofs.machine.Core.is_quiet.Goals as goal

pub returns-clause-settled : goal.returns-clause-settled
returns-clause-settled c = λ t. subst (λ (k : Core). IsSettled k.table) c.self.view_is
    (reached_quiet (core_of c.self.inside.state) (subst IsGame (sym c.self.invariant.0.game) c.known.ensures) c.self.invariant.1 (c.is_quiet.ensures.0 t))
