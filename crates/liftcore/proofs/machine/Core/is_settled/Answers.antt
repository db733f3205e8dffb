use Rattle.std.proofs.Common.{subst, sym}
use Rattle.game.specs.Game.{Game, IsGame}
use Rattle.measures.specs.Progress.{IsProgress}
use Rattle.measures.specs.Tables.{IsSettled}
use Rattle.liftcore.specs.Core.{Core}
use Rattle.liftcore.specs.Seats.{core_of}
use Rattle.liftcore.proofs.Reached.{reached_least}
use Rattle.liftcore.proofs.machine.Core.is_settled.Goals as goal

pub returns : goal.returns
returns c =
    let s = c.self.inside.state in
    let same = c.self.invariant.0.game in (
      λ t. subst (λ (k : Core). IsSettled k.table) c.self.view_is
          (reached_least (core_of s) (subst IsGame (sym same) c.known.ensures) c.self.invariant.1
          (subst (λ (g : Game). IsProgress g s.table.values) (sym same) (c.is_settled.ensures.0 t))),
      λ h. c.is_settled.ensures.1 (subst (λ (g : Game). IsProgress g s.table.values) same
          (subst (λ (k : Core). IsSettled k.table) (sym c.self.view_is) h).least.progress),
    )
