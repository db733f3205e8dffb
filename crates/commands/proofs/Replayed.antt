-- What is told of a replay whose system, formula or game is refused.
use Rattle.std.proofs.Common.{ℕ, List, []}
use Rattle.systems.specs.System.{System}
use Rattle.calculus.specs.Tree.{Formula}
use Rattle.requests.specs.Check.{AreSpelled, HasNoGame, IsBeyond, RefusesCheck}
use Rattle.requests.specs.declared.error.MuError.{MuError}
use Rattle.requests.specs.declared.error.MuError.TheVariants as error
use Rattle.commands.specs.Replays.{RefusesReplay, way}

-- It is what a check tells that lends no writer.
pub refused_before : (workers : ℕ) (first second third : List ℕ) (e : MuError) → RefusesCheck way first second [] e → RefusesReplay workers first second third e
refused_before workers first second third (error.Schedule e) h = absurd h
refused_before workers first second third e h = h

-- So where there is no game.
pub refused_beyond : (first second : List ℕ) (l : System) (f : Formula) (e : MuError) → AreSpelled first second l f → IsBeyond way l f e
    → RefusesCheck way first second [] e
refused_beyond first second l f e spelled h = by e h
  where
    none : (e : MuError) → IsBeyond way l f e → HasNoGame way first second e
    none e h = record { l = l; f = f; spelled = spelled; beyond = h }

    by : (e : MuError) → IsBeyond way l f e → RefusesCheck way first second [] e
    by error.Memory h = ((l, spelled.system.spelled), tt)
    by (error.Normal d) h = (none (error.Normal d) h, tt)
    by (error.Build d) h = (none (error.Build d) h, tt)
    by (error.Table d) h = (none (error.Table d) h, tt)
    by (error.Solve d) h = (none (error.Solve d) h, tt)
    by e h = absurd h
