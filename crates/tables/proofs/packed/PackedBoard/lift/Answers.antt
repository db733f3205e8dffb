use Rattle.std.proofs.Common.{◌++◌, refl}
use Rattle.measures.specs.Lifting.{of_rank}
use Rattle.measures.specs.Measure.{IsAtMost}
use Rattle.measures.specs.Progress.{greater_of, value_at}
use Rattle.measures.proofs.Measures.{at_most_trans}
use Rattle.measures.proofs.Monotone.{greater_has}
use Rattle.measures.proofs.Rising.{under_trans}
use Rattle.tables.specs.Seats.{board_game, seen}
use Rattle.tables.proofs.Doing.{did_both}
use Rattle.tables.proofs.packed.PackedBoard.lift.Goals as goal

pub returns-clause-kept : goal.returns-clause-kept
returns-clause-kept c = under_trans (seen c.args.seat.now) (seen c.best_rank-best.new.seat)
    (seen c.raise_to.new.seat) c.best_rank-best.ensures.kept c.raise_to.ensures.kept

pub returns-clause-lifted : goal.returns-clause-lifted
returns-clause-lifted c = λ r lift.
    let first = seen c.args.seat.now in
    let now = seen c.raise_to.new.seat in
    let own = value_at first c.args.v in
    let best = of_rank (board_game c.args.self.now) c.best_rank-best.result in
    let kept = under_trans first (seen c.best_rank-best.new.seat) now c.best_rank-best.ensures.kept c.raise_to.ensures.kept in
    at_most_trans r (greater_of own best) (value_at now c.args.v) (c.best_rank-best.ensures.over r lift)
    (greater_has (λ m. IsAtMost m (value_at now c.args.v)) own best (kept c.args.v) c.raise_to.ensures.raised)

pub returns-clause-turn : goal.returns-clause-turn
returns-clause-turn c =
    let asked = c.best_rank-best.ensures.asked in
    let rose = c.raise_to.ensures.rose in (
      asked.0 ++ rose.0,
      did_both c.args.seat.now c.best_rank-best.new.seat c.raise_to.new.seat asked.0 rose.0 asked.1 rose.1,
      record {
        asked = of_rank (board_game c.args.self.now) c.best_rank-best.result;
        asking = asked.0;
        raising = rose.0;
        whole = refl;
        asks = asked.2;
        raises = rose.2;
      },
    )
