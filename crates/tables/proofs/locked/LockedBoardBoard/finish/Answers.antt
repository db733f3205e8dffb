use Rattle.std.proofs.Common.{◌∙◌, ap, inr, length, refl}
use Rattle.std.specs.List.{range_with_len}
use Rattle.game.specs.Game.{Game}
use Rattle.measures.specs.Progress.{value_at}
use Rattle.measures.proofs.Measures.{at_most_itself}
use Rattle.measures.proofs.Rising.{under_itself, under_trans}
use Rattle.tables.specs.Turns.{reads}
use Rattle.tables.proofs.locked.LockedBoardBoard.finish.Goals as goal

pub loop-v-init : goal.loop-v-init
loop-v-init g c = record { game = c.requires; kept = under_itself c.args.table.now.values }

pub loop-v-preserved : goal.loop-v-preserved
loop-v-preserved g c = record {
  game = c.raise.ensures.game ∙ c.loop-v.invariant.game;
  kept = under_trans c.args.table.now.values c.loop-v.table.values c.raise.new.self.values c.loop-v.invariant.kept c.raise.ensures.kept;
}

-- What a lock was asked for isn't noted: the values of the table are as good as any.
pub returns-clause-poured : goal.returns-clause-poured
returns-clause-poured g c =
    let values = c.loop-v.table.values in
    inr (
      tt,
      tt,
      (
        reads (range_with_len 0 (length g.K.GameName.game.vertices)) values,
        tt,
        record {
          values = values;
          each = c.known.ensures.long ∙ ap (λ (h : Game). length h.vertices) c.loop-v.invariant.game;
          whole = refl;
          over = λ v lt. at_most_itself (value_at values v);
        },
      ),
    )
