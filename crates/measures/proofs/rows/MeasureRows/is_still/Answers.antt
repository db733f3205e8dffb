use Rattle.measures.proofs.Settling.{reached_from, still_from}
use Rattle.measures.proofs.rows.MeasureRows.is_still.Goals as goal

pub returns : goal.returns
returns c =
    let g = c.args.game.now in
    let values = c.args.self.now.values in
    let reaches = c.reaches.ensures g c.requires.width in (
      (λ b. still_from g values c.requires.table c.args.v c.requires.vertex c.owner.result c.priority.result c.successors.result.now c.best-best.result
          c.owner.ensures c.priority.ensures c.successors.ensures c.best-best.ensures.best (reaches.0 b)),
      (λ s. reaches.1 (reached_from g values c.requires.table c.args.v c.requires.vertex c.owner.result c.priority.result c.successors.result.now
          c.best-best.result c.owner.ensures c.priority.ensures c.successors.ensures c.best-best.ensures.best s)),
    )
