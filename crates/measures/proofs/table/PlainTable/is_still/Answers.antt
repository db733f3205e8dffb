use Rattle.measures.proofs.Common.{◌∙◌, ap, GameTable}
use Rattle.measures.proofs.Plain.{stored_as}
use Rattle.measures.proofs.Settling.{plain_table}
use Rattle.measures.proofs.table.PlainTable.is_still.Goals as goal

pub is_still-requires-clause-table : goal.is_still-requires-clause-table
is_still-requires-clause-table c =
    let g = c.args.game.now in
    let i = c.self.inside in
    let (plain, wide) = stored_as i.of.value g i.pending i.bounds.items i.rows.width i.rows.values
    (ap (λ (t : GameTable). t.game) c.self.view_is ∙ c.requires.same) c.self.invariant in
    plain_table g i.rows.values plain
