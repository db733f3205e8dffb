use Rattle.std.proofs.Common.{inl, inr, refl}
use Rattle.table_lines.specs.Table.{way_by}
use Rattle.table_lines.proofs.Telling.{told_by}
use Rattle.table_lines.proofs.table.table_line.Goals as goal

pub returns-in-Ok : goal.returns-in-Ok
returns-in-Ok g c = λ text known.
    let request = c.args.request.now in
    told_by request.strict (way_by request.options request.plain) c.args.system.now.system _ c.args.name.now text _ _ _ c.answer_status.result _ c.told.result
    (inl (record { x = c.in-Ok.found; found = c.in-Ok.ensures.finds text known; told = refl; ends = c.answer_status.ensures }))
    (rw c.states.ensures.count at c.put_answer.ensures) c.told.ensures

pub returns-in-Err : goal.returns-in-Err
returns-in-Err g c = λ text known.
    let request = c.args.request.now in
    told_by request.strict (way_by request.options request.plain) c.args.system.now.system _ c.args.name.now text _ _ _ c.error_status.result _ c.told-in-Err.result
    (inr (record { e = c.in-Err.error; refused = c.in-Err.ensures.finds text known; cause = c.in-Err.ensures.cause; told = refl; ends = c.error_status.ensures }))
    c.put_refusal.ensures c.told-in-Err.ensures
