use Rattle.std.proofs.Common.{inr}
use Rattle.measures.proofs.Rising.{under_itself}
use Rattle.tables.proofs.packed_board.PackedBoardBoard.finish.Goals as goal

pub returns-in_default-clause-kept : goal.returns-in_default-clause-kept
returns-in_default-clause-kept c = under_itself c.args.table.now.values

pub returns-clause-poured : goal.returns-clause-poured
returns-clause-poured c = inr (c.in-Some.seat, c.read_into.new.seat, c.read_into.ensures.poured)
