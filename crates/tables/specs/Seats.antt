-- What a seat of a packed board has seen.
use Rattle.std.specs.Prelude.{◌≡◌, ◌++◌, List}
use Rattle.std.specs.Arc.{arc_value}
use Rattle.game.specs.Game.{Game}
use Rattle.measures.specs.Measure.{Measure}
use Rattle.measures.specs.Tables.{IsPlain}
use Rattle.tables.specs.declared.access.Access.{Access}
use Rattle.tables.specs.declared.packed.PackedBoard.{PackedBoard}
use Rattle.tables.specs.declared.packed.PackedSeat.{PackedSeat}

abbrev pub board_game : PackedBoard → Game
board_game b = arc_value b.game

-- a measure for each vertex: at first the opening table's, and then what the seat's own steps found
abbrev pub seen : PackedSeat → List Measure
seen s = s.seat.me.0.seen

-- what was done by the seat, in order
abbrev pub done : PackedSeat → List Access
done s = s.seat.me.0.done

-- by these accesses, in order, the first seat became the second
abbrev pub Did : PackedSeat → PackedSeat → List Access → Type 0
Did first last accesses = done last ≡ done first ++ accesses

-- The board gave the seat, and all that it has seen is below.
pub record IsSeatOf (b : PackedBoard) (s : PackedSeat) : Type 0 where
  pub table : s.seat.table_id ≡ b.table.shared.table_id
  pub game : s.seat.me.0.of ≡ arc_value b.game
  pub plain : IsPlain (record { game = arc_value b.game; values = s.seat.me.0.seen })
