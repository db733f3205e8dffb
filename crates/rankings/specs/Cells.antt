-- Rankings of arenas, as they are stored: for each node of the normal form a column, with a number for each state.
use Rattle.std.specs.Prelude.{◌≤◌, ◌%◌, ◌/◌, ℕ, zero, suc, List, length, slice_index_or}
use Rattle.game.specs.declared.player.Player.{Player}
use Rattle.game.specs.declared.player.Player.TheVariants.{Even, Odd}
use Rattle.rankings.specs.Columns.{kept_number}
use Rattle.rankings.specs.Ranking.{Ranking}
use Rattle.game.specs.declared.column.Column.{Column}
use Rattle.game.specs.declared.column.Column.TheVariants.{Same}

-- columns of numbers with the lists that they share, and the shifts of both players by priority
pub record Cells : Type 0 where
  pub nodes : List Column
  pub marks : List ℕ
  pub counts : List (List ℕ)
  pub words : List (List ℕ)
  pub evens : List ℕ
  pub odds : List ℕ

-- the number of a node at a state
abbrev pub cell : Cells → ℕ → ℕ → ℕ
cell c k = kept_number c.marks c.counts c.words (slice_index_or c.nodes k (Same 0))

-- That of a vertex: the true sink has 0, the false one 1, and the vertices after them follow each other by state and then by node.
abbrev pub number_in : Cells → ℕ → ℕ
number_in c zero = 0
number_in c (suc zero) = 1
number_in c (suc (suc m)) = cell c (m % length c.nodes) (m / length c.nodes)

-- Shifts that don't fall. None is above 63, which is that of all priorities past the last.
abbrev pub AreShifts : List ℕ → Type 0
AreShifts shifts = (p q : ℕ) → p ≤ q → slice_index_or shifts p 63 ≤ slice_index_or shifts q 63

-- the last shift is that of all priorities from there on
abbrev pub shift_in : Cells → Player → ℕ → ℕ
shift_in c Even p = slice_index_or c.evens p 63
shift_in c Odd p = slice_index_or c.odds p 63

abbrev pub ranking_of : Cells → Ranking
ranking_of c = record { number = number_in c; shift = shift_in c }
