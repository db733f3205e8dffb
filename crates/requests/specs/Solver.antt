-- Which games can be solved over which board.
use Rattle.std.specs.Prelude.{Option, Some, None}
use Rattle.game.specs.Game.{Game}
use Rattle.tables.specs.declared.error.TableError.TheVariants as table
use Rattle.workers.specs.declared.team.BoardKind.{BoardKind}
use Rattle.workers.specs.Team.{IsTooGreat}
use Rattle.requests.specs.declared.error.MuError.{MuError}
use Rattle.requests.specs.declared.error.MuError.TheVariants as error

-- The board that is asked for, if one is, can be had for the game.
abbrev pub FitsBoard : Option BoardKind → Game → Type 0
FitsBoard None g = Unit {0}
FitsBoard (Some board) g = IsTooGreat board g → ⊥

-- Why a game isn't solved: the board that is asked for can't be had, or else memory is wanting.
abbrev pub IsUnsolved : Option BoardKind → Game → MuError → Type 0
IsUnsolved board g error.Memory = FitsBoard board g
IsUnsolved (Some board) g (error.Table table.TooManyRanks) = IsTooGreat board g
IsUnsolved (Some board) g (error.Table table.Memory) = FitsBoard (Some board) g
IsUnsolved (Some board) g (error.Solve e) = FitsBoard (Some board) g
IsUnsolved board g e = ⊥
