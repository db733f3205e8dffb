-- What can't be solved over the board that is asked for.
use Rattle.std.specs.Prelude.{◌≤◌, Bool, List, Option, IfSome, length}
use Rattle.std.specs.Borrow.{Bor}
use Rattle.calculus.specs.Meaning.{MarksOf}
use Rattle.game.specs.Game.{Game}
use Rattle.game.specs.Wins.{Wins}
use Rattle.measures.specs.Lifting.{height}
use Rattle.measures.specs.declared.rank.TheConstants.{RANK_LIMIT}
use Rattle.tables.specs.declared.error.TableError.TheVariants as table
use Rattle.workers.specs.declared.error.SolveError.TheVariants as solve
use Rattle.workers.specs.declared.error.TeamError.{TeamError}
use Rattle.workers.specs.declared.error.TeamError.TheVariants as error
use Rattle.workers.specs.declared.team.BoardKind.{BoardKind}
use Rattle.workers.specs.declared.team.BoardKind.TheVariants as board

-- The packed board is asked for, and the rank of top doesn't fit its words.
abbrev pub IsTooGreat : BoardKind → Game → Type 0
IsTooGreat board.Packed g = RANK_LIMIT ≤ height g
IsTooGreat _ g = ⊥

-- memory was wanting, for the board or for the table
abbrev pub IsMemory : TeamError → Type 0
IsMemory (error.Board table.Memory) = Unit {0}
IsMemory (error.Solve solve.Memory) = Unit {0}
IsMemory _ = ⊥

-- Why there is no table: T1 exactly where the board can't be had, and else out of memory.
abbrev pub IsTeamRefusal : BoardKind → Game → TeamError → Type 0
IsTeamRefusal kind g (error.Board table.TooManyRanks) = IsTooGreat kind g
IsTeamRefusal kind g e = IsMemory e × (IsTooGreat kind g → ⊥)

-- Where marks are given, they are those of the vertices that Even wins.
abbrev pub MayBeRaised : Game → Option (Bor (List Bool)) → Type 0
MayBeRaised g won = IfSome won (λ marks. MarksOf (length g.vertices) marks.now (Wins g))
