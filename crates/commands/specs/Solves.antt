-- What the command `solve` answers.
use Rattle.std.specs.Prelude.{◌≡◌, ℕ, Bool, true, List, [], ◌∷◌, ◌⊎◌, Option, Some, Result, Ok, Err, IfOk}
use Rattle.text.specs.Taken.{Taken}
use Rattle.evidence.specs.Full.{IsFullText}
use Rattle.evidence.specs.declared.error.EvidenceError.{EvidenceError}
use Rattle.evidence.specs.declared.error.EvidenceError.TheVariants as evidence
use Rattle.game.specs.Game.{Game}
use Rattle.game.specs.declared.player.Player.TheVariants.{Even, Odd}
use Rattle.workers.specs.declared.team.BoardKind.{BoardKind}
use Rattle.requests.specs.declared.error.MuError.{MuError}
use Rattle.requests.specs.declared.error.MuError.TheVariants as error
use Rattle.requests.specs.declared.request.ReportForm.TheVariants.{Whole}
use Rattle.requests.specs.Solver.{FitsBoard, IsUnsolved}
use Rattle.requests.specs.Writers.{TextKind, GameText, EvenText, OddText, WitnessText, DrawingText, ReportText, Unasked, Lent, IsLentFor, AreKept}
use Rattle.requests.specs.Writers.{AreWritten, kind_where, lent_for, report_writer}
use Rattle.commands.specs.Spelled.{IsGameOf, IsGameTold}
use Rattle.commands.specs.Winners.{AreWinners, winners_text}

-- The texts that are written of a game: evidence of all that Even wins, and of all that Odd wins, and who wins each vertex where these are the marks.
abbrev pub IsSolveText : Game → (marks : List Bool) → TextKind → List ℕ → Type 0
IsSolveText g marks EvenText text = IsFullText Even g text
IsSolveText g marks OddText text = IsFullText Odd g text
IsSolveText g marks (ReportText form) text = text ≡ winners_text marks
IsSolveText g marks Unasked text = text ≡ []
IsSolveText g marks GameText text = ⊥
IsSolveText g marks WitnessText text = ⊥
IsSolveText g marks DrawingText text = ⊥

-- the writers in their order: both texts of evidence have one each, from which nothing is asked where no evidence is
abbrev pub solve_writers : (evidence : Bool) → (old_even new_even old_odd new_odd old_report new_report : Taken) → List Lent
solve_writers evidence old_even new_even old_odd new_odd old_report new_report =
    lent_for (kind_where evidence EvenText) old_even new_even
    ∷ (lent_for (kind_where evidence OddText) old_odd new_odd ∷ report_writer Whole old_report new_report)

-- The board can be had for the game that the text spells, and its texts were written, all of them where there is an answer, which is true, and else those up to
-- one.
pub record HasSolved (board : BoardKind) (text : List ℕ) (writers : List Lent) (result : Result Bool MuError) : Type 0 where
  pub g : Game
  pub marks : List Bool
  pub game : IsGameOf text g
  pub fits : FitsBoard (Some board) g
  pub exact : AreWinners g marks
  pub written : AreWritten (IsSolveText g marks) writers result
  pub answered : IfOk result (λ answer. answer ≡ true)

-- The game that the text spells isn't solved over this board.
pub record IsLeft (board : BoardKind) (text : List ℕ) (e : MuError) : Type 0 where
  pub g : Game
  pub game : IsGameOf text g
  pub unsolved : IsUnsolved (Some board) g e

-- Memory is wanting for evidence, which is asked for.
pub record LacksSolveEvidence (board : BoardKind) (text : List ℕ) (writers : List Lent) (e : EvidenceError) : Type 0 where
  pub g : Game
  pub game : IsGameOf text g
  pub fits : FitsBoard (Some board) g
  pub asked : IsLentFor EvenText writers
  pub memory : e ≡ evidence.Memory

-- why a text gives no game
abbrev pub GivesNoGame : List ℕ → MuError → Type 0
GivesNoGame text (error.Game e) = IsGameTold text e
GivesNoGame text error.Memory = (g : Game) × IsGameOf text g
GivesNoGame text _ = ⊥

-- What a refusal says of the text.
abbrev pub RefusesSolve : BoardKind → (text : List ℕ) → List Lent → MuError → Type 0
RefusesSolve board text writers (error.Table e) = IsLeft board text (error.Table e)
RefusesSolve board text writers (error.Solve e) = IsLeft board text (error.Solve e)
RefusesSolve board text writers (error.Evidence e) = LacksSolveEvidence board text writers e
RefusesSolve board text writers e = GivesNoGame text e

-- The texts were written, up to one after a write fault, and after another refusal none.
abbrev pub AnswersSolve : BoardKind → (text : List ℕ) → List Lent → Result Bool MuError → Type 0
AnswersSolve board text writers (Ok answer) = HasSolved board text writers (Ok answer)
AnswersSolve board text writers (Err (error.Write fault)) = HasSolved board text writers (Err (error.Write fault))
AnswersSolve board text writers (Err e) = RefusesSolve board text writers e × AreKept writers

-- The theorem of the command: of what the reader had left, where it tells it, and of what the writers held before and after.
abbrev pub Solves : BoardKind → (game : Option (List ℕ)) → List Lent → Result Bool MuError → Type 0
Solves board game writers result = (text : List ℕ) → game ≡ Some text → AnswersSolve board text writers result

-- Why there is no evidence: the game isn't solved over this board, or else memory is wanting for evidence.
abbrev pub IsUnproved : BoardKind → Game → MuError → Type 0
IsUnproved board g e = IsUnsolved (Some board) g e ⊎ (FitsBoard (Some board) g × (e ≡ error.Evidence evidence.Memory))
