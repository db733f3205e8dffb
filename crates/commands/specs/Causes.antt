-- Why the texts of games and of evidence could not be read.
use Rattle.std.specs.Prelude.{Bool}
use Rattle.text.specs.Cause.{HasCause}
use Rattle.pgsolver.specs.declared.error.PgError.TheVariants as game_error
use Rattle.evidence.specs.declared.error.EvidenceError.TheVariants as evidence_error
use Rattle.requests.specs.declared.error.MuError.{MuError}
use Rattle.requests.specs.declared.error.MuError.TheVariants as error

-- that a read of a game failed
abbrev pub game_unread : MuError
game_unread = error.Game game_error.Read

-- A failed read of the game, or of evidence, is told only where reads of it can fail.
abbrev pub AreCaused : (game evidence : Bool) → MuError → Type 0
AreCaused game evidence e = HasCause game game_unread e × HasCause evidence (error.Evidence evidence_error.Read) e
