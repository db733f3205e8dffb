-- Why a text could not be read.
use Rattle.std.specs.Prelude.{Bool}
use Rattle.text.specs.Cause.{HasCause}
use Rattle.lts.specs.declared.error.AutError.TheVariants as system
use Rattle.requests.specs.declared.error.MuError.{MuError}
use Rattle.requests.specs.declared.error.MuError.TheVariants as error

-- A failed read of the system, or of the formula, is told only where reads of it can fail.
abbrev pub HaveCauses : (aut formula : Bool) → MuError → Type 0
HaveCauses aut formula e = HasCause aut (error.System system.Read) e × HasCause formula error.Read e
