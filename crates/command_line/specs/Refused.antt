-- Why a command line is refused.
use Rattle.std.specs.Prelude.{MatchResult, Result}
use Rattle.requests.specs.declared.error.MuError.{MuError}
use Rattle.requests.specs.declared.error.MuError.TheVariants as error

-- What a command line may be refused for: its words, with the text that says what is wrong with them, where this holds; or a lack of memory.
abbrev pub IsLineError : Type 0 → MuError → Type 0
IsLineError P (error.Arguments e) = P
IsLineError P error.Memory = Unit {0}
IsLineError P e = ⊥

-- A value that is so is found, or the words are refused, where none is so.
abbrev pub Finds : {T : Type 0} → (IsSo : T → Type 0) → Result T MuError → Type 0
Finds {T} IsSo result = MatchResult result IsSo (IsLineError ((value : T) → IsSo value → ⊥))
