-- Why a line is refused.
use Rattle.std.proofs.Common.{◌≡◌, ◌∙◌, ◌+◌, ◌*◌, ap, arith, subst, sym, ℕ, true, List, Result, Ok, Err}
use Rattle.std.specs.Prelude.{IfErr, IsErrAnd, codes, slice_index}
use Rattle.clap.specs.Words.{App, Row, Text, takes}
use Rattle.requests.specs.declared.error.MuError.{MuError}
use Rattle.requests.specs.declared.error.MuError.TheVariants as error
use Rattle.requests.specs.declared.request.Check.{Check as CheckRequest}
use Rattle.command_line.specs.declared.request.Command.{Command}
use Rattle.command_line.specs.declared.request.Command.TheVariants.{Check}
use Rattle.command_line.specs.declared.request.Outputs.{Outputs}
use Rattle.command_line.specs.CommandLine.{HasArguments, IsCommand, word_of}
use Rattle.command_table.specs.Table.{IsCommandTable}
use Rattle.command_line.specs.Refused.{IsLineError, Finds}
use Rattle.command_line.specs.Refusals.{IsUntaken}

-- ------------------------------------------------------------------ refusals

only_if : (P Q : Type 0) → (P → Q) → (e : MuError) → IsLineError P e → IsLineError Q e
only_if P Q f (error.Arguments x) h = f h
only_if P Q f error.Memory h = tt
only_if P Q f e h = absurd h

-- a refusal that is handed on says what follows from what it said
pub handed_on : {T : Type 0} (P Q : Type 0) → (P → Q) → (r : Result T MuError) (e : MuError) → IsErrAnd r (λ y. y ≡ e) → IsLineError P e
    → IfErr r (IsLineError Q)
handed_on P Q f (Ok x) e is h = tt
handed_on P Q f (Err y) e is h = subst (IsLineError Q) (sym is) (only_if P Q f e h)

-- where a part of it isn't read, it isn't
pub refused : {T U : Type 0} (IsSo : T → Type 0) (IsPart : U → Type 0) (r : Result T MuError) (e : MuError) → IsErrAnd r (λ y. y ≡ e)
    → IsLineError ((part : U) → IsPart part → ⊥) e → ((whole : T) → IsSo whole → (part : U) × IsPart part) → Finds IsSo r
refused IsSo IsPart (Ok x) e is none part = absurd is
refused {T} IsSo IsPart (Err y) e is none part = subst (IsLineError ((whole : T) → IsSo whole → ⊥)) (sym is)
    (only_if _ _ (λ none whole so. let part = part whole so in none part.0 part.1) e none)

-- the table doesn't take the words, where memory isn't wanting
pub is_untaken : (words : List Text) (app : App) → IsCommandTable app → (e : MuError) → IsLineError (Unit {0}) e
    → (takes app words ≡ true → e ≡ error.Memory) → IsLineError (IsUntaken words) e
is_untaken words app table (error.Arguments x) line wants = record { app = app; table = table; untaken = λ taken. let bad = wants taken in absurd (cc) }
is_untaken words app table error.Memory line wants = tt
is_untaken words app table e line wants = absurd line

-- ------------------------------------------------------------------ the name of the command

-- two letters tell the names of commands apart
abbrev key : Text → ℕ
key name = slice_index name 0 * 256 + slice_index name 3

-- what a check has
pub of_check : (name : Text) (rows : List Row) → name ≡ codes "check" → (command : Command) → IsCommand name rows command
    → (both : CheckRequest × Outputs) × HasArguments rows (Check both.0 both.1)
of_check name rows named (Check check outputs) is = ((check, outputs), is.1)
of_check name rows named command is = let other : key (codes "check") ≡ key (word_of command) = ap key (sym named ∙ is.0) in absurd (omega arith)
