-- What is read of the matches.
use Rattle.std.proofs.Common.{◌≡◌, ◌∙◌, ◌≤◌, ap, arith, refl, subst, sym, ℕ, List, Option, Some, None, Result, Ok, Err}
use Rattle.std.specs.Prelude.{IfSome, option_map}
use Rattle.std.specs.Str.Parse.{ParsesUnsigned, digits_value, without_leading_plus}
use Rattle.clap.specs.Words.{Text, TriesOne, one_of, one_text, rows_of, subcommand_rows_of}
use Rattle.clap.specs.declared.parser.matches.ArgMatches.{ArgMatches}
use Rattle.clap.specs.declared.parser.matches.Found.{Found}
use Rattle.clap.proofs.WalkLemmas.{one_text-rows}
use Rattle.command_line.specs.declared.request.Command.{Command}
use Rattle.command_line.specs.CommandLine.{AreMatchesOf, IsAskedFor, IsNumeralWithin, IsRead}

-- a command that is read of the matches is asked for
pub asked_by : (words : List Text) (matches : ArgMatches) (command : Command) → AreMatchesOf words matches → IsRead (subcommand_rows_of matches) command
    → IsAskedFor words command
asked_by words matches command found read = record {
  app = found.app;
  table = found.table;
  read = subst (λ o. IsRead o command) found.rows read;
}

-- ------------------------------------------------------------------ numbers

abbrev number_of : Text → ℕ
number_of text = digits_value 10 (without_leading_plus text)

-- the number of the text, if there is one; or a refusal, where the text has none of 32 bits
abbrev pub AreRead : {E : Type 0} → Option Text → Result (Option ℕ) E → Type 0
AreRead text (Ok found) = (found ≡ option_map number_of text) × IfSome text (IsNumeralWithin 0 4294967295)
AreRead text (Err e) = IfSome text (IsNumeralWithin 0 4294967295) → ⊥

-- what was tried to be read, and came to this
pub number_read : (E : Type 0) (G H : List ℕ → Result ℕ E → Type 0) (f : Found) (id : Text) (r s : Result (Option ℕ) E) → r ≡ s
    → (one_text f id ≡ None → r ≡ Ok None) → ((t : List ℕ) → one_text f id ≡ Some t → TriesOne (λ t x. ParsesUnsigned 32 10 t x × G t x × H t x) t r)
    → AreRead (one_of id (rows_of f)) s
number_read E G H f id r s same none value = subst (AreRead (one_of id (rows_of f))) same (go (one_text f id) refl)
  where
    tried : (t : List ℕ) (x : Result (Option ℕ) E) → TriesOne (λ t x. ParsesUnsigned 32 10 t x × G t x × H t x) t x → AreRead (Some t) x
    tried t (Ok None) h = absurd h
    tried t (Ok (Some n)) h =
        let fits = h.0.0.1 in
        (ap Some h.0.1, record { numeral = h.0.0.0; above = omega arith; below = omega arith })
    tried t (Err e) h = λ within.
        let below = within.below in
        h.0 (within.numeral, omega arith)

    go : (o : Option Text) → one_text f id ≡ o → AreRead (one_of id (rows_of f)) r
    go None e =
        let at : one_of id (rows_of f) ≡ None = sym (one_text-rows f id) ∙ e in
        rw (none e, at) (refl, tt)
    go (Some t) e =
        let at : one_of id (rows_of f) ≡ Some t = sym (one_text-rows f id) ∙ e in
        rw at (tried t r (value t e))

-- a numeral between these is one of 32 bits
pub loosened : (text : Option Text) (least most : ℕ) → most ≤ 4294967295 → IfSome text (IsNumeralWithin least most) → IfSome text (IsNumeralWithin 0 4294967295)
loosened None least most fits within = tt
loosened (Some t) least most fits within =
    let below = within.below in
    record { numeral = within.numeral; above = omega arith; below = omega arith }

-- the text is a numeral between these just where its number is
pub narrowed : (text : Option Text) (found : Option ℕ) (least most : ℕ) → found ≡ option_map number_of text → IfSome text (IsNumeralWithin 0 4294967295)
    → IfSome found (λ n. (least ≤ n) × (n ≤ most)) → IfSome text (IsNumeralWithin least most)
narrowed None found least most is numeral within = tt
narrowed (Some t) found least most is numeral within =
    let between : IfSome (Some (number_of t)) (λ n. (least ≤ n) × (n ≤ most)) = rw is at within in
    record { numeral = numeral.numeral; above = between.0; below = between.1 }

pub widened : (text : Option Text) (found : Option ℕ) (least most : ℕ) → found ≡ option_map number_of text → IfSome text (IsNumeralWithin least most)
    → IfSome found (λ n. (least ≤ n) × (n ≤ most))
widened None found least most is within = rw is tt
widened (Some t) found least most is within = rw is (within.above, within.below)
