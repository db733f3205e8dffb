-- Worked examples of what command lines ask for.
use Rattle.std.specs.Prelude.{◌≡◌, Bool, true, false, List, [], ◌∷◌, None, Option, Some, codes, option_map, refl}
use Rattle.clap.specs.Words.{Row, Text, first_of, one_of, subcommand_of, takes}
use Rattle.clap.proofs.OnLiterals.{clap_on_literals}
use Rattle.command_table.specs.Table.{Choice, mucheck_app}
use Rattle.command_line.specs.CommandLine.{stands}

-- what the words name, and what is read of the command's arguments
abbrev read_of : {X : Type 0} → (List Row → X) → (rules boards answers : Choice) → List Text → Option (Text × X)
read_of read rules boards answers words = option_map (λ named. (named.0, read named.1)) (subcommand_of (mucheck_app rules boards answers) words)

-- the files of a check, and whether it is by sets of states
abbrev files_of_check : List Row → Option Text × Option Text × Bool
files_of_check rows = (first_of (codes "SYSTEM") rows, first_of (codes "FORMULA") rows, stands rows (codes "plain"))

-- mucheck check a.aut b.mcf --plain
plain_check : (rules boards answers : Choice)
    → read_of files_of_check rules boards answers (codes "mucheck" ∷ codes "check" ∷ codes "a.aut" ∷ codes "b.mcf" ∷ codes "--plain" ∷ [])
    ≡ Some (codes "check", (Some (codes "a.aut"), Some (codes "b.mcf"), true))
unfolding clap_on_literals
plain_check rules boards answers = refl

-- whether a check is strict
abbrev strictness_of_check : List Row → Option Text × Bool
strictness_of_check rows = (first_of (codes "FORMULA") rows, stands rows (codes "strict"))

-- mucheck check a.aut --strict b.mcf
strict_check : (rules boards answers : Choice)
    → read_of strictness_of_check rules boards answers (codes "mucheck" ∷ codes "check" ∷ codes "a.aut" ∷ codes "--strict" ∷ codes "b.mcf" ∷ [])
    ≡ Some (codes "check", (Some (codes "b.mcf"), true))
unfolding clap_on_literals
strict_check rules boards answers = refl

-- the files of a check, and the numerals of its workers and of its shards
abbrev numbers_of_check : List Row → Option Text × Option Text × Option Text × Option Text
numbers_of_check rows = (
  first_of (codes "SYSTEM") rows,
  first_of (codes "FORMULA") rows,
  one_of (codes "workers") rows,
  one_of (codes "shards") rows,
)

-- mucheck check --workers=4 a.aut b.mcf
check_by_four : (rules boards answers : Choice)
    → read_of numbers_of_check rules boards answers (codes "mucheck" ∷ codes "check" ∷ codes "--workers=4" ∷ codes "a.aut" ∷ codes "b.mcf" ∷ [])
    ≡ Some (codes "check", (Some (codes "a.aut"), Some (codes "b.mcf"), Some (codes "4"), None))
unfolding clap_on_literals
check_by_four rules boards answers = refl

-- the files of a game and of evidence
abbrev files_of_verify : List Row → Option Text × Option Text × Option Text
files_of_verify rows = (first_of (codes "GAME") rows, first_of (codes "EVIDENCE") rows, first_of (codes "OTHER") rows)

-- mucheck verify g e
one_piece : (rules boards answers : Choice)
    → read_of files_of_verify rules boards answers (codes "mucheck" ∷ codes "verify" ∷ codes "g" ∷ codes "e" ∷ [])
    ≡ Some (codes "verify", (Some (codes "g"), Some (codes "e"), None))
unfolding clap_on_literals
one_piece rules boards answers = refl

-- ------------------------------------------------------------------ lines that the table takes

-- mucheck check a.aut b.mcf
check_is_taken : (rules boards answers : Choice)
    → takes (mucheck_app rules boards answers) (codes "mucheck" ∷ codes "check" ∷ codes "a.aut" ∷ codes "b.mcf" ∷ []) ≡ true
unfolding clap_on_literals
check_is_taken rules boards answers = refl

-- mucheck check a.aut
half_is_not_taken : (rules boards answers : Choice)
    → takes (mucheck_app rules boards answers) (codes "mucheck" ∷ codes "check" ∷ codes "a.aut" ∷ []) ≡ false
unfolding clap_on_literals
half_is_not_taken rules boards answers = refl
