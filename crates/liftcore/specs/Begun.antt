-- What was read of a line of a schedule so far.
use Rattle.std.specs.Prelude.{◌≡◌, ℕ, false, List, [], ◌∷◌, ◌++◌, ◌==◌, Option, Some, None}
use Rattle.std.specs.List.{list_any}
use Rattle.text.specs.Tokens.{whole_number}
use Rattle.liftcore.specs.Scan.{event_at}
use Rattle.liftcore.specs.declared.line.LinePart.{LinePart}
use Rattle.liftcore.specs.declared.line.LinePart.TheVariants.{Faulty, Vertex, Word, Worker}

-- these digits are the number, or there are none
abbrev pub IsValue : List ℕ → Option ℕ → Type 0
IsValue digits None = digits ≡ []
IsValue digits (Some n) = whole_number digits ≡ Some n

-- there is no space among them
abbrev pub IsUnspaced : List ℕ → Type 0
IsUnspaced bytes = list_any (λ b. b == 32) bytes ≡ false

-- These bytes of a line were read: a word; a word and digits of a worker; a word, a worker and digits of a vertex; or what no event's line begins with.
abbrev pub IsBegunLine : List ℕ → List ℕ → LinePart → Type 0
IsBegunLine line word Word = (line ≡ word) × IsUnspaced word
IsBegunLine line word (Worker worker) = (digits : List ℕ) × (line ≡ word ++ 32 ∷ digits) × IsUnspaced word × IsValue digits worker
IsBegunLine line word (Vertex worker vertex) =
    (numeral digits : List ℕ) × (line ≡ word ++ 32 ∷ (numeral ++ 32 ∷ digits)) × IsUnspaced word × (whole_number numeral ≡ Some worker) × IsValue digits vertex
IsBegunLine line word Faulty = (rest : List ℕ) → event_at whole_number (line ++ rest) ≡ None
