-- A line of which a number's digits past the eleventh are left out.
use Rattle.std.specs.Prelude.{◌≡◌, ℕ, ◌+◌, List, [], ◌∷◌, ◌++◌, take, nat_lt, Option, Some, None, IsTrue, if◌then◌else◌}
use Rattle.std.specs.List.{list_all}
use Rattle.text.specs.Tokens.{is_other}
use Rattle.text.specs.Text.{is_digit}
use Rattle.text.specs.Stream.{first_piece, after_line}
use Rattle.evidence.specs.declared.limits.TheConstants.{MOST_DIGITS, LONGEST_LINE}

-- how many digits stand on end behind this byte, where so many stood before it: no more than that are counted
abbrev pub digits_then : ℕ → ℕ → ℕ
digits_then d b = if is_digit b then (if nat_lt d MOST_DIGITS then d + 1 else d) else 0

-- the byte, unless it is a digit past the last that is kept
abbrev pub kept_of : ℕ → ℕ → List ℕ
kept_of d b = if is_digit b then (if nat_lt d MOST_DIGITS then b ∷ [] else []) else b ∷ []

abbrev pub digits_after : ℕ → List ℕ → ℕ
digits_after d [] = d
digits_after d (b ∷ bytes) = digits_after (digits_then d b) bytes

abbrev pub short_from : ℕ → List ℕ → List ℕ
short_from d [] = []
short_from d (b ∷ bytes) = kept_of d b ++ short_from (digits_then d b) bytes

abbrev pub short : List ℕ → List ℕ
short line = short_from 0 line

-- these bytes come behind those that were kept, as long as there is room
abbrev pub Puts : List ℕ → List ℕ → List ℕ → Type 0
Puts bytes old new = (front : List ℕ) → old ≡ take LONGEST_LINE front → new ≡ take LONGEST_LINE (front ++ bytes)

-- the same of these bytes, shortened
abbrev pub KeepsShort : ℕ → List ℕ → List ℕ → List ℕ → Type 0
KeepsShort d bytes old new = Puts (short_from d bytes) old new

-- The line is taken and kept as far as it was at hand: it goes on behind so many digits, or it has ended, and its end is taken.
abbrev pub TakesOn : ℕ → List ℕ → List ℕ → Option ℕ → List ℕ → List ℕ → Type 0
TakesOn d old new (Some after) text left =
    (run : List ℕ) × (text ≡ run ++ left) × IsTrue (list_all (is_other 10) run) × (after ≡ digits_after d run) × KeepsShort d run old new
TakesOn d old new None text left = KeepsShort d (first_piece text) old new × (left ≡ after_line text)

-- the line is taken with its end, and kept shortened
abbrev pub TakesShort : List ℕ → List ℕ → List ℕ → Type 0
TakesShort kept text left = (kept ≡ take LONGEST_LINE (short (first_piece text))) × (left ≡ after_line text)
