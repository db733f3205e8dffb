-- What a line is as a test: its fields, and the counts of its rank.
use Rattle.std.specs.Prelude.{◌≡◌, ℕ, zero, suc, nat_le, List, [], ◌∷◌, take, drop, Option, Some, None, codes, if◌then◌else◌}
use Rattle.std.specs.Str.{bytes_eq}
use Rattle.text.specs.Text.{is_numeral, value_of}
use Rattle.text.specs.Tokens.{capped, cut_at, ◌>>=◌}
use Rattle.game.specs.declared.player.Player.{Player}
use Rattle.evidence.specs.Canon.{header}
use Rattle.evidence.specs.declared.scan.EntryLine.{EntryLine}
use Rattle.evidence.specs.declared.limits.TheConstants.{GREATEST_COUNT}

-- The line announces no player's evidence.
abbrev pub IsNoHeader : List ℕ → Type 0
IsNoHeader line = (player : Player) → line ≡ header player → ⊥

-- the number whose numeral this is, however great
unfoldable pub number_of : List ℕ → Option ℕ
number_of bytes = if is_numeral bytes then Some (value_of bytes) else None

-- a move, or none
unfoldable pub move_of : List ℕ → Option (Option ℕ)
move_of bytes = if bytes_eq bytes (codes "-") then Some None else (number_of bytes >>= λ t. Some (Some t))

-- the vertex, the move, and the bytes of the rank
unfoldable pub fields_of : List ℕ → Option (ℕ × Option ℕ × List ℕ)
fields_of line = do
  first ← cut_at 32 line
  second ← cut_at 32 first.1
  vertex ← number_of first.0
  move ← move_of second.0
  Some (vertex, move, second.1)

-- a move as it is read: a number that is too great for its type as the greatest one
abbrev pub read_move : Option ℕ → Option ℕ
read_move None = None
read_move (Some t) = Some (capped t)

-- the count before this byte, and what follows the byte
unfoldable pub count_before : ℕ → List ℕ → Option (ℕ × List ℕ)
count_before end bytes = do
  found ← cut_at end bytes
  count ← number_of found.0
  if nat_le count GREATEST_COUNT then Some (count, found.1) else None

-- what stands behind a count with so many after it: a comma, and a bracket behind the last
abbrev pub end_of : ℕ → ℕ
end_of zero = 41
end_of (suc more) = 44

-- so many counts, each with its end, and nothing else
abbrev pub counts_in : ℕ → List ℕ → Option (List ℕ)
counts_in zero [] = Some []
counts_in zero (b ∷ bytes) = None
counts_in (suc more) bytes = count_before (end_of more) bytes >>= λ found. counts_in more found.1 >>= λ counts. Some (found.0 ∷ counts)

-- so many counts in brackets
abbrev pub rank_of : ℕ → List ℕ → Option (List ℕ)
rank_of zero bytes = if bytes_eq bytes (codes "()") then Some [] else None
rank_of (suc more) bytes = if bytes_eq (take 1 bytes) (codes "(") then counts_in (suc more) (drop 1 bytes) else None

-- The line's fields were found, and they are these.
pub record AreFields (line : List ℕ) (f : EntryLine) : Type 0 where
  pub vertex : ℕ
  pub move : Option ℕ
  pub found : fields_of line ≡ Some (vertex, move, f.rank.now)
  pub number : f.vertex ≡ capped vertex
  pub next : f.next ≡ read_move move
