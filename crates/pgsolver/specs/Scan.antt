-- What a line is as a test: a header, or a vertex line.
use Rattle.std.specs.Prelude.{◌≡◌, ℕ, suc, zero, ◌+◌, ◌==◌, List, [], ◌∷◌, ◌++◌, length, map, codes, Option, Some, None, if◌then◌else◌}
use Rattle.text.specs.Text.{is_blank}
use Rattle.text.specs.Tokens.{capped, sign_at, number_at, number_before, quoted_at, end_at, ◌>>=◌}
use Rattle.game.specs.declared.player.Player.{Player}
use Rattle.game.specs.declared.player.Player.TheVariants.{Even, Odd}
use Rattle.pgsolver.specs.declared.scan.Head.{Head}
use Rattle.pgsolver.specs.Spelling.{VertexLine, is_vertex_name}

-- what a line says, with numbers that are too great for their type read as the greatest one
abbrev pub capped_line : VertexLine → VertexLine
capped_line x = record { id = capped x.id; priority = capped x.priority; owner = x.owner; successors = map capped x.successors }

-- what a line with this head and these successors says
abbrev pub line_said : Head → List ℕ → VertexLine
line_said head successors = record { id = head.id; priority = head.priority; owner = head.owner; successors = successors }

unfoldable pub header_at : List ℕ → Option ℕ
header_at line = do
  rest ← sign_at (codes "parity") line
  n ← number_before (codes ";") rest
  end_at n.0 n.1

-- what follows the blank in front
unfoldable pub gap_at : List ℕ → Option (List ℕ)
gap_at [] = None
gap_at (b ∷ rest) = if is_blank b then Some rest else None

-- the number before a blank, and what follows both
unfoldable pub number_gap : List ℕ → Option (ℕ × List ℕ)
number_gap line = do
  n ← number_at line
  rest ← gap_at n.1
  Some (n.0, rest)

-- the owner of a digit
abbrev pub owner_of_digit : ℕ → Option Player
owner_of_digit n = if n == 0 then Some Even else (if n == 1 then Some Odd else None)

unfoldable pub owner_at : List ℕ → Option (Player × List ℕ)
owner_at line = do
  n ← number_at line
  if n.0 == 0 then Some (Even, n.1) else (if n.0 == 1 then Some (Odd, n.1) else None)

unfoldable pub head_at : List ℕ → Option (Head × List ℕ)
head_at line = do
  i ← number_gap line
  p ← number_gap i.1
  o ← owner_at p.1
  Some (record { id = i.0; priority = p.0; owner = o.0 }, o.1)

-- the first successor, and what follows it
unfoldable pub first_at : List ℕ → Option (ℕ × List ℕ)
first_at line = do
  rest ← gap_at line
  number_at rest

-- the numbers from this sign on, if it is there, by what finds those behind the next number
abbrev pub more_behind : (List ℕ → Option (List ℕ × List ℕ)) → List ℕ → Option (List ℕ) → Option (List ℕ × List ℕ)
more_behind more line None = Some ([], line)
more_behind more line (Some rest) = number_at rest >>= λ n. more n.1 >>= λ m. Some (n.0 ∷ m.0, m.1)

-- The numbers behind commas, and what follows them. There are fewer than so many.
unfoldable pub more_at : ℕ → List ℕ → Option (List ℕ × List ℕ)
more_at zero line = None
more_at (suc most) line = more_behind (more_at most) line (sign_at (codes ",") line)

-- the successors from the first one on, if it is there
abbrev pub targets_behind : List ℕ → Option (ℕ × List ℕ) → Option (List ℕ × List ℕ)
targets_behind line None = Some ([], line)
targets_behind line (Some first) = more_at (length first.1 + 1) first.1 >>= λ more. Some (first.0 ∷ more.0, more.1)

-- all successors, and what follows them
unfoldable pub targets_at : List ℕ → Option (List ℕ × List ℕ)
targets_at line = targets_behind line (first_at line)

-- what follows the name, if it is there
abbrev pub name_behind : List ℕ → Option (List ℕ × List ℕ) → Option (List ℕ)
name_behind line None = Some line
name_behind line (Some name) = if is_vertex_name name.0 then Some name.1 else None

-- what follows the name, if there is one
unfoldable pub name_at : List ℕ → Option (List ℕ)
name_at line = name_behind line (quoted_at line)

-- a name, if there is one, and the end of the line
unfoldable pub tail_at : List ℕ → Option (Unit {0})
tail_at line = do
  rest ← name_at line
  rest ← sign_at (codes ";") rest
  end_at tt rest

unfoldable pub line_at : List ℕ → Option VertexLine
line_at line = do
  head ← head_at line
  targets ← targets_at head.1
  tail_at targets.1 >>= λ end. Some (line_said head.0 targets.0)

-- The numbers that were added to the list are those that a test found, with this left to read.
abbrev pub FindsMore : List ℕ → List ℕ → Option (List ℕ) → Option (List ℕ × List ℕ) → Type 0
FindsMore old new None found = found ≡ None
FindsMore old new (Some rest) found = (numbers : List ℕ) × (new ≡ old ++ numbers) × (found ≡ Some (numbers, rest))
