-- A vertex line as tools write it, with a blank where one is needed and nowhere else: what it says, and what follows its LF.
use Rattle.std.specs.Prelude.{◌≡◌, ℕ, List, [], ◌∷◌, ◌++◌, Option, Some, None, IsTrue}
use Rattle.std.specs.List.{AllZip, list_all}
use Rattle.text.specs.Text.{is_numeral, value_of}
use Rattle.text.specs.Tokens.{capped}
use Rattle.text.specs.Stream.{is_inside}
use Rattle.pgsolver.specs.declared.scan.Head.{Head}
use Rattle.pgsolver.specs.Canon.{owner_digit}
use Rattle.pgsolver.specs.Spelling.{VertexLine, IsName}
use Rattle.pgsolver.specs.Scan.{line_at}
use Rattle.pgsolver.specs.Passes.{PassesVertex}

-- the digits are the number's, which is the greatest of its type where they say more
abbrev pub IsNumeralOf : List ℕ → ℕ → Type 0
IsNumeralOf digits n = IsTrue (is_numeral digits) × (n ≡ capped (value_of digits))

-- `12 3 0 `, and what follows
pub record IsHeadThen (head : Head) (text left : List ℕ) : Type 0 where
  pub i : List ℕ
  pub p : List ℕ
  pub id : IsNumeralOf i head.id
  pub priority : IsNumeralOf p head.priority
  pub cut : text ≡ i ++ (32 ∷ p ++ (32 ∷ owner_digit head.owner ++ (32 ∷ left)))

-- `,4,5`, and what follows
abbrev pub commas : List (List ℕ) → List ℕ → List ℕ
commas [] rest = rest
commas (digits ∷ more) rest = 44 ∷ digits ++ commas more rest

-- the numbers in front, each behind a comma, were added to the list
pub record AddsCommas (old new text left : List ℕ) : Type 0 where
  pub digits : List (List ℕ)
  pub numbers : List ℕ
  pub are : AllZip IsNumeralOf digits numbers
  pub added : new ≡ old ++ numbers
  pub cut : text ≡ commas digits left

-- ` "name"` if there is one, and what follows
abbrev pub name_then : Option (List ℕ) → List ℕ → List ℕ
name_then None rest = rest
name_then (Some name) rest = 32 ∷ 34 ∷ name ++ (34 ∷ rest)

-- a name, if there is one, `;` and an LF, and what follows
pub record IsTailThen (text left : List ℕ) : Type 0 where
  pub name : Option (List ℕ)
  pub is : IsName name
  pub cut : text ≡ name_then name (59 ∷ 10 ∷ left)

-- the line in front says this, and what follows its LF
pub record IsLineThen (says : VertexLine) (text left : List ℕ) : Type 0 where
  pub line : List ℕ
  pub inside : IsTrue (list_all is_inside line)
  pub cut : text ≡ line ++ 10 ∷ left
  pub is : line_at line ≡ Some says

-- the line is a vertex line, and is taken; or nothing is
abbrev pub PassesPgAtHand : List ℕ → Option Head → List ℕ → List ℕ → Type 0
PassesPgAtHand targets (Some head) text left = PassesVertex targets (Some head) text left
PassesPgAtHand targets None text left = left ≡ text
