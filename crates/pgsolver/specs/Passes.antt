-- What the first line of what a reader has left says, as it is read token by token.
use Rattle.std.specs.Prelude.{◌≡◌, ℕ, ◌+◌, Bool, List, ◌++◌, length, codes, Option, Some, None, MatchBool, IfSome, IsTrue, IsFalse}
use Rattle.std.specs.List.{list_all}
use Rattle.text.specs.Text.{is_blank}
use Rattle.text.specs.Tokens.{past_blanks, sign_at, number_at, ◌>>=◌}
use Rattle.text.specs.Stream as stream
use Rattle.text.specs.Stream.{after_line, front_byte}
use Rattle.game.specs.NumberSet.{number_set}
use Rattle.pgsolver.specs.declared.scan.Head.{Head}
use Rattle.pgsolver.specs.Scan.{line_said, gap_at, more_at, targets_at, name_at, tail_at, line_at, FindsMore}

-- the first line
abbrev pub first : List ℕ → List ℕ
first = stream.line_of

-- the blanks in front are taken, as many as there are
pub record SkipsBlanks (text left : List ℕ) : Type 0 where
  pub run : List ℕ
  pub cut : text ≡ run ++ left
  pub all : IsTrue (list_all is_blank run)
  pub stop : IfSome (front_byte left) (λ b. IsFalse (is_blank b))

-- the same, and this byte is next then
abbrev pub SkipsTo : Option ℕ → List ℕ → List ℕ → Type 0
SkipsTo next text left = SkipsBlanks text left × (front_byte left ≡ next)

-- the blanks in front were taken
pub record IsPast (text left : List ℕ) : Type 0 where
  pub same : past_blanks (first text) ≡ past_blanks (first left)
  pub under : after_line text ≡ after_line left

-- the blank that was next is taken; or none was, and nothing is
abbrev pub PassesGap : Bool → List ℕ → List ℕ → Type 0
PassesGap found text left = MatchBool found ((gap_at (first text) ≡ Some (first left)) × (after_line text ≡ after_line left)) ((gap_at (first text) ≡ None) × (left ≡ text))

-- the comma past the blanks is taken; or there is none, and the blanks are
abbrev pub PassesComma : Bool → List ℕ → List ℕ → Type 0
PassesComma found text left =
    MatchBool found ((sign_at (codes ",") (first text) ≡ Some (first left)) × (after_line text ≡ after_line left))
    ((sign_at (codes ",") (first text) ≡ None) × IsPast text left)

-- the blanks are taken, and a digit follows, as no end of a line begins; or there is no number
abbrev pub PassesDigit : Bool → List ℕ → List ℕ → Type 0
PassesDigit found text left = IsPast text left × MatchBool found (tail_at (first text) ≡ None) (number_at (first text) ≡ None)

-- what a test found on the first line was added to the list, where a number that stands twice may be once, and what is left ends a line as what follows
pub record HasRead (old new : List ℕ) (found : Option (List ℕ × List ℕ)) (text left : List ℕ) : Type 0 where
  pub all : List ℕ
  pub rest : List ℕ
  pub numbers : FindsMore old all (Some rest) found
  pub same : number_set new ≡ number_set all
  pub after : tail_at rest ≡ tail_at (first left)
  pub under : after_line text ≡ after_line left

-- the numbers behind commas are read; or none stands behind one of them
abbrev pub PassesMore : List ℕ → List ℕ → Bool → List ℕ → List ℕ → Type 0
PassesMore old new found text left =
    MatchBool found (HasRead old new (more_at (length (first text) + 1) (first text)) text left) (more_at (length (first text) + 1) (first text) ≡ None)

-- the successors, and that the line ends behind them
unfoldable pub rest_at : List ℕ → Option (List ℕ)
rest_at line = do
  targets ← targets_at line
  tail_at targets.1 >>= λ end. Some targets.0

-- the successors are read; or no line goes on so
abbrev pub PassesTargets : List ℕ → List ℕ → Bool → List ℕ → List ℕ → Type 0
PassesTargets old new found text left = MatchBool found (HasRead old new (targets_at (first text)) text left) (rest_at (first text) ≡ None)

-- the name, if there is one, is taken; or no line ends so
abbrev pub PassesName : Bool → List ℕ → List ℕ → Type 0
PassesName found text left =
    MatchBool found ((rest : List ℕ) × (name_at (first text) ≡ Some rest) × (sign_at (codes ";") rest ≡ sign_at (codes ";") (first left))
    × (after_line text ≡ after_line left)) (tail_at (first text) ≡ None)

-- the line ends so, and is taken with its end; or it doesn't
abbrev pub PassesTail : Bool → List ℕ → List ℕ → Type 0
PassesTail found text left = MatchBool found ((tail_at (first text) ≡ Some tt) × (left ≡ after_line text)) (tail_at (first text) ≡ None)

-- the line is a vertex line, whose successors are those of the list, and is taken with its end; or it is none
abbrev pub PassesVertex : List ℕ → Option Head → List ℕ → List ℕ → Type 0
PassesVertex targets (Some head) text left =
    (numbers : List ℕ) × (line_at (first text) ≡ Some (line_said head numbers)) × (number_set targets ≡ number_set numbers) × (left ≡ after_line text)
PassesVertex targets None text left = line_at (first text) ≡ None
