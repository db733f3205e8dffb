-- The first line of what a reader has left, as it is read token by token.
use Rattle.std.specs.Prelude.{◌≡◌, ◌≢◌, ℕ, Bool, not, ◌&&◌, ◌==◌, List, [], ◌∷◌, ◌++◌, take, Option, Some, None, if◌then◌else◌, IsTrue, IsFalse, IfSome}
use Rattle.std.specs.Prelude.{MatchBool}
use Rattle.std.specs.List.{list_all}
use Rattle.std.specs.Io.BufRead.{drop_through}
use Rattle.text.specs.Text.{is_blank, is_digit, without_cr, lines}
use Rattle.text.specs.Lines.{IfKnown}
use Rattle.text.specs.declared.stream.Class.{Class}
use Rattle.text.specs.declared.stream.Class.TheVariants.{Blank, Digit, Inner}

-- the bytes before the first LF
abbrev pub first_piece : List ℕ → List ℕ
first_piece [] = []
first_piece (b ∷ text) = if b == 10 then [] else b ∷ first_piece text

-- the first line, without its end
abbrev pub line_of : List ℕ → List ℕ
line_of text = without_cr (first_piece text)

-- what follows the first LF
abbrev pub after_line : List ℕ → List ℕ
after_line = drop_through 10

abbrev pub front_byte : List ℕ → Option ℕ
front_byte [] = None
front_byte (b ∷ text) = Some b

-- the bytes of a class: `Inner` are those that a quote may stand around
abbrev pub is_of : Class → ℕ → Bool
is_of Blank b = is_blank b
is_of Digit b = is_digit b
is_of Inner b = not (b == 34) && not (b == 10)

-- the next byte is looked at, and left
abbrev pub Shows : Option (List ℕ) → Option (List ℕ) → Option ℕ → Type 0
Shows old new next = IfKnown old new (λ text left. (left ≡ text) × (front_byte text ≡ next))

-- this byte was next, and is taken; or another, or none, and nothing is
abbrev pub Takes : Option (List ℕ) → Option (List ℕ) → ℕ → Bool → Type 0
Takes old new byte found = IfKnown old new (λ text left. MatchBool found (text ≡ byte ∷ left) ((left ≡ text) × (front_byte text ≢ Some byte)))

-- the bytes of this word were next, and are taken; or they were not
abbrev pub TakesAll : List ℕ → Bool → List ℕ → List ℕ → Type 0
TakesAll word found text left = MatchBool found (text ≡ word ++ left) ((rest : List ℕ) → text ≡ word ++ rest → ⊥)

-- no byte of the end of a line
abbrev pub is_inside : ℕ → Bool
is_inside b = not (b == 10) && not (b == 13)

-- the bytes of the class in front are taken, as many as there are, and the first of them kept
pub record Runs (class : Class) (most : ℕ) (kept text left : List ℕ) : Type 0 where
  pub run : List ℕ
  pub cut : text ≡ run ++ left
  pub all : IsTrue (list_all (is_of class) run)
  pub stop : IfSome (front_byte left) (λ b. IsFalse (is_of class b))
  pub front : kept ≡ take most run

-- The bytes of the class in front are taken as far as they were at hand, and the first of them kept beside those that were kept of the bytes before.
-- Where the run has ended no more follow.
pub record RunsOn (class : Class) (most : ℕ) (before after : List ℕ) (ended : Bool) (text left : List ℕ) : Type 0 where
  pub run : List ℕ
  pub cut : text ≡ run ++ left
  pub all : IsTrue (list_all (is_of class) run)
  pub stop : IsTrue ended → IfSome (front_byte left) (λ b. IsFalse (is_of class b))
  pub more : (front : List ℕ) → before ≡ take most front → after ≡ take most (front ++ run)

-- the bytes of the class in front are taken, and this byte is next
abbrev pub RunsTo : Class → Option ℕ → List ℕ → List ℕ → Type 0
RunsTo class next text left = Runs class 0 [] text left × (front_byte left ≡ next)

-- there is a line, or the text has ended; nothing is taken
abbrev pub HasLine : Option (List ℕ) → Option (List ℕ) → Bool → Type 0
HasLine old new more = IfKnown old new (λ text left. (left ≡ text) × MatchBool more (lines text ≡ line_of text ∷ lines (after_line text)) (lines text ≡ []))

-- the front of the line is what `at` finds there, and what follows it is left; or `at` finds nothing
abbrev pub Passes : {A : Type 0} → (List ℕ → Option (A × List ℕ)) → Option A → List ℕ → List ℕ → Type 0
Passes at (Some a) text left = (at (line_of text) ≡ Some (a, line_of left)) × (after_line text ≡ after_line left)
Passes at None text left = at (line_of text) ≡ None

-- the same where nothing but what follows is found
abbrev pub PassesSign : (List ℕ → Option (List ℕ)) → Bool → List ℕ → List ℕ → Type 0
PassesSign at found text left = MatchBool found ((at (line_of text) ≡ Some (line_of left)) × (after_line text ≡ after_line left)) (at (line_of text) ≡ None)

-- the same where the first bytes of what is found are kept
abbrev pub PassesKept : (List ℕ → Option (List ℕ × List ℕ)) → ℕ → List ℕ → Bool → List ℕ → List ℕ → Type 0
PassesKept at most kept found text left =
    MatchBool found ((whole : List ℕ) × (at (line_of text) ≡ Some (whole, line_of left)) × (after_line text ≡ after_line left) × (kept ≡ take most whole))
    (at (line_of text) ≡ None)

-- nothing but blanks was left of the line, and it is taken with its end; or something was
abbrev pub Ends : Bool → List ℕ → List ℕ → Type 0
Ends found text left = MatchBool found (IsTrue (list_all is_blank (line_of text)) × (left ≡ after_line text)) (IsFalse (list_all is_blank (line_of text)))

-- the whole line is what `at` finds, and it is taken with its end; or `at` finds nothing
abbrev pub PassesLine : {A : Type 0} → (List ℕ → Option A) → Option A → List ℕ → List ℕ → Type 0
PassesLine at (Some a) text left = (at (line_of text) ≡ Some a) × (left ≡ after_line text)
PassesLine at None text left = at (line_of text) ≡ None
