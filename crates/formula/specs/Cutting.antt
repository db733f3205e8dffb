-- How a text is cut from its front on.
use Rattle.std.specs.Prelude.{◌≡◌, ℕ, ◌<◌, ◌≤◌, Bool, false, not, List, [], ◌∷◌, ◌++◌, map, length, take, drop, IsTrue, IsFalse, Option, Some, None}
use Rattle.std.specs.Prelude.{slice_get, ◌==◌, ◌&&◌, ◌||◌, if◌then◌else◌}
use Rattle.std.specs.List.{list_any}
use Rattle.std.specs.Str.{bytes_eq}
use Rattle.text.specs.Text.{is_name, is_name_byte}
use Rattle.grammar.specs.Token.{Token, Reserved, Atom, ChoiceSign, PlusSign, spelling, reserved_words, IsToken, Segment, Word, begins, token_ends, text_of}
use Rattle.grammar.specs.Token.{Cuts, tokens_of, offsets_from, is_decided, is_reserved}
use Rattle.grammar.specs.Written.{bare_tokens}
use Rattle.formula.specs.Fault.{TokenFault}
use Rattle.grammar.specs.declared.token.Placed.{Placed}
use Rattle.formula.specs.declared.error.FormulaFault.{FormulaFault}
use Rattle.formula.specs.declared.error.FormulaFault.TheVariants as fault
use Rattle.formula.specs.declared.error.FormulaError.{FormulaError}
use Rattle.formula.specs.declared.error.FormulaError.TheVariants as refused

-- the first n bytes of the text are these pieces
pub record IsFront (pieces : List Segment) (n : ℕ) (text : List ℕ) : Type 0 where
  pub joined : take n text ≡ text_of pieces
  pub within : n ≤ length text
  pub cut : Cuts pieces (drop n text)

-- the first n bytes of the text are blanks and comments
pub record IsGap (n : ℕ) (text : List ℕ) : Type 0 where
  pub pieces : List Segment
  pub front : IsFront pieces n text
  pub wordless : tokens_of pieces ≡ []

-- a blank or a comment begins with this byte
abbrev pub begins_gap : ℕ → Bool
begins_gap b = b == 32 || b == 9 || b == 13 || b == 10 || b == 37

-- the first n bytes of the text are this token
pub record IsFirst (token : Token) (n : ℕ) (text : List ℕ) : Type 0 where
  pub front : IsFront (Word token ∷ []) n text
  pub some : 0 < n

-- a token of one byte; a bar is one where no bar follows
pub record IsSingle (byte : ℕ) (token : Token) : Type 0 where
  pub spelled : spelling token ≡ byte ∷ []
  pub valid : IsToken token
  pub ends : (rest : List ℕ) → (byte ≡ 124 → IsTrue (not (begins (λ b. b == 124) rest))) → IsTrue (token_ends token rest)

-- a token of two bytes
pub record IsDouble (byte : ℕ) (next : Option ℕ) (token : Token) : Type 0 where
  pub second : ℕ
  pub there : next ≡ Some second
  pub spelled : spelling token ≡ byte ∷ second ∷ []
  pub valid : IsToken token
  pub ends : (rest : List ℕ) → IsTrue (token_ends token rest)

-- these bytes are a sign of two bytes
abbrev pub is_double : ℕ → Option ℕ → Bool
is_double b None = false
is_double b (Some c) = (b == 61 && c == 62) || (b == 124 && c == 124) || (b == 38 && c == 38)

-- this byte is a sign of one byte
abbrev pub is_single : ℕ → Bool
is_single b = b == 124 || b == 33 || b == 60 || b == 62 || b == 91 || b == 93 || b == 40 || b == 41 || b == 46 || b == 43 || b == 42

-- the token that a name is, if it is not reserved
pub record IsNameToken (name : List ℕ) (token : Token) : Type 0 where
  pub spelled : spelling token ≡ name
  pub valid : IsTrue (is_name name) → list_any (bytes_eq name) reserved_words ≡ false → IsToken token
  pub ends : (rest : List ℕ) → token_ends token rest ≡ not (begins is_name_byte rest)

-- the token stands at the front of the text, and ends there
pub record Stands (token : Token) (text : List ℕ) : Type 0 where
  pub rest : List ℕ
  pub joined : text ≡ spelling token ++ rest
  pub valid : IsToken token
  pub ends : IsTrue (token_ends token rest)

-- no quoted atom stands at the front
abbrev pub IsAtomless : List ℕ → FormulaFault → Type 0
IsAtomless text found = (found ≡ fault.NoToken) × ((bytes : List ℕ) → Stands (Atom bytes) text → ⊥)

-- no sign stands at the front
abbrev pub IsSignless : List ℕ → FormulaFault → Type 0
IsSignless [] found = ⊥
IsSignless (b ∷ text) found = (found ≡ fault.NoToken) × IsFalse (is_single b) × IsFalse (is_double b (slice_get text 0))

-- a reserved word stands at the front
abbrev pub BeginsReserved : List ℕ → FormulaFault → Type 0
BeginsReserved text found = (found ≡ fault.ReservedWord) × (word : List ℕ) × Stands (Reserved word) text

-- no token stands at the front; or a reserved word
abbrev pub IsTokenless : List ℕ → FormulaFault → Type 0
IsTokenless text fault.NoToken = (token : Token) → Stands token text → ⊥
IsTokenless text fault.ReservedWord = (word : List ℕ) × Stands (Reserved word) text
IsTokenless text _ = ⊥

-- whether this byte begins a token before which a `+` is the postfix sign
abbrev pub is_postfix_before : Option ℕ → Bool
is_postfix_before None = false
is_postfix_before (Some b) = b == 46 || b == 43 || b == 42 || b == 41 || b == 93 || b == 62

-- the tokens that a text begins with, as far as their first byte tells
abbrev pub Heads : List Token → List ℕ → Type 0
Heads [] text = text ≡ []
Heads (token ∷ tokens) text = (b : ℕ) × (bytes more : List ℕ) × (text ≡ b ∷ more) × (spelling token ≡ b ∷ bytes) × IsToken token × (is_reserved token ≡ false)

-- the text up to here is these tokens, whatever decided tokens follow; no blank and no comment stands here
pub record IsCut (text : List ℕ) (n : ℕ) (placed : List Placed) : Type 0 where
  pub pieces : List Segment
  pub front : IsFront pieces n text
  pub over : IsFalse (begins begins_gap (drop n text))
  pub spelled : tokens_of pieces ≡ bare_tokens placed
  pub places : offsets_from 0 pieces ≡ map (λ p. p.offset) placed
  pub decided : (tokens : List Token) → IsTrue (is_decided tokens) → Heads tokens (drop n text) → IsTrue (is_decided (tokens_of pieces ++ tokens))

-- the text is these tokens, each at its place
pub record IsLexed (text : List ℕ) (placed : List Placed) : Type 0 where
  pub pieces : List Segment
  pub joined : text ≡ text_of pieces
  pub cut : Cuts pieces []
  pub decided : IsTrue (is_decided (tokens_of pieces))
  pub spelled : tokens_of pieces ≡ bare_tokens placed
  pub places : offsets_from 0 pieces ≡ map (λ p. p.offset) placed

-- a refusal names the first byte where no token begins, or the first reserved word
abbrev pub IsTokenRefusal : List ℕ → FormulaError → Type 0
IsTokenRefusal text (refused.Fault found offset) = TokenFault text found offset
IsTokenRefusal text refused.Memory = Unit {0}

-- a `+` is the postfix sign before such a byte, else the sign of choice; other tokens are as they are
abbrev pub IsDecidedBy : Token → Option ℕ → Token → Type 0
IsDecidedBy ChoiceSign next token = token ≡ (if is_postfix_before next then PlusSign else ChoiceSign)
IsDecidedBy PlusSign next token = token ≡ (if is_postfix_before next then PlusSign else ChoiceSign)
IsDecidedBy other next token = token ≡ other
