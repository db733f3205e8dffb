-- What a parser has read, and how far what follows lets it go on.
use Rattle.std.specs.Prelude.{◌≡◌, ◌⊎◌, ℕ, ◌<◌, ◌≤◌, Bool, true, false, List, [], ◌∷◌, ◌++◌, IsTrue, IsFalse, ◌==◌, ◌||◌, Option, Some, None}
use Rattle.grammar.specs.Token.{Token, Name, Atom, TrueWord, FalseWord, MuWord, NuWord, TauWord, NotSign, Less, OpenBox, ImpliesSign, OrSign, AndSign, Bar}
use Rattle.grammar.specs.Token.{Dot, ChoiceSign, PlusSign, StarSign}
use Rattle.grammar.specs.Syntax.{reg_tokens, reg_fits, reg_form, reg_nesting, reg_parens, Syntax, tokens, fits, form, nesting, parens, ends_in_binder}
use Rattle.grammar.specs.Syntax.{is_within_limits}
use Rattle.grammar.specs.Written.{bare_tokens, reg_syntax, state_syntax, infix_token, infix_row, repeat_token, connective_token, opening_bracket, binder_token}
use Rattle.grammar.specs.declared.token.Placed.{Placed}
use Rattle.grammar.specs.declared.written.WrittenRegular.{WrittenRegular}
use Rattle.grammar.specs.declared.written.Connective.{Connective}
use Rattle.grammar.specs.declared.written.WrittenState.{WrittenState}
use Rattle.grammar.specs.declared.regular.Suffix.{Suffix}
use Rattle.grammar.specs.declared.regular.Suffix.TheVariants as suffix
use Rattle.grammar.specs.declared.regular.ReadRegular.{ReadRegular}
use Rattle.grammar.specs.declared.state.ReadState.{ReadState}
use Rattle.grammar.specs.declared.state.Prefix.{Prefix}
use Rattle.grammar.specs.declared.state.Prefix.TheVariants as prefix

-- the row of the grammar's table that the first token would make of a regular formula before it; 8 where it can't go on
abbrev pub reg_row : List Token → ℕ
reg_row (Bar ∷ more) = 0
reg_row (AndSign ∷ more) = 2
reg_row (OrSign ∷ more) = 3
reg_row (ImpliesSign ∷ more) = 4
reg_row (StarSign ∷ more) = 5
reg_row (PlusSign ∷ more) = 5
reg_row (Dot ∷ more) = 6
reg_row (ChoiceSign ∷ more) = 7
reg_row _ = 8

-- the same of a state formula; 4 where it can't go on
abbrev pub state_row : List Token → ℕ
state_row (AndSign ∷ more) = 1
state_row (OrSign ∷ more) = 2
state_row (ImpliesSign ∷ more) = 3
state_row _ = 4

-- what was read: this formula, of this height, before these tokens
pub record IsRegularOf (syntax : WrittenRegular) (height : ℕ) (rest : List Placed) (r : ReadRegular) : Type 0 where
  pub is : r.syntax.value ≡ syntax
  pub high : r.height ≡ height
  pub after : r.rest.now ≡ rest

pub record IsStateOf (syntax : WrittenState) (height : ℕ) (rest : List Placed) (s : ReadState) : Type 0 where
  pub is : s.syntax.value ≡ syntax
  pub high : s.height ≡ height
  pub after : s.rest.now ≡ rest

-- the tokens of what was read, and those after it
abbrev pub regular_tokens : ReadRegular → List Token
regular_tokens r = reg_tokens (reg_syntax r.syntax.value) ++ bare_tokens r.rest.now

-- a regular formula of this row, of this height, within these limits
pub record IsRegular (level depth inside : ℕ) (r : ReadRegular) : Type 0 where
  pub grammatical : IsTrue (reg_fits (reg_syntax r.syntax.value))
  pub row : reg_form (reg_syntax r.syntax.value) ≤ level
  pub height : r.height ≡ reg_nesting (reg_syntax r.syntax.value)
  pub low : r.height ≤ depth
  pub narrow : reg_parens (reg_syntax r.syntax.value) ≤ inside

abbrev pub state_tokens : ReadState → List Token
state_tokens s = tokens (state_syntax s.syntax.value) ++ bare_tokens s.rest.now

-- A state formula of this row, of this height, within these limits. A binder at its end reaches as far as possible.
pub record IsReadState (level depth inside : ℕ) (s : ReadState) : Type 0 where
  pub grammatical : IsTrue (fits (state_syntax s.syntax.value))
  pub row : form (state_syntax s.syntax.value) ≤ level
  pub height : s.height ≡ nesting (state_syntax s.syntax.value)
  pub low : s.height ≤ depth
  pub narrow : parens (state_syntax s.syntax.value) ≤ inside
  pub reaches : ends_in_binder (state_syntax s.syntax.value) ≡ true → 3 < state_row (bare_tokens s.rest.now)
  pub ended : form (state_syntax s.syntax.value) < state_row (bare_tokens s.rest.now)

-- What was read may stand before the next token in a longer formula, if that token goes on at all.
abbrev pub MayGoOn : ReadRegular → Type 0
MayGoOn r = let form = reg_form (reg_syntax r.syntax.value) in let row = reg_row (bare_tokens r.rest.now) in (form < row) ⊎ ((form ≤ 5) × (row ≡ 5))

-- the token of what goes on after a regular formula, and the row of the grammar's table that it makes
abbrev pub suffix_token : Suffix → Token
suffix_token (suffix.Infix sign) = infix_token sign
suffix_token (suffix.Repeat sign) = repeat_token sign

abbrev pub suffix_row : Suffix → ℕ
suffix_row (suffix.Infix sign) = infix_row sign
suffix_row (suffix.Repeat sign) = 5

-- how the token goes on after a regular formula
abbrev pub IsSuffix : Token → Option Suffix → Type 0
IsSuffix token (Some next) = token ≡ suffix_token next
IsSuffix token None = (more : List Token) → IsTrue (reg_row (token ∷ more) == 0 || reg_row (token ∷ more) == 8)

-- whether the token is an atom by itself, whatever follows
abbrev pub is_word : Token → Bool
is_word TrueWord = true
is_word FalseWord = true
is_word TauWord = true
is_word (Atom bytes) = true
is_word _ = false

-- the atom that is this one token
abbrev pub IsWordOf : Token → Option WrittenRegular → Type 0
IsWordOf token (Some r) = (reg_tokens (reg_syntax r) ≡ token ∷ []) × (reg_form (reg_syntax r) ≡ 0) × (reg_nesting (reg_syntax r) ≡ 0)
    × (reg_parens (reg_syntax r) ≡ 0) × IsTrue (reg_fits (reg_syntax r)) × IsTrue (is_word token)
IsWordOf token None = is_word token ≡ false

-- whether a bar stands first
abbrev pub MatchBar : List Token → Bool → Type 0
MatchBar (Bar ∷ more) bar = bar ≡ true
MatchBar more bar = (bar ≡ false) × (0 < reg_row more)

-- how the token goes on after a state formula
abbrev pub IsConnective : Token → Option Connective → Type 0
IsConnective token (Some sign) = token ≡ connective_token sign
IsConnective token None = (more : List Token) → state_row (token ∷ more) ≡ 4

-- the first token of what stands before a unary formula
abbrev pub prefix_token : Prefix → Token
prefix_token prefix.Not = NotSign
prefix_token (prefix.Modal mark) = opening_bracket mark
prefix_token (prefix.Bind word) = binder_token word

abbrev pub is_prefix : Token → Bool
is_prefix NotSign = true
is_prefix Less = true
is_prefix OpenBox = true
is_prefix MuWord = true
is_prefix NuWord = true
is_prefix _ = false

abbrev pub IsPrefix : Token → Option Prefix → Type 0
IsPrefix token (Some prefix) = token ≡ prefix_token prefix
IsPrefix token None = IsFalse (is_prefix token)

-- whether the token is a state formula by itself
abbrev pub is_state_word : Token → Bool
is_state_word TrueWord = true
is_state_word FalseWord = true
is_state_word (Name x) = true
is_state_word _ = false

-- the formula that is this one token
abbrev pub IsOneToken : Token → Option WrittenState → Type 0
IsOneToken token (Some s) = (tokens (state_syntax s) ≡ token ∷ []) × (form (state_syntax s) ≡ 0) × (nesting (state_syntax s) ≡ 0)
    × (parens (state_syntax s) ≡ 0) × IsTrue (fits (state_syntax s)) × (ends_in_binder (state_syntax s) ≡ false)
IsOneToken token None = IsFalse (is_state_word token)

-- these tokens are the formula, which is of the grammar and within the limits
pub record IsWholeFormula (s : Syntax) (ts : List Token) : Type 0 where
  pub spelled : tokens s ≡ ts
  pub grammatical : IsTrue (fits s)
  pub within : IsTrue (is_within_limits s)
