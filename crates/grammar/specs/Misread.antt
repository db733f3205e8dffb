-- Where the reading of tokens ends, and why: which formulas begin with the tokens up to there, and which stand at the front.
use Rattle.std.specs.Prelude.{◌≡◌, ℕ, ◌<◌, ◌≤◌, true, List, [], ◌∷◌, ◌++◌, length, take, IsTrue, Result, MatchResult, suc}
use Rattle.grammar.specs.declared.limits.TheConstants.{DEEPEST, MOST_PARENS}
use Rattle.grammar.specs.Token.{Token, Name}
use Rattle.grammar.specs.Syntax.{RegSyntax, reg_tokens, reg_fits, reg_form, reg_nesting, reg_parens, Syntax, tokens, fits, form, nesting, parens}
use Rattle.grammar.specs.Syntax.{ends_in_binder}
use Rattle.grammar.specs.Written.{bare_tokens}
use Rattle.grammar.specs.Read.{reg_row, state_row, regular_tokens, IsRegular, MayGoOn, state_tokens, IsReadState}
use Rattle.grammar.specs.declared.misread.Misread.{Misread}
use Rattle.grammar.specs.declared.regular.ReadRegular.{ReadRegular}
use Rattle.grammar.specs.declared.state.ReadState.{ReadState}
use Rattle.grammar.specs.declared.misread.Misread.TheVariants as misread

-- a regular formula of this row that begins with these tokens; how deep it nests, and how many parentheses it opens
pub record BeginsRegular (level nested opened : ℕ) (front : List Token) : Type 0 where
  pub syntax : RegSyntax
  pub more : List Token
  pub grammatical : IsTrue (reg_fits syntax)
  pub row : reg_form syntax ≤ level
  pub nests : reg_nesting syntax ≡ nested
  pub opens : reg_parens syntax ≡ opened
  pub spelled : reg_tokens syntax ≡ front ++ more

-- a regular formula of this row that stands at the front of these tokens, where the next one doesn't let it go on
pub record StandsRegular (level nested opened : ℕ) (ts : List Token) : Type 0 where
  pub syntax : RegSyntax
  pub rest : List Token
  pub grammatical : IsTrue (reg_fits syntax)
  pub row : reg_form syntax ≤ level
  pub nests : reg_nesting syntax ≡ nested
  pub opens : reg_parens syntax ≡ opened
  pub stops : level < reg_row rest
  pub spelled : reg_tokens syntax ++ rest ≡ ts

-- the same of state formulas
pub record BeginsState (level nested opened : ℕ) (front : List Token) : Type 0 where
  pub syntax : Syntax
  pub more : List Token
  pub grammatical : IsTrue (fits syntax)
  pub row : form syntax ≤ level
  pub nests : nesting syntax ≡ nested
  pub opens : parens syntax ≡ opened
  pub spelled : tokens syntax ≡ front ++ more

pub record StandsState (level nested opened : ℕ) (ts : List Token) : Type 0 where
  pub syntax : Syntax
  pub rest : List Token
  pub grammatical : IsTrue (fits syntax)
  pub row : form syntax ≤ level
  pub nests : nesting syntax ≡ nested
  pub opens : parens syntax ≡ opened
  pub stops : level < state_row rest
  pub reaches : ends_in_binder syntax ≡ true → 3 < state_row rest
  pub spelled : tokens syntax ++ rest ≡ ts

-- a formula within these limits
pub record Within (found : ℕ → ℕ → List Token → Type 0) (depth inside : ℕ) (ts : List Token) : Type 0 where
  pub nested : ℕ
  pub opened : ℕ
  pub it : found nested opened ts
  pub low : nested ≤ depth
  pub narrow : opened ≤ inside

-- A formula within the limits begins with the tokens before this one, and no formula with it; or none ends with the tokens.
pub record IsUnexpected (begins stands : ℕ → ℕ → List Token → Type 0) (depth inside : ℕ) (ts : List Token) (left : ℕ) : Type 0 where
  pub front : List Token
  pub back : List Token
  pub joined : ts ≡ front ++ back
  pub place : left ≡ length back
  pub begun : Within begins depth inside front
  pub none : (nested opened : ℕ) (more : List Token) → (back ≡ [] → more ≡ []) → stands nested opened (front ++ (take 1 back ++ more)) → ⊥

-- A formula within the limits begins with the tokens before this one, and with it none within the limits.
pub record IsTooLarge (begins stands : ℕ → ℕ → List Token → Type 0) (depth inside : ℕ) (ts : List Token) (left : ℕ) : Type 0 where
  pub front : List Token
  pub token : Token
  pub back : List Token
  pub joined : ts ≡ front ++ token ∷ back
  pub place : left ≡ suc (length back)
  pub begun : Within begins depth inside front
  pub goes_on : (nested opened : ℕ) × begins nested opened (front ++ token ∷ [])
  pub none : (more : List Token) → Within stands depth inside (front ++ token ∷ more) → ⊥

abbrev pub IsMisread : (begins stands : ℕ → ℕ → List Token → Type 0) → (depth inside : ℕ) → List Token → Misread → Type 0
IsMisread begins stands depth inside ts (misread.Unexpected left) = IsUnexpected begins stands depth inside ts left
IsMisread begins stands depth inside ts (misread.TooLarge left) = IsTooLarge begins stands depth inside ts left
IsMisread begins stands depth inside ts misread.Memory = Unit {0}

-- why the tokens begin with no regular formula of this row within the limits
abbrev pub IsRegularMisread : (level depth inside : ℕ) → List Token → Misread → Type 0
IsRegularMisread level depth inside ts e = IsMisread (BeginsRegular level) (StandsRegular level) depth inside ts e

-- and with no state formula
abbrev pub IsStateMisread : (level depth inside : ℕ) → List Token → Misread → Type 0
IsStateMisread level depth inside ts e = IsMisread (BeginsState level) (StandsState level) depth inside ts e

-- what was read of these tokens: a regular formula of this row within these limits, before a token that doesn't let it go on
pub record ReadsRegular (level depth inside : ℕ) (ts : List Token) (r : ReadRegular) : Type 0 where
  pub eaten : regular_tokens r ≡ ts
  pub sound : IsRegular level depth inside r
  pub stops : level < reg_row (bare_tokens r.rest.now)

-- the longest regular formula at the front of the tokens, or why there is none
abbrev pub RegularOf : (level depth inside : ℕ) → List Token → Result ReadRegular Misread → Type 0
RegularOf level depth inside ts result = MatchResult result (ReadsRegular level depth inside ts) (IsRegularMisread level depth inside ts)

-- a regular formula of this row that begins with this one and takes more of the same tokens
pub record LongerRegular (level depth inside : ℕ) (left r : ReadRegular) : Type 0 where
  pub eaten : regular_tokens r ≡ regular_tokens left
  pub sound : IsRegular level depth inside r
  pub onward : MayGoOn r
  pub shorter : length r.rest.now < length left.rest.now

abbrev pub RegularFrom : (level depth inside : ℕ) → ReadRegular → Result ReadRegular Misread → Type 0
RegularFrom level depth inside left result = MatchResult result (LongerRegular level depth inside left)
    (IsRegularMisread level depth inside (regular_tokens left))

-- the same of state formulas
pub record ReadsState (level depth inside : ℕ) (ts : List Token) (s : ReadState) : Type 0 where
  pub eaten : state_tokens s ≡ ts
  pub sound : IsReadState level depth inside s
  pub stops : level < state_row (bare_tokens s.rest.now)

abbrev pub StateOf : (level depth inside : ℕ) → List Token → Result ReadState Misread → Type 0
StateOf level depth inside ts result = MatchResult result (ReadsState level depth inside ts) (IsStateMisread level depth inside ts)

pub record LongerState (level depth inside : ℕ) (left s : ReadState) : Type 0 where
  pub eaten : state_tokens s ≡ state_tokens left
  pub sound : IsReadState level depth inside s
  pub shorter : length s.rest.now < length left.rest.now

abbrev pub StateFrom : (level depth inside : ℕ) → ReadState → Result ReadState Misread → Type 0
StateFrom level depth inside left result = MatchResult result (LongerState level depth inside left) (IsStateMisread level depth inside (state_tokens left))

-- a formula that is these tokens
pub record SpellsTokens (nested opened : ℕ) (ts : List Token) : Type 0 where
  pub syntax : Syntax
  pub grammatical : IsTrue (fits syntax)
  pub nests : nesting syntax ≡ nested
  pub opens : parens syntax ≡ opened
  pub spelled : tokens syntax ≡ ts

-- why the tokens are no formula within the limits
abbrev pub IsWholeMisread : List Token → Misread → Type 0
IsWholeMisread ts e = IsMisread (BeginsState 3) SpellsTokens DEEPEST MOST_PARENS ts e

-- this token, which had to come next, doesn't
abbrev pub IsMissing : Token → List Token → Misread → Type 0
IsMissing token ts e = (e ≡ misread.Unexpected (length ts)) × ((more : List Token) → ts ≡ token ∷ more → ⊥)

-- a name had to come next
abbrev pub IsNameMissing : List Token → Misread → Type 0
IsNameMissing ts e = (e ≡ misread.Unexpected (length ts)) × ((name : List ℕ) (more : List Token) → ts ≡ Name name ∷ more → ⊥)
