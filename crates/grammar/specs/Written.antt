-- What tokens and written formulas of the program stand for.
use Rattle.std.specs.Prelude.{ℕ, Bool, true, false, List, map}
use Rattle.grammar.specs.Token.{Token, Name, Atom, TrueWord, FalseWord, MuWord, NuWord, TauWord, ImpliesSign, OrSign, AndSign, Bar, NotSign, Less, Greater}
use Rattle.grammar.specs.Token.{OpenBox, CloseBox, Open, Close, Dot, ChoiceSign, PlusSign, StarSign}
use Rattle.grammar.specs.Syntax.{RegSyntax, Anything', Nothing', Tau', Names', Quoted', Parens', Not', And', Or', Implies', Star', Plus', Then', Either'}
use Rattle.grammar.specs.Syntax.{Syntax, True', False', Var', Group', Neg', Both', OneOf', If', Dia', Box', Mu', Nu'}
use Rattle.grammar.specs.declared.token.Token.{Token as Lexeme}
use Rattle.grammar.specs.declared.token.Token.TheVariants as lexeme
use Rattle.grammar.specs.declared.token.Placed.{Placed}
use Rattle.grammar.specs.declared.written.Infix.{Infix}
use Rattle.grammar.specs.declared.written.Infix.TheVariants as sign
use Rattle.grammar.specs.declared.written.Repeat.{Repeat}
use Rattle.grammar.specs.declared.written.Repeat.TheVariants as repeat
use Rattle.grammar.specs.declared.written.Connective.{Connective}
use Rattle.grammar.specs.declared.written.Connective.TheVariants as connective
use Rattle.grammar.specs.declared.written.Brackets.{Brackets}
use Rattle.grammar.specs.declared.written.Brackets.TheVariants as brackets
use Rattle.grammar.specs.declared.written.Binder.{Binder}
use Rattle.grammar.specs.declared.written.Binder.TheVariants as binder
use Rattle.grammar.specs.declared.written.WrittenRegular.{WrittenRegular}
use Rattle.grammar.specs.declared.written.WrittenRegular.TheVariants as regular
use Rattle.grammar.specs.declared.written.WrittenState.{WrittenState}
use Rattle.grammar.specs.declared.written.WrittenState.TheVariants as state

abbrev pub token_of : Lexeme → Token
token_of (lexeme.Name bytes) = Name bytes.now
token_of (lexeme.Atom bytes) = Atom bytes.now
token_of lexeme.TrueWord = TrueWord
token_of lexeme.FalseWord = FalseWord
token_of lexeme.MuWord = MuWord
token_of lexeme.NuWord = NuWord
token_of lexeme.TauWord = TauWord
token_of lexeme.ImpliesSign = ImpliesSign
token_of lexeme.OrSign = OrSign
token_of lexeme.AndSign = AndSign
token_of lexeme.Bar = Bar
token_of lexeme.NotSign = NotSign
token_of lexeme.Less = Less
token_of lexeme.Greater = Greater
token_of lexeme.OpenBox = OpenBox
token_of lexeme.CloseBox = CloseBox
token_of lexeme.Open = Open
token_of lexeme.Close = Close
token_of lexeme.Dot = Dot
token_of lexeme.ChoiceSign = ChoiceSign
token_of lexeme.PlusSign = PlusSign
token_of lexeme.StarSign = StarSign

abbrev pub bare_tokens : List Placed → List Token
bare_tokens placed = map (λ p. token_of p.token) placed

-- two regular formulas with a sign between them
abbrev pub infixed : Infix → RegSyntax → RegSyntax → RegSyntax
infixed sign.And r s = And' r s
infixed sign.Or r s = Or' r s
infixed sign.Implies r s = Implies' r s
infixed sign.Then r s = Then' r s
infixed sign.Either r s = Either' r s

abbrev pub infix_token : Infix → Token
infix_token sign.And = AndSign
infix_token sign.Or = OrSign
infix_token sign.Implies = ImpliesSign
infix_token sign.Then = Dot
infix_token sign.Either = ChoiceSign

-- the row of the grammar's table that the sign makes
abbrev pub infix_row : Infix → ℕ
infix_row sign.And = 2
infix_row sign.Or = 3
infix_row sign.Implies = 4
infix_row sign.Then = 6
infix_row sign.Either = 7

abbrev pub joins_actions : Infix → Bool
joins_actions sign.And = true
joins_actions sign.Or = true
joins_actions sign.Implies = true
joins_actions sign.Then = false
joins_actions sign.Either = false

-- a regular formula under a postfix sign
abbrev pub repeated : Repeat → RegSyntax → RegSyntax
repeated repeat.Star r = Star' r
repeated repeat.Plus r = Plus' r

abbrev pub repeat_token : Repeat → Token
repeat_token repeat.Star = StarSign
repeat_token repeat.Plus = PlusSign

abbrev pub reg_syntax : WrittenRegular → RegSyntax
reg_syntax regular.True = Anything'
reg_syntax regular.False = Nothing'
reg_syntax regular.Tau = Tau'
reg_syntax (regular.Names first others) = Names' first.now (map (λ name. name.now) others.items)
reg_syntax (regular.Quoted bytes) = Quoted' bytes.now
reg_syntax (regular.Parens' p r) = Parens' (reg_syntax r)
reg_syntax (regular.Not' p r) = Not' (reg_syntax r)
reg_syntax (regular.Joined' mark p r q s) = infixed mark (reg_syntax r) (reg_syntax s)
reg_syntax (regular.Repeated' sign p r) = repeated sign (reg_syntax r)

-- two state formulas with a sign between them
abbrev pub joined : Connective → Syntax → Syntax → Syntax
joined connective.And f g = Both' f g
joined connective.Or f g = OneOf' f g
joined connective.Implies f g = If' f g

abbrev pub connective_token : Connective → Token
connective_token connective.And = AndSign
connective_token connective.Or = OrSign
connective_token connective.Implies = ImpliesSign

abbrev pub connective_row : Connective → ℕ
connective_row connective.And = 1
connective_row connective.Or = 2
connective_row connective.Implies = 3

abbrev pub written_modal : Brackets → RegSyntax → Syntax → Syntax
written_modal brackets.Diamond r f = Dia' r f
written_modal brackets.Box r f = Box' r f

abbrev pub opening_bracket : Brackets → Token
opening_bracket brackets.Diamond = Less
opening_bracket brackets.Box = OpenBox

abbrev pub closing : Brackets → Token
closing brackets.Diamond = Greater
closing brackets.Box = CloseBox

abbrev pub bound : Binder → List ℕ → Syntax → Syntax
bound binder.Mu name f = Mu' name f
bound binder.Nu name f = Nu' name f

abbrev pub binder_token : Binder → Token
binder_token binder.Mu = MuWord
binder_token binder.Nu = NuWord

abbrev pub state_syntax : WrittenState → Syntax
state_syntax state.True = True'
state_syntax state.False = False'
state_syntax (state.Var name) = Var' name.now
state_syntax (state.Group' p f) = Group' (state_syntax f)
state_syntax (state.Not' p f) = Neg' (state_syntax f)
state_syntax (state.Joined' sign p f q g) = joined sign (state_syntax f) (state_syntax g)
state_syntax (state.Modal' sign r p f) = written_modal sign (reg_syntax r) (state_syntax f)
state_syntax (state.Bind' word name p f) = bound word name.now (state_syntax f)
