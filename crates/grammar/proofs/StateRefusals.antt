-- Why a state formula was not read, from why a part of it was not.
use Rattle.std.specs.Prelude.{◌≡◌, ℕ, suc, ◌+◌, ◌-◌, ◌<◌, ◌≤◌, Bool, true, false, List, [], ◌∷◌, ◌++◌, length, IsFalse, Result}
use Rattle.std.proofs.Common.{arith, refl, sym, ◌∙◌, ap, subst, append_assoc, true≢false}
use Rattle.grammar.specs.Token.{Token, Name, Open, Close, Dot}
use Rattle.grammar.specs.Syntax.{reg_tokens, Syntax, tokens, form}
use Rattle.grammar.specs.Written.{token_of, bare_tokens, state_syntax, reg_syntax, connective_token, connective_row, opening_bracket, closing, binder_token}
use Rattle.grammar.specs.Read.{IsReadState, state_tokens, state_row, is_state_word, is_prefix, prefix_token}
use Rattle.grammar.specs.Misread.{BeginsState, StandsState, IsStateMisread, ReadsRegular, ReadsState, StateOf, IsMissing}
use Rattle.grammar.specs.declared.misread.Misread.{Misread}
use Rattle.grammar.specs.declared.misread.Misread.TheVariants as misread
use Rattle.grammar.specs.declared.token.Token.{Token as Lexeme}
use Rattle.grammar.specs.declared.token.Token.TheVariants as lexeme
use Rattle.grammar.specs.declared.token.Placed.{Placed}
use Rattle.grammar.specs.declared.written.Connective.{Connective}
use Rattle.grammar.specs.declared.written.Brackets.{Brackets}
use Rattle.grammar.specs.declared.written.Binder.{Binder}
use Rattle.grammar.specs.declared.regular.ReadRegular.{ReadRegular}
use Rattle.grammar.specs.declared.state.ReadState.{ReadState}
use Rattle.grammar.specs.declared.state.Prefix.{Prefix}
use Rattle.grammar.specs.declared.state.Prefix.TheVariants as prefix
use Rattle.grammar.proofs.States.{connective-row, row-most}
use Rattle.grammar.proofs.Misreads.{misread-within}
use Rattle.grammar.proofs.Regulars.{words-length}
use Rattle.grammar.proofs.StateSpine.{Standing, LeftOperand}
use Rattle.grammar.proofs.StatePlaces.{UnaryAs, after-sign, after-brackets, after-dot}
use Rattle.grammar.proofs.StateEnds.{nothing-left, no-word, group-unclosed, modal-unclosed, sign-too-large, not-too-deep, modal-too-deep, binder-too-deep}

pub within-modality : (mark : Brackets) (depth inside : ℕ) (r : ReadRegular) (us after : List Token) (e : Misread) → ReadsRegular 7 depth inside us r
    → bare_tokens r.rest.now ≡ closing mark ∷ after
    → IsStateMisread 0 depth inside after e → IsStateMisread 0 (depth + 1) inside (opening_bracket mark ∷ us) e
within-modality mark depth inside r us after e l closed h =
    let s = reg_syntax r.syntax.value in
    let place = after-brackets mark s depth inside l.sound.grammatical (omega (arith, l.sound.height, l.sound.low)) l.sound.narrow in
    let split : (opening_bracket mark ∷ (reg_tokens s ++ closing mark ∷ [])) ++ after ≡ opening_bracket mark ∷ us =
    ap (λ ts. opening_bracket mark ∷ ts) (append_assoc (reg_tokens s) (closing mark ∷ []) after ∙ (ap (λ ts. reg_tokens s ++ ts) (sym closed) ∙ l.eaten)) in
    subst (λ ts. IsStateMisread 0 (depth + 1) inside ts e) split
    (misread-within (BeginsState 0) (StandsState 0) (BeginsState 0) (StandsState 0) (depth + 1) inside depth inside
    (opening_bracket mark ∷ (reg_tokens s ++ closing mark ∷ [])) after e place h)

pub modality-unclosed : (mark : Brackets) (depth inside : ℕ) (r : ReadRegular) (us : List Token) (e : Misread) → ReadsRegular 7 depth inside us r
    → IsMissing (closing mark) (bare_tokens r.rest.now) e
    → IsStateMisread 0 (depth + 1) inside (opening_bracket mark ∷ us) e
modality-unclosed mark depth inside r us e l missing =
    modal-unclosed mark depth inside (reg_syntax r.syntax.value) (bare_tokens r.rest.now) us e l.sound.grammatical l.stops
    (omega (arith, l.sound.height, l.sound.low)) l.sound.narrow l.eaten missing

pub within-binder : (word : Binder) (x : List ℕ) (depth inside : ℕ) (start between after : List Token) (e : Misread) → start ≡ Name x ∷ between
    → between ≡ Dot ∷ after → IsStateMisread 3 depth inside after e
    → IsStateMisread 0 (depth + 1) inside (binder_token word ∷ start) e
within-binder word x depth inside start between after e named dotted h =
    subst (λ ts. IsStateMisread 0 (depth + 1) inside ts e) (ap (λ ts. binder_token word ∷ ts) (sym (named ∙ ap (λ ts. Name x ∷ ts) dotted)))
    (misread-within (BeginsState 0) (StandsState 0) (BeginsState 3) (StandsState 3) (depth + 1) inside depth inside
    (binder_token word ∷ Name x ∷ Dot ∷ []) after e (after-dot word x depth inside) h)

pub state-standing : (level depth inside : ℕ) (s : ReadState) → IsReadState level depth inside s → Standing (state_syntax s.syntax.value) (bare_tokens s.rest.now)
state-standing level depth inside s is = record { grammatical = is.grammatical; ended = is.ended; reaches = is.reaches }

pub parenthesis-unclosed : (depth inside : ℕ) (s : ReadState) (us : List Token) (e : Misread) → ReadsState 3 depth inside us s
    → IsMissing Close (bare_tokens s.rest.now) e → IsStateMisread 0 depth (inside + 1) (Open ∷ us) e
parenthesis-unclosed depth inside s us e i missing =
    group-unclosed depth inside (state_syntax s.syntax.value) (bare_tokens s.rest.now) us e (state-standing 3 depth inside s i.sound) i.stops
    (omega (arith, i.sound.height, i.sound.low)) i.sound.narrow i.eaten missing

not_true : (b : Bool) → (b ≡ true → ⊥) → b ≡ false
not_true true h = absurd (h refl)
not_true false h = refl

left-operand : (mark : Connective) (level depth inside : ℕ) (left : ReadState) (after : List Token) → IsReadState level depth inside left
    → bare_tokens left.rest.now ≡ connective_token mark ∷ after
    → LeftOperand mark (state_syntax left.syntax.value)
left-operand mark level depth inside left after is front =
    let row : state_row (bare_tokens left.rest.now) ≡ connective_row mark = ap state_row front ∙ connective-row mark after in
    let most = row-most mark in
    let ended : form (state_syntax left.syntax.value) < state_row (bare_tokens left.rest.now) = is.ended in
    record {
      grammatical = is.grammatical;
      below = omega arith;
      open_end = not_true _ (λ b. let far : 3 < state_row (bare_tokens left.rest.now) = is.reaches b in absurd (omega arith));
    }

-- the right operand's refusal is the whole's
pub within-sign : (mark : Connective) (level depth inside : ℕ) (left : ReadState) (us : List Token) (e : Misread) → IsReadState level depth inside left
    → bare_tokens left.rest.now ≡ connective_token mark ∷ us
    → connective_row mark ≤ level → left.height < depth → IsStateMisread (connective_row mark) (depth - 1) inside us e
    → IsStateMisread level depth inside (state_tokens left) e
within-sign mark level depth inside left us e is front lower room h =
    let s : Syntax = state_syntax left.syntax.value in
    let place = after-sign mark s level depth inside (left-operand mark level depth inside left us is front) lower (omega (arith, is.height)) is.narrow in
    subst (λ ts. IsStateMisread level depth inside ts e) (append_assoc (tokens s) (connective_token mark ∷ []) us ∙ ap (λ ts. tokens s ++ ts) (sym front))
    (misread-within (BeginsState level) (StandsState level) (BeginsState (connective_row mark)) (StandsState (connective_row mark)) depth inside
    (depth - 1) inside (tokens s ++ connective_token mark ∷ []) us e place h)

-- a sign whose left operand nests as deep as it may
pub beyond-sign : (mark : Connective) (level depth inside : ℕ) (left : ReadState) (us : List Token) (e : Misread) → IsReadState level depth inside left
    → bare_tokens left.rest.now ≡ connective_token mark ∷ us
    → connective_row mark ≤ level → depth ≤ left.height → e ≡ misread.TooLarge (length left.rest.now) → IsStateMisread level depth inside (state_tokens left) e
beyond-sign mark level depth inside left us e is front lower full big =
    let s : Syntax = state_syntax left.syntax.value in
    sign-too-large mark s level depth inside us (state_tokens left) e (left-operand mark level depth inside left us is front) is.row lower
    (omega (arith, is.height)) (omega (arith, is.height, is.low)) is.narrow
    (ap (λ ts. tokens s ++ ts) (sym front)) (big ∙ ap misread.TooLarge (sym (words-length left.rest.now) ∙ ap (λ ts. length ts) front))

-- the first token, at which no operator or parenthesis may stand
pub beyond-first : (t : Token) (depth inside : ℕ) (placed : List Placed) (first : Placed) (rest : List Placed) (e : Misread) → placed ≡ first ∷ rest
    → token_of first.token ≡ t → e ≡ misread.TooLarge (length placed)
    → ((back : List Token) → e ≡ misread.TooLarge (suc (length back)) → IsStateMisread 0 depth inside (t ∷ back) e)
    → IsStateMisread 0 depth inside (bare_tokens placed) e
beyond-first t depth inside placed first rest e front is big none =
    let whole : bare_tokens placed ≡ t ∷ bare_tokens rest = ap bare_tokens front ∙ ap (λ u. u ∷ bare_tokens rest) is in
    subst (λ ts. IsStateMisread 0 depth inside ts e) (sym whole)
    (none (bare_tokens rest) (big ∙ ap misread.TooLarge (sym (words-length placed) ∙ ap (λ ts. length ts) whole)))

pub prefix-too-deep : (prefix : Prefix) (depth inside : ℕ) (back : List Token) (e : Misread) → depth ≤ 0 → e ≡ misread.TooLarge (suc (length back))
    → IsStateMisread 0 depth inside (prefix_token prefix ∷ back) e
prefix-too-deep prefix.Not depth inside back e none is = not-too-deep depth inside back e none is
prefix-too-deep (prefix.Modal mark) depth inside back e none is = modal-too-deep mark depth inside back e none is
prefix-too-deep (prefix.Bind word) depth inside back e none is = binder-too-deep word depth inside back e none is

-- the same with another name for each number and the tokens
pub renamed : (d i d' i' : ℕ) (ts ts' : List Token) (result : Result ReadState Misread) → d ≡ d' → i ≡ i' → ts ≡ ts' → StateOf 0 d i ts result
    → StateOf 0 d' i' ts' result
renamed d i d' i' ts ts' result p q r h = subst (λ us. StateOf 0 d' i' us result) r
    (subst (λ n. StateOf 0 d' n ts result) q (subst (λ n. StateOf 0 n i ts result) p h))

no_items : (placed : List Placed) → length placed ≡ 0 → placed ≡ []
no_items [] e = refl
no_items (first ∷ rest) e = absurd (omega (arith, e))

-- no token is left
pub none-left : (depth inside : ℕ) (placed : List Placed) (e : Misread) → length placed ≡ 0 → e ≡ misread.Unexpected (length placed)
    → IsStateMisread 0 depth inside (bare_tokens placed) e
none-left depth inside placed e none is = nothing-left depth inside (bare_tokens placed) e (ap bare_tokens (no_items placed none))
    (is ∙ ap misread.Unexpected (sym (words-length placed)))

no_unary : (token : Lexeme) → IsFalse (is_prefix (token_of token)) → (token ≡ lexeme.Open → ⊥) → IsFalse (is_state_word (token_of token))
    → (s : Syntax) (rest more : List Token) → UnaryAs (token_of token) s rest more → ⊥
no_unary lexeme.MuWord p o w x rest more h = true≢false p
no_unary lexeme.NuWord p o w x rest more h = true≢false p
no_unary lexeme.NotSign p o w x rest more h = true≢false p
no_unary lexeme.Less p o w x rest more h = true≢false p
no_unary lexeme.OpenBox p o w x rest more h = true≢false p
no_unary lexeme.Open p o w x rest more h = o refl
no_unary lexeme.TrueWord p o w x rest more h = true≢false w
no_unary lexeme.FalseWord p o w x rest more h = true≢false w
no_unary (lexeme.Name bytes) p o w x rest more h = true≢false w
no_unary _ p o w x rest more h = h

-- a first token with which no formula begins
pub none-begins : (depth inside : ℕ) (placed : List Placed) (first : Placed) (rest : List Placed) (e : Misread) → placed ≡ first ∷ rest
    → IsFalse (is_prefix (token_of first.token)) → (first.token ≡ lexeme.Open → ⊥)
    → IsFalse (is_state_word (token_of first.token)) → e ≡ misread.Unexpected (length placed) → IsStateMisread 0 depth inside (bare_tokens placed) e
none-begins depth inside placed first rest e front p o w is =
    let whole : bare_tokens placed ≡ token_of first.token ∷ bare_tokens rest = ap bare_tokens front in
    subst (λ ts. IsStateMisread 0 depth inside ts e) (sym whole)
    (no-word (token_of first.token) (bare_tokens rest) depth inside e (no_unary first.token p o w)
    (is ∙ ap misread.Unexpected (sym (words-length placed) ∙ ap (λ ts. length ts) whole)))
