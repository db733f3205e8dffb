use Rattle.std.proofs.Common.{rules, arith, ◌≡◌, ◌+◌, ℕ, [], ◌∷◌, ◌++◌, subst, drop, refl}
use Rattle.std.specs.Prelude.{slice_get, Option, IsFalse}
use Rattle.std.proofs.lemmas.List.{take_rest}
use Rattle.std.proofs.lemmas.Grind.{common_steps}
use Rattle.grammar.specs.Token.{begins}
use Rattle.grammar.specs.Written.{token_of}
use Rattle.formula.specs.Cutting.{IsGap, IsFirst, IsTokenless, IsDecidedBy, begins_gap}
use Rattle.grammar.specs.declared.token.Placed.{Placed}
use Rattle.formula.proofs.Lexed.{cut-none, cut-more, cut-all}
use Rattle.formula.proofs.Tokenless.{token-fault}
use Rattle.formula.proofs.lexer.tokens.Goals as goal

pub tokens-init : goal.tokens-init
tokens-init c = cut-none _ _ _ (search rules) c.gap_len-at.ensures.gap c.gap_len-at.ensures.over

pub tokens-preserved : goal.tokens-preserved
tokens-preserved c =
    let text = c.args.text.now in
    let t = token_of c.in-Ok.found.0 in
    let n = c.in-Ok.found.1 in
    let first : IsFirst t n (drop c.tokens.at text) = rw take_rest at c.in-Ok.ensures in
    let gap : IsGap c.gap_len.result (drop (c.tokens.at + n) text) = rw take_rest at c.gap_len.ensures.gap in
    let over : IsFalse (begins begins_gap (drop c.gap_len.result (drop (c.tokens.at + n) text))) = rw take_rest at c.gap_len.ensures.over in
    let p : Placed = record { token = c.decided-token.result; offset = c.tokens.at } in
    let decided : IsDecidedBy t (slice_get text (c.tokens.at + n + c.gap_len.result)) (token_of p.token)
    = subst (λ (o : Option ℕ). IsDecidedBy t o (token_of c.decided-token.result)) c.byte_at.ensures c.decided-token.ensures in
    let pushed : c.push.new.self.items ≡ c.tokens.tokens.items ++ p ∷ [] = grind (arith, common_steps) in
    cut-more text c.tokens.at c.tokens.tokens.items c.push.new.self.items t p n c.gap_len.result c.tokens.invariant first gap over decided refl pushed

pub returns : goal.returns
returns c = cut-all _ c.tokens.at _ c.tokens.invariant (omega arith)

pub returns-in-Err : goal.returns-in-Err
returns-in-Err c =
    let text = c.args.text.now in
    let none : IsTokenless (drop c.tokens.at text) c.in-Err.fault = rw take_rest at c.in-Err.ensures in
    token-fault text c.tokens.at c.tokens.tokens.items c.in-Err.fault c.tokens.invariant c.tokens-test.true none
