use Rattle.std.proofs.Common.{◌≡◌, ℕ, true, false, subst, sym, ◌∙◌, take}
use Rattle.std.specs.List.{list_any}
use Rattle.std.specs.Str.{bytes_eq}
use Rattle.text.specs.Text.{is_name_byte}
use Rattle.grammar.specs.Token.{reserved_words}
use Rattle.grammar.specs.Written.{token_of}
use Rattle.formula.proofs.Cuts.{named-front, run-of, Run}
use Rattle.formula.proofs.Tokenless.{reserved-stands}
use Rattle.formula.proofs.lexer.named.Goals as goal

pub returns : goal.returns
returns c =
    let text = c.args.text.now in
    let n = c.name_len-len.result in
    let run : Run is_name_byte text n = subst (λ (k : ℕ). Run is_name_byte text k) (sym c.name_len-len.ensures) (run-of is_name_byte text) in
    let free : list_any (bytes_eq (take n text)) reserved_words ≡ false = sym c.if-is_reserved.ensures in
    named-front text n (token_of c.word.result) c.requires.some c.requires.letter run c.word.ensures free

pub returns-then-is_reserved : goal.returns-then-is_reserved
returns-then-is_reserved c =
    let text = c.args.text.now in
    let n = c.name_len-len.result in
    let run : Run is_name_byte text n = subst (λ (k : ℕ). Run is_name_byte text k) (sym c.name_len-len.ensures) (run-of is_name_byte text) in
    let reserved : list_any (bytes_eq (take n text)) reserved_words ≡ true = sym c.is_reserved.ensures ∙ c.if-is_reserved.true in
    reserved-stands text n run reserved
