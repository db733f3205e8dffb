use Rattle.std.proofs.Common.{rules, ◌≡◌, [], map}
use Rattle.grammar.specs.Written.{bare_tokens}
use Rattle.grammar.specs.declared.misread.Misread.TheVariants as misread
use Rattle.grammar.proofs.RegularRefusals.{words-length}
use Rattle.formula.proofs.Refusals.{unfinished, unexpected, too-large}
use Rattle.formula.proofs.reader.grammar_refusal.Goals as goal

pub returns-in-Unexpected-eq0 : goal.returns-in-Unexpected-eq0
returns-in-Unexpected-eq0 c =
    let e : c.args.misread ≡ misread.Unexpected 0 = search rules in
    unfinished (bare_tokens c.args.tokens.now) [] c.args.end (rw e at c.requires)

pub returns-in-Unexpected : goal.returns-in-Unexpected
returns-in-Unexpected c =
    let places = map (λ p. p.offset) c.args.tokens.now in
    let h = rw c.in-Unexpected.is at c.requires in
    unexpected (bare_tokens c.args.tokens.now) places c.args.end c.in-Unexpected.left c.refusal.result h (search rules)
    (rw (words-length c.args.tokens.now) c.refusal.ensures)

pub returns-in-TooLarge : goal.returns-in-TooLarge
returns-in-TooLarge c =
    let places = map (λ p. p.offset) c.args.tokens.now in
    let h = rw c.in-TooLarge.is at c.requires in
    too-large (bare_tokens c.args.tokens.now) places c.args.end c.in-TooLarge.left c.refusal-in-TooLarge.result h
    (rw (words-length c.args.tokens.now) c.refusal-in-TooLarge.ensures)
