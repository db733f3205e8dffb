use Rattle.std.proofs.Common.{rules}
use Rattle.grammar.specs.Written.{bare_tokens}
use Rattle.grammar.proofs.Handed.{refused_on}
use Rattle.formula.proofs.Refusals.{whole-misread, left-over}
use Rattle.formula.proofs.reader.written.Goals as goal

pub returns-in_err-whole : goal.returns-in_err-whole
returns-in_err-whole c = refused_on _ _ _ _ c.from_residual.ensures.1 (whole-misread (bare_tokens c.args.tokens.now) _ c.in_err-whole.ensures)

pub returns-then-not-is_empty : goal.returns-then-not-is_empty
returns-then-not-is_empty c =
    let h = c.in_ok-whole.ensures in
    left-over c.in_ok-whole.whole (bare_tokens c.args.tokens.now) c.unexpected.result h.sound h.stops h.eaten (search rules) c.unexpected.ensures
