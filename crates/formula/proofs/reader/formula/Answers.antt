use Rattle.grammar.specs.Written.{state_syntax}
use Rattle.formula.proofs.Refusals.{grammar-told, meaning-told}
use Rattle.formula.proofs.reader.formula.Goals as goal

pub returns-in-Ok : goal.returns-in-Ok
returns-in-Ok c = meaning-told c.args.text.now c.args.tokens.now
    (state_syntax c.in-Ok.written) c.meaning.result c.requires.short c.requires.lexed c.in-Ok.ensures c.meaning.ensures

pub returns-in-Err : goal.returns-in-Err
returns-in-Err c = grammar-told c.args.text.now c.args.tokens.now c.grammar_refusal.result c.requires.short c.requires.lexed c.grammar_refusal.ensures
