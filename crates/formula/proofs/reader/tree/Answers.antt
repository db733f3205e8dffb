use Rattle.std.proofs.Common.{arith, List, subst, sym}
use Rattle.formula.specs.Cutting.{IsLexed}
use Rattle.grammar.specs.declared.token.Placed.{Placed}
use Rattle.grammar.proofs.Handed.{refused_on}
use Rattle.formula.proofs.Refusals.{token-told}
use Rattle.formula.proofs.reader.tree.Goals as goal

pub formula-requires-clause-lexed : goal.formula-requires-clause-lexed
formula-requires-clause-lexed c = subst (λ (ps : List Placed). IsLexed c.args.text.now ps) (sym c.deref.ensures.value) c.in_ok-tokens.ensures

pub returns-in_err-tokens : goal.returns-in_err-tokens
returns-in_err-tokens c = refused_on _ _ _ _ c.from_residual.ensures.1 (token-told c.args.text.now _ (omega arith) c.in_err-tokens.ensures)
