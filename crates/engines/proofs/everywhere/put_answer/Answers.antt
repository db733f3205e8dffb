use Rattle.std.proofs.Common.{rules}
use Rattle.text.proofs.Writing.{Wrote-after, Wrote-err, WroteFront-more}
use Rattle.engines.proofs.everywhere.put_answer.Goals as goal

pub returns-in_err-write_formula_line : goal.returns-in_err-write_formula_line
returns-in_err-write_formula_line g c = Wrote-err _ _ _ _ c.from_residual.ensures.0 (WroteFront-more _ _ _ _ c.in_err-write_formula_line.ensures)

pub returns : goal.returns
returns g c = Wrote-after _ _ _ _ _ _ c.in_ok-write_formula_line.ensures (search rules)
