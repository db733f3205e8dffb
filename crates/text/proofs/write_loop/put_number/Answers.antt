use Rattle.std.proofs.Common.{rules}
use Rattle.text.proofs.Writing.{writing, Wrote-err, WroteFront-more}
use Rattle.text.proofs.write_loop.put_number.Goals as goal

pub returns-in_err-put : goal.returns-in_err-put
returns-in_err-put g c = record { wrote = Wrote-err _ _ _ _ c.from_residual.ensures.0 (WroteFront-more _ _ _ _ c.in_err-put.ensures.wrote) }

pub returns : goal.returns
returns g c = record { wrote = search (rules, writing) }
