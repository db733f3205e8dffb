use Rattle.std.proofs.Common.{subst}
use Rattle.std.specs.Prelude.{IfOk, IfErr, IfSome}
use Rattle.lts.specs.Aut.{IsAut, HasAutFault}
use Rattle.lts.specs.Left.{RefusesAut}
use Rattle.lts.proofs.Whole.{promised}
use Rattle.lts.proofs.reader.read_aut.Goals as goal

pub returns-clause-reads : goal.returns-clause-reads
returns-clause-reads g c =
    let old = g.R.Source.remaining c.args.reader in
    promised old c.read_text.result (subst (λ old. IfOk c.read_text.result
    (λ l. IfSome old (λ text. IsAut text l.system))) c.in_ok-blocks.ensures c.read_text.ensures.spelled)
    (subst (λ old. IfErr c.read_text.result (RefusesAut old HasAutFault)) c.in_ok-blocks.ensures c.read_text.ensures.fault)
