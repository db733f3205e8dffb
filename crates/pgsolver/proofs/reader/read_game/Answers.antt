use Rattle.std.proofs.Common.{subst}
use Rattle.std.specs.Prelude.{IfOk, IfErr, IfSome}
use Rattle.pgsolver.specs.Spelling.{IsGameText}
use Rattle.pgsolver.specs.Fault.{HasPgFault}
use Rattle.pgsolver.specs.Left.{RefusesPg}
use Rattle.pgsolver.proofs.Whole.{promised}
use Rattle.pgsolver.proofs.reader.read_game.Goals as goal

pub returns-clause-reads : goal.returns-clause-reads
returns-clause-reads g c =
    let old = g.R.Source.remaining c.args.reader in
    promised old c.read_text.result
    (subst (λ old. IfOk c.read_text.result (λ g. IfSome old (λ text. IsGameText text g))) c.in-Ok.ensures c.read_text.ensures.spelled)
    (subst (λ old. IfErr c.read_text.result (RefusesPg old HasPgFault)) c.in-Ok.ensures c.read_text.ensures.fault)
