use Rattle.std.proofs.Common.{ap, subst, sym}
use Rattle.lts.specs.Aut.{IsAut}
use Rattle.lts.specs.Canon.{aut_text}
use Rattle.systems.specs.System.{IsSystem}
use Rattle.lts.proofs.Canonical.{system_is}
use Rattle.text.proofs.Writing.{Wrote-as}
use Rattle.lts.proofs.writer.write_aut.Goals as goal

pub returns-clause-wrote : goal.returns-clause-wrote
returns-clause-wrote g c = Wrote-as _ _ _ _ _ (ap aut_text (system_is c.args.lts.now c.all.result.now c.all.ensures.arrows)) c.write_part.ensures.wrote

pub returns-clause-spelled : goal.returns-clause-spelled
returns-clause-spelled g c =
    let same = system_is c.args.lts.now c.all.result.now c.all.ensures.arrows in
    subst (λ l. IsAut (aut_text l) l) same (c.write_part.ensures.spelled (subst IsSystem (sym same) c.states-states.ensures.known) c.all.ensures.few)
