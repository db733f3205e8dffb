use Rattle.std.proofs.Common.{subst}
use Rattle.std.specs.Prelude.{IfErr, IfOk, IfSome}
use Rattle.evidence.specs.Fault.{HasEvidenceFault, RefusesEvidence}
use Rattle.evidence.specs.Spelling.{IsEvidenceText}
use Rattle.evidence.proofs.Whole.{promised}
use Rattle.evidence.proofs.reader.read_evidence.Goals as goal

pub returns-clause-reads : goal.returns-clause-reads
returns-clause-reads g c =
    let old = g.R.Source.remaining c.args.reader in
    let game = c.args.game.now in
    promised game old c.read_text.result (subst (λ old. IfOk c.read_text.result
    (λ e. IfSome old (λ text. IsEvidenceText game text e.evidence))) c.in-Ok.ensures c.read_text.ensures.spelled)
    (subst (λ old. IfErr c.read_text.result (RefusesEvidence old (HasEvidenceFault game))) c.in-Ok.ensures c.read_text.ensures.fault)
