use Rattle.evidence.proofs.Verdicts.{one_verdict}
use Rattle.evidence.proofs.law.one_verdict.Goals as goal

pub returns : goal.returns
returns c = one_verdict
