use Rattle.evidence.proofs.Verdicts.{one_answer}
use Rattle.evidence.proofs.law.one_answer.Goals as goal

pub returns : goal.returns
returns c = one_answer
