use Rattle.std.proofs.lemmas.Result.{IfErr-weaker}
use Rattle.requests.proofs.Words.{plainly, unasked}
use Rattle.requests.proofs.texts.read_both.Goals as goal

pub returns-clause-refusal : goal.returns-clause-refusal
returns-clause-refusal g c = λ first second known also way writers kept.
    IfErr-weaker c.read_asked.result _ _ (unasked way first second writers) (c.read_asked.ensures.refusal first second known also way writers kept)

pub returns-clause-plain : goal.returns-clause-plain
returns-clause-plain g c = IfErr-weaker c.read_asked.result _ _ plainly c.read_asked.ensures.plain
