use Rattle.requests.specs.Check.{BySets}
use Rattle.engines.proofs.Checks.{alone_of}
use Rattle.engines.proofs.engine.check_read.Goals as goal

pub returns-then-request-clause-answers : goal.returns-then-request-clause-answers
returns-then-request-clause-answers g c =
    rw c.if-request.true (λ first second spelled. alone_of BySets first second c.args.wanted.report _ _ _ _ _ _ c.report_plain.result
    (c.report_plain.ensures.answers first second spelled))
