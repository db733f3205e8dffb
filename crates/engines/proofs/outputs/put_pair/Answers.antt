use Rattle.std.proofs.Common.{refl}
use Rattle.evidence.specs.Canon.{evidence_text}
use Rattle.engines.proofs.Putting.{even_begun, odd_after}
use Rattle.engines.proofs.outputs.put_pair.Goals as goal

pub returns-in_err-write_evidence : goal.returns-in_err-write_evidence
returns-in_err-write_evidence g c = λ x is.
    let pair = c.args.pair.now in
    even_begun x (evidence_text pair.even.evidence) _ _ (g.O.Sink.taken c.args.odd.now) c.from_residual.result (pair.even.evidence, is.even, refl)
    c.from_residual.ensures.0 c.in_err-write_evidence.ensures.wrote

pub returns : goal.returns
returns g c = λ x is.
    let pair = c.args.pair.now in
    odd_after x (evidence_text pair.even.evidence) (evidence_text pair.odd.evidence) _ _ _ _ c.write_evidence-2.result (pair.even.evidence, is.even, refl)
    (pair.odd.evidence, is.odd, refl) c.in_ok-write_evidence.ensures.wrote c.write_evidence-2.ensures.wrote
