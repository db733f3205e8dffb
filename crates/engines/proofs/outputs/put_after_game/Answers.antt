use Rattle.std.proofs.Common.{◌∷◌}
use Rattle.text.proofs.Writing.{Stays-refl}
use Rattle.requests.specs.Writers.{lent_for, report_writer, witness_kind}
use Rattle.engines.specs.Prepared.{is_made}
use Rattle.engines.proofs.Putting.{both_stopped, both_written}
use Rattle.engines.proofs.outputs.put_after_game.Goals as goal

pub returns-in_err-put_both : goal.returns-in_err-put_both
returns-in_err-put_both g c = λ x at made told.
    let p = c.args.prepared.now in
    let witness = g.V.Sink.taken c.args.witness.now in
    let out = g.W.Sink.taken c.args.out.now in
    both_stopped x (is_made p.evidence) p.wanted.evidence _ _ _ _ (lent_for (witness_kind p.wanted.witness) witness witness ∷ report_writer p.wanted.report out out)
    c.from_residual.result made.made c.from_residual.ensures.0 (Stays-refl witness, (Stays-refl out, tt)) (c.in_err-put_both.ensures x made.both)

pub returns : goal.returns
returns g c = λ x at made told.
    let p = c.args.prepared.now in
    let after = c.put_after_evidence in
    both_written x (is_made p.evidence) p.wanted.evidence _ _ _ _ (lent_for (witness_kind p.wanted.witness) (g.V.Sink.taken c.args.witness.now)
    (g.V.Sink.taken after.new.witness) ∷ report_writer p.wanted.report (g.W.Sink.taken c.args.out.now) (g.W.Sink.taken after.new.out)) after.result made.made
    (c.in_ok-put_both.ensures x made.both) (after.ensures x at made told)
