use Rattle.std.proofs.Common.{◌∷◌}
use Rattle.requests.specs.Writers.{EvenText, OddText, kind_where, lent_for, report_writer, witness_kind}
use Rattle.engines.proofs.Orders.{found_game}
use Rattle.engines.proofs.Putting.{asked_stored, game_stopped, game_unasked, game_written, unasked_stored}
use Rattle.engines.proofs.outputs.put_wanted.Goals as goal

pub returns-in_err-write_game-in-Some : goal.returns-in_err-write_game-in-Some
returns-in_err-write_game-in-Some g c = λ x at made told.
    let p = c.args.prepared.now in
    game_stopped x p.wanted _ _ _ _ _ _ _ _ (asked_stored p.game c.in-Some.played p.wanted.game c.in-Some.is made.stored) c.from_residual.ensures.0
    (found_game x c.in-Some.played.now (rw c.in-Some.is at made.game)) c.in_err-write_game-in-Some.ensures.wrote

pub returns-in_ok-write_game-in-Some : goal.returns-in_ok-write_game-in-Some
returns-in_ok-write_game-in-Some g c = λ x at made told.
    let p = c.args.prepared.now in
    let after = c.put_after_game in
    game_written x p.wanted _ _ (lent_for (kind_where p.wanted.evidence EvenText) (g.E.Sink.taken c.args.even.now) (g.E.Sink.taken after.new.even)
    ∷ (lent_for (kind_where p.wanted.evidence OddText) (g.O.Sink.taken c.args.odd.now) (g.O.Sink.taken after.new.odd)
    ∷ (lent_for (witness_kind p.wanted.witness) (g.V.Sink.taken c.args.witness.now) (g.V.Sink.taken after.new.witness)
    ∷ report_writer p.wanted.report (g.W.Sink.taken c.args.out.now) (g.W.Sink.taken after.new.out)))) _ _
    (asked_stored p.game c.in-Some.played p.wanted.game c.in-Some.is made.stored)
    (found_game x c.in-Some.played.now (rw c.in-Some.is at made.game)) c.in_ok-write_game-in-Some.ensures.wrote (after.ensures x at made told)

pub returns-in-None : goal.returns-in-None
returns-in-None g c = λ x at made told.
    let p = c.args.prepared.now in
    let after = c.put_after_game-in-None in
    game_unasked x p.wanted _ (lent_for (kind_where p.wanted.evidence EvenText) (g.E.Sink.taken c.args.even.now) (g.E.Sink.taken after.new.even)
    ∷ (lent_for (kind_where p.wanted.evidence OddText) (g.O.Sink.taken c.args.odd.now) (g.O.Sink.taken after.new.odd)
    ∷ (lent_for (witness_kind p.wanted.witness) (g.V.Sink.taken c.args.witness.now) (g.V.Sink.taken after.new.witness)
    ∷ report_writer p.wanted.report (g.W.Sink.taken c.args.out.now) (g.W.Sink.taken after.new.out)))) _
    (unasked_stored p.game p.wanted.game c.in-None.is made.stored) (after.ensures x at made told)
