use Rattle.engines.proofs.Orders.{refused_on}
use Rattle.std.proofs.Common.{refl}
use Rattle.engines.proofs.Checks.{by_way}
use Rattle.engines.proofs.Lendings.{kept_all}
use Rattle.verdicts.specs.Findings.{way_in}
use Rattle.requests.proofs.Caused.{past_reading}
use Rattle.engines.proofs.named.check_gated.Goals as goal
use Rattle.engines.proofs.named.check_gated.Goals.{in-Neither+in-None, in-Neither+in-Some, in-Both, in-None-game, in-Some-game}

pub returns-in_err-found-clause-checks : goal.returns-in_err-found-clause-checks
returns-in_err-found-clause-checks g c = λ first second known also.
    refused_on c.from_residual.result c.in_err-found.field-0.0 _ _ c.from_residual.ensures.1
    (c.in_err-found.ensures.refusal first second known also _
    (kept_all g.G.Sink.taken g.E.Sink.taken g.O.Sink.taken c.args.game _ c.args.evidence _ (g.W.Sink.taken c.args.out.now)
    (λ x is. rw is refl) (λ x y is. rw is refl)))

pub returns-clause-checks : goal.returns-clause-checks
returns-clause-checks g c = elim c.match-evidence.branch [
  | in-Neither+in-None w ↦ rw (w.out-is, w.game-is, w.evidence-is, w.in-Neither.is, w.in-None.is, w.answered-is) (λ first second known also.
      by_way (way_in c.in_ok-found.found) _ first second _ w.answer_wanted.result c.in_ok-found.ensures.way
      (w.answer_wanted.ensures.answers first second (c.in_ok-found.ensures.spelled first second known also)))
  | in-Neither+in-Some w ↦ rw (w.out-is, w.game-is, w.evidence-is, w.in-Neither.is, w.in-Some.is, w.answered-is) (λ first second known also.
      by_way (way_in c.in_ok-found.found) _ first second _ w.answer_wanted-in-Some.result c.in_ok-found.ensures.way
      (w.answer_wanted-in-Some.ensures.answers first second (c.in_ok-found.ensures.spelled first second known also)))
  | in-Both w ↦ elim w.match-game-2.branch [
    | in-None-game v ↦ rw (w.out-is, w.game-is, w.answered-is, v.out-is, v.game-is, w.evidence-is, w.in-Both.is, v.in-None-game.is, v.even-is, v.odd-is, v.answered-is) (λ first second known also.
        by_way (way_in c.in_ok-found.found) _ first second _ v.answer_wanted-in-None-game.result c.in_ok-found.ensures.way
        (v.answer_wanted-in-None-game.ensures.answers first second (c.in_ok-found.ensures.spelled first second known also)))
    | in-Some-game v ↦ rw (w.out-is, w.game-is, w.answered-is, v.out-is, v.game-is, w.evidence-is, w.in-Both.is, v.in-Some-game.is, v.even-is, v.odd-is, v.answered-is) (λ first second known also.
        by_way (way_in c.in_ok-found.found) _ first second _ v.answer_wanted-in-Some-game.result c.in_ok-found.ensures.way
        (v.answer_wanted-in-Some-game.ensures.answers first second (c.in_ok-found.ensures.spelled first second known also)))
  ]
]

pub returns-clause-cause : goal.returns-clause-cause
returns-clause-cause g c = elim c.match-evidence.branch [
  | in-Neither+in-None w ↦ rw w.answered-is (past_reading _ _ w.answer_wanted.result w.answer_wanted.ensures.cause)
  | in-Neither+in-Some w ↦ rw w.answered-is (past_reading _ _ w.answer_wanted-in-Some.result w.answer_wanted-in-Some.ensures.cause)
  | in-Both w ↦ elim w.match-game-2.branch [
    | in-None-game v ↦ rw (w.answered-is, v.answered-is) (past_reading _ _ v.answer_wanted-in-None-game.result v.answer_wanted-in-None-game.ensures.cause)
    | in-Some-game v ↦ rw (w.answered-is, v.answered-is) (past_reading _ _ v.answer_wanted-in-Some-game.result v.answer_wanted-in-Some-game.ensures.cause)
  ]
]
