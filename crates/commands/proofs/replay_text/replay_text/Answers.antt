use Rattle.std.proofs.Common.{[]}
use Rattle.requests.proofs.Readings.{was_err}
use Rattle.commands.specs.Replays.{IsReplayed, RefusesReplay, way}
use Rattle.commands.proofs.Answered.{refused}
use Rattle.commands.proofs.Replayed.{refused_before, refused_beyond}
use Rattle.commands.proofs.replay_text.replay_text.Goals as goal

pub returns-in_err-texts-clause-replays : goal.returns-in_err-texts-clause-replays
returns-in_err-texts-clause-replays g c = λ first second third a b d.
    let w = c.args.workers in
    rw (was_err _ _ c.from_residual.ensures.1) (refused (IsReplayed w first second third) (RefusesReplay w first second third) _ _ (λ fault h. h.begun)
    (refused_before w first second third c.in_err-texts.field-0.0 (c.in_err-texts.ensures.refusal first second a b way [] tt)))

pub returns-in_err-game-clause-replays : goal.returns-in_err-game-clause-replays
returns-in_err-game-clause-replays g c = λ first second third a b d.
    let w = c.args.workers in
    let spelled = c.in_ok-texts.ensures.spelled first second a b in
    rw (was_err _ _ c.from_residual-in_err-game.ensures.1) (refused (IsReplayed w first second third) (RefusesReplay w first second third) _ _ (λ fault h. h.begun)
    (refused_before w first second third c.in_err-game.field-0.0 (refused_beyond first second _ _ _ spelled c.in_err-game.ensures)))

pub returns-clause-replays : goal.returns-clause-replays
returns-clause-replays g c = λ first second third a b d.
    c.replay_in.ensures.answers first second third (record { l = _; f = _; spelled = c.in_ok-texts.ensures.spelled first second a b; game = c.in_ok-game.ensures }) d
