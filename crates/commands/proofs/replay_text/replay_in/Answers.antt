use Rattle.std.proofs.Common.{refl, rules, subst, true}
use Rattle.liftcore.specs.Core.{starting_core}
use Rattle.liftcore.specs.Runs.{Comes}
use Rattle.commands.specs.Replays.{IsReplayed, RefusesReplay}
use Rattle.commands.specs.Spelled.{IsScheduleOf}
use Rattle.commands.proofs.Answered.{written}
use Rattle.commands.proofs.replay_text.replay_in.Goals as goal

pub returns-in-Ok-clause-answers : goal.returns-in-Ok-clause-answers
returns-in-Ok-clause-answers g c = λ first second third given known.
    let w = c.args.workers in
    let x = c.args.game.now in
    let tally = c.follow-tally.result in
    let core = c.follow-tally.new.self in
    let told = c.write_replay.ensures in
    let schedule = subst (λ n. IsScheduleOf w n third c.in_ok-events.events.items) c.vertices.ensures (c.in_ok-events.ensures.answers third known) in
    let comes : Comes (starting_core x w) c.deref.result.now tally.done tally.skipped core = search rules in
    written (IsReplayed w first second third) (RefusesReplay w first second third) _ _ true _ _ _ (record {
      g = x;
      events = c.deref.result.now;
      done = tally.done;
      skipped = tally.skipped;
      core = core;
      settled = told.0;
      game = given;
      schedule = rw c.deref.ensures.value schedule;
      comes = comes;
      exact = told.1;
      same = refl;
      answered = refl;
    }) told.2 c.answered.ensures
