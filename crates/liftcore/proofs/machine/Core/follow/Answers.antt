use Rattle.std.proofs.Common.{◌+◌, List, arith, get_or, take}
use Rattle.std.proofs.lemmas.List.{take_more}
use Rattle.liftcore.specs.declared.event.Event.{Event}
use Rattle.liftcore.specs.declared.event.Event.TheVariants.{Take}
use Rattle.liftcore.proofs.Reached.{done_comes, skip_comes}
use Rattle.liftcore.proofs.machine.Core.follow.Goals as goal
use Rattle.liftcore.proofs.machine.Core.follow.Goals.{in-Done, in-Skipped}

pub loop-event-preserved : goal.loop-event-preserved
loop-event-preserved c =
    let i = c.loop-event.event-index in
    let events : List Event = c.args.events.now in
    let event = get_or events i (Take 0 0) in
    let more = take_more events i (Take 0 0) c.loop-event-test.true in
    let was = c.loop-event.invariant.all in
    elim c.match-step.branch [
      | in-Done w ↦ record {
        comes = done_comes c.args.self.now c.loop-event.self c.step.new.self (take i events)
            (take (i + 1) events) event c.loop-event.done c.match-step.done c.loop-event.skipped c.match-step.skipped
            c.loop-event.invariant.comes w.in-Done.ensures more w.done-is w.skipped-is;
        all = (let d = w.done-is in let s = w.skipped-is in omega (arith, was, d, s));
      }
      | in-Skipped w ↦ record {
        comes = skip_comes c.args.self.now c.loop-event.self c.step.new.self (take i events)
            (take (i + 1) events) event c.loop-event.done c.match-step.done c.loop-event.skipped c.match-step.skipped
            c.loop-event.invariant.comes w.in-Skipped.ensures more w.done-is w.skipped-is;
        all = (let d = w.done-is in let s = w.skipped-is in omega (arith, was, d, s));
      }
    ]
