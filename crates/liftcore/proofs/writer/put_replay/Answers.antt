use Rattle.std.proofs.Common.{List, codes, subst, ℕ}
use Rattle.text.specs.Taken.{Adds}
use Rattle.text.specs.Wrote.{Wrote, WroteFront}
use Rattle.liftcore.specs.Replay.{end_lines}
use Rattle.text.proofs.Writing.{Wrote-after, Wrote-err, WroteFront-after, WroteFront-more}
use Rattle.liftcore.specs.Replay.{events_line, listed, value_lines}
use Rattle.liftcore.proofs.writer.put_replay.Goals as goal

pub returns-in_err-put_events : goal.returns-in_err-put_events
returns-in_err-put_events g c = Wrote-err _ _ _ _ c.from_residual.ensures.0
    (WroteFront-more _ _ (events_line c.args.tally.done c.args.tally.skipped) _ c.in_err-put_events.ensures)

pub returns-in_err-put_values : goal.returns-in_err-put_values
returns-in_err-put_values g c = Wrote-err _ _ _ _ c.from_residual-in_err-put_values.ensures.0
    (WroteFront-after _ _ _ (events_line c.args.tally.done c.args.tally.skipped) _ c.in_ok-put_events.ensures
    (WroteFront-more _ _ (value_lines 0 c.args.core.now.table.values) _ c.in_err-put_values.ensures))

pub returns-in_err-put : goal.returns-in_err-put
returns-in_err-put g c = Wrote-err _ _ _ _ c.from_residual-in_err-put.ensures.0
    (WroteFront-after _ _ _ (events_line c.args.tally.done c.args.tally.skipped) _ c.in_ok-put_events.ensures
    (WroteFront-after _ _ _ (value_lines 0 c.args.core.now.table.values) _ c.in_ok-put_values.ensures
    (WroteFront-more _ _ (codes "pending ") _ c.in_err-put.ensures.wrote)))

pub returns-in_err-put_members : goal.returns-in_err-put_members
returns-in_err-put_members g c =
    let stopped = subst (λ (vs : List ℕ). WroteFront (g.W.Sink.taken c.put.new.writer) (g.W.Sink.taken c.put_members.new.writer)
    (listed vs)) c.pending.ensures.pending c.in_err-put_members.ensures in
    Wrote-err _ _ _ _ c.from_residual-in_err-put_members.ensures.0
    (WroteFront-after _ _ _ (events_line c.args.tally.done c.args.tally.skipped) _ c.in_ok-put_events.ensures
    (WroteFront-after _ _ _ (value_lines 0 c.args.core.now.table.values) _ c.in_ok-put_values.ensures
    (WroteFront-after _ _ _ (codes "pending ") _ c.in_ok-put.ensures.wrote (WroteFront-more _ _ (listed c.args.core.now.pending) _ stopped))))

pub returns : goal.returns
returns g c =
    let wrote = subst (λ (vs : List ℕ). Adds (g.W.Sink.taken c.put.new.writer) (g.W.Sink.taken c.put_members.new.writer)
    (listed vs)) c.pending.ensures.pending c.in_ok-put_members.ensures in
    let last = subst (λ q. Wrote (g.W.Sink.taken c.put_members.new.writer) (g.W.Sink.taken c.put_end.new.writer) c.put_end.result
    (end_lines c.args.settled q)) c.requires.quiet c.put_end.ensures in
    Wrote-after _ _ _ (events_line c.args.tally.done c.args.tally.skipped) _ _ c.in_ok-put_events.ensures
    (Wrote-after _ _ _ (value_lines 0 c.args.core.now.table.values) _ _ c.in_ok-put_values.ensures
    (Wrote-after _ _ _ (codes "pending ") _ _ c.in_ok-put.ensures.wrote (Wrote-after _ _ _ (listed c.args.core.now.pending) _ _ wrote last)))
