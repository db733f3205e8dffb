use Rattle.std.proofs.Common.{inl, inr}
use Rattle.workers.proofs.solving.fn.run.for_each_worker.Goals as goal

pub returns : goal.returns
returns g c = elim c.work.ensures [
  | inl w ↦ inl (elim w [
    | inl full ↦ inl full
    | inr filled ↦ inr (c.args.state.now.own, c.work.new.state.own, filled)
  ])
  | inr w ↦ inr (w.0, w.1, (w.2.0, w.2.1, w.2.2, tt, w.2.4))
]
