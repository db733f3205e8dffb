use Rattle.std.proofs.Common.{List, ap, map, sym, true≢false, ◌∙◌}
use Rattle.std.specs.List.{list_all}
use Rattle.liftcore.specs.Seats.{worker_of}
use Rattle.liftcore.specs.declared.seat.CoreWorker.{CoreWorker}
use Rattle.liftcore.specs.Core.{is_empty, is_idle}
use Rattle.liftcore.specs.Marks.{members}
use Rattle.liftcore.proofs.Sets.{and_both}
use Rattle.liftcore.proofs.Stated.{one_busy}
use Rattle.liftcore.proofs.state.CoreParts.is_quiet.Goals as goal

pub returns-then-not-is_idle : goal.returns-then-not-is_idle
returns-then-not-is_idle c = (
  λ t. absurd (true≢false (sym t)),
  λ q. absurd (one_busy c.deref-seat-items.result.now c.loop-seat.seat-index c.seat-item.result c.loop-seat-test.true (sym c.seat-item.is)
      (λ e. true≢false (sym (c.is_idle.ensures.1 e) ∙ c.if-not-is_idle.true))
      (ap (λ (xs : List CoreWorker). list_all is_idle (map worker_of xs)) c.deref-seat-items.ensures.value
      ∙ (and_both (is_empty (members c.args.self.now.pending)) (list_all is_idle (map worker_of c.args.self.now.seats.items)) q).1)),
)
