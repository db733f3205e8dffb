use Rattle.std.proofs.Common.{subst, sym, Contains}
use Rattle.liftcore.specs.Core.{Core}
use Rattle.liftcore.proofs.Marked.{marked_member, member_marked}
use Rattle.liftcore.proofs.machine.Core.is_pending.Goals as goal

pub returns : goal.returns
returns c = (
  λ t. subst (λ (k : Core). Contains k.pending c.args.v) c.self.view_is (marked_member c.self.inside.state.pending c.args.v (c.has.ensures.0 t)),
  λ h. c.has.ensures.1 (member_marked c.self.inside.state.pending c.args.v (subst (λ (k : Core). Contains k.pending c.args.v) (sym c.self.view_is) h)),
)
