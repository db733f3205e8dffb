use Rattle.measures.proofs.Common.{◌↔◌, IsTrue, MatchBool, is_le, is_lt, is_odd, subst}
use Rattle.measures.specs.StoredProposal.{value_said}
use Rattle.measures.proofs.Values.{not_top, reaches_by}
use Rattle.measures.proofs.value.ProposedValue.reaches.Goals as goal

pub returns : goal.returns
returns c = λ g wide.
    reaches_by g c.args.priority c.saturating_sub-kept.result c.args.width c.saturating_sub-kept.ensures wide c.is_reach.result (value_said c.args.next)
    (value_said c.args.self) (not_top c.args.self c.if-self.false)
    (subst (λ z. IsTrue c.is_reach.result ↔ MatchBool (is_odd c.args.priority) (IsTrue (is_lt z)) (IsTrue (is_le z))) c.compare_first.ensures c.is_reach.ensures)
