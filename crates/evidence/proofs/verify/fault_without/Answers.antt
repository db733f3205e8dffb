use Rattle.std.proofs.Common.{◌∙◌, sym, true≢false}
use Rattle.evidence.proofs.Checked.{stayed_is}
use Rattle.evidence.proofs.verify.fault_without.Goals as goal

pub fault_along-requires-clause-rank : goal.fault_along-requires-clause-rank
fault_along-requires-clause-rank c = (c.known-2.ensures.entries c.args.v _ c.requires.entry).rank

pub returns-else-is_same : goal.returns-else-is_same
returns-else-is_same c = λ x at.
    stayed_is c.args.game.now c.args.evidence.now.game c.requires.same c.args.evidence.now.evidence c.args.v c.owner.result c.args.rank.now c.owner.ensures x
    at c.priority.result c.successors.result.now _ (λ own. true≢false (sym (c.is_same.ensures.1 (own ∙ sym c.player.ensures)) ∙ c.if-is_same.false))
    c.successors.ensures c.priority.ensures c.fault_along.ensures
