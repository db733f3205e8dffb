use Rattle.std.proofs.Common.{◌∙◌, Contains, refl, rules}
use Rattle.evidence.proofs.Checked.{moved_is}
use Rattle.evidence.proofs.verify.fault_with_move.Goals as goal

pub fault_along-requires-clause-rank : goal.fault_along-requires-clause-rank
fault_along-requires-clause-rank c = (c.known-2.ensures.entries c.args.v _ c.requires.entry).rank

pub fault_along-requires-clause-inside : goal.fault_along-requires-clause-inside
fault_along-requires-clause-inside c = ((c.known-2.ensures.entries c.args.v _ c.requires.entry).move c.args.next refl, tt)

pub returns-then-contains : goal.returns-then-contains
returns-then-contains c = λ x at.
    let own = c.is_same.ensures.0 c.if-is_same.true ∙ c.player.ensures in
    let successor : Contains c.successors.result.now c.args.next = search rules in
    moved_is c.args.game.now c.args.evidence.now.game c.requires.same c.args.evidence.now.evidence c.args.v c.owner.result c.args.rank.now c.owner.ensures x
    at c.args.next c.priority.result c.successors.result.now _ own c.successors.ensures successor c.priority.ensures c.fault_along.ensures
