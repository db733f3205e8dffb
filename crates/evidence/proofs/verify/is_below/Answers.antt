use Rattle.std.proofs.Common.{sym, ◌∙◌}
use Rattle.evidence.proofs.Checked.{below_is}
use Rattle.evidence.proofs.verify.is_below.Goals as goal

pub descends-requires-clause-same : goal.descends-requires-clause-same
descends-requires-clause-same c = (c.known.ensures.entries c.args.t _ c.in-Some.ensures).rank ∙ sym c.requires.rank

pub returns-in-Some : goal.returns-in-Some
returns-in-Some c =
    below_is c.args.evidence.now.game c.args.evidence.now.evidence c.args.priority c.args.rank.now c.args.t _ c.player.result c.descends.result
    c.in-Some.ensures c.player.ensures c.requires.rank c.descends.ensures
