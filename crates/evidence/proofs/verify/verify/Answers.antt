use Rattle.std.proofs.Common.{arith, subst}
use Rattle.game.specs.Game.{Game}
use Rattle.evidence.specs.Evidence.{IsEvidence}
use Rattle.evidence.proofs.Checked.{all_free}
use Rattle.evidence.proofs.GoodWins.{good_wins}
use Rattle.evidence.proofs.verify.verify.Goals as goal

pub returns-clause-wins : goal.returns-clause-wins
returns-clause-wins c = λ same v has.
    let e = c.args.evidence.now.evidence in
    let is = subst (λ (g : Game). IsEvidence g e) c.requires c.known.ensures in
    good_wins c.args.game.now e is (all_free c.args.game.now e c.loop-v.v (omega arith) c.loop-v.invariant) v has
