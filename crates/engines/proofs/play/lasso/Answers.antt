use Rattle.std.proofs.Common.{inl}
use Rattle.calculus.specs.Normal.{normal_nodes}
use Rattle.engines.proofs.Winning.{played}
use Rattle.engines.proofs.play.lasso.Goals as goal

pub returns-in-Some : goal.returns-in-Some
returns-in-Some c =
    let found = c.in_ok-evidence.ensures in
    played c.args.system.now.system (normal_nodes c.args.form.now) c.args.game.now c.in-Some.evidence c.requires (rw c.in-Some.is at found.game)
    c.known.ensures (rw c.in-Some.is at found.good) (rw c.in-Some.is at found.root) (inl (rw c.in-Some.is at found.one))
