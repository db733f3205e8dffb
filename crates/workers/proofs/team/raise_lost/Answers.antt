use Rattle.std.proofs.Common.{◌<◌, arith, length, subst, sym, true≢false, ◌∙◌}
use Rattle.game.specs.Game.{Game}
use Rattle.measures.specs.Tables.{LiesBelow}
use Rattle.measures.proofs.Lost.{lost_below}
use Rattle.workers.proofs.team.raise_lost.Goals as goal

-- What has no mark Odd wins, and lies below with top.
pub raise-requires-clause-below : goal.raise-requires-clause-below
raise-requires-clause-below g c =
    let game = c.args.game.now in
    let v = c.loop-v.v in
    let within : v < length game.vertices = let size = c.vertices-v-end.ensures in let test = c.loop-v-test.true in omega (arith, size, test) in
    let below = lost_below game v c.known.ensures (λ w. true≢false (sym ((c.requires.won.exact v within).1 w) ∙ c.if-not-won-v.true)) in
    subst (λ (h : Game). LiesBelow h v c.top.result) (sym c.requires.board) (subst (LiesBelow game v) (sym c.top.ensures) below)
