use Rattle.std.proofs.Common.{subst, sym, ◌∙◌}
use Rattle.std.specs.Prelude.{◌≤◌}
use Rattle.calculus.specs.Normal.{normal_nodes}
use Rattle.calculus.specs.declared.limits.TheConstants.{GREATEST_PRIORITY}
use Rattle.game.specs.Game.{Game, greatest}
use Rattle.game.proofs.Arenas.{arena_low}
use Rattle.engines.specs.Play.{IsPlay}
use Rattle.engines.proofs.Winning.{kept_where, least_played}
use Rattle.engines.proofs.play.least_evidence.Goals as goal

pub evidence-requires-clause-few : goal.evidence-requires-clause-few
evidence-requires-clause-few c =
    subst (λ (g : Game). greatest g ≤ GREATEST_PRIORITY) (sym c.requires) (arena_low c.args.system.now.system (normal_nodes c.args.form.now) c.known.ensures)

pub returns-clause-play : goal.returns-clause-play
returns-clause-play c =
    let l = c.args.system.now.system in
    let nodes = normal_nodes c.args.form.now in
    let g = c.args.game.now in
    let e = c.in_ok-evidence.evidence in
    let is = c.in_ok-evidence.ensures in
    let few = subst (λ (h : Game). greatest h ≤ GREATEST_PRIORITY) (sym c.requires) (arena_low l nodes c.known.ensures) in
    kept_where (IsPlay l nodes g) c.has_root.result e c.then_some.result c.then_some.ensures
    (λ has. least_played l nodes g c.winner.result e c.requires is.game c.known-3.ensures c.known-2.ensures few is.best (sym c.has_root.ensures ∙ has))
