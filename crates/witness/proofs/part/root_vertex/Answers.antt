use Rattle.std.proofs.Common.{ap, ◌∙◌, length, arith}
use Rattle.calculus.specs.Normal.{normal_nodes}
use Rattle.game.specs.Arena.{place}
use Rattle.game.specs.Game.{Game}
use Rattle.witness.proofs.Keeping.{place_is, place_within}
use Rattle.witness.proofs.part.root_vertex.Goals as goal

pub returns-clause-root : goal.returns-clause-root
returns-clause-root c =
    let nodes = normal_nodes c.args.normal.now in
    let named = ap (λ (g : Game). g.named) c.requires in
    place_is c.args.game.now c.args.system.now.system.states (length nodes) c.initial.result 0 c.vertex_of.result named c.vertex_of.ensures
    ∙ ap (λ s. place (length nodes) s 0) c.initial.ensures.value

pub returns-clause-within : goal.returns-clause-within
returns-clause-within c =
    place_within c.args.game.now c.args.system.now.system.states
    (length (normal_nodes c.args.normal.now)) c.initial.result 0 c.vertex_of.result c.known.ensures.named
    (ap (λ (g : Game). g.named) c.requires) c.initial.ensures.inside (omega (arith, c.known-2.ensures.some)) c.vertex_of.ensures
