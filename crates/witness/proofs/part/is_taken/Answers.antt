use Rattle.std.proofs.Common.{◌<◌, length, subst, sym}
use Rattle.game.specs.Game.{Game}
use Rattle.witness.proofs.Keeping.{place_within}
use Rattle.witness.proofs.part.is_taken.Goals as goal

pub moves_to-requires : goal.moves_to-requires
moves_to-requires c =
    let w = c.requires.within in
    subst (λ (g : Game). c.vertex_of-here.result < length g.vertices) (sym c.requires.same)
    (place_within c.args.game.now w.states _ c.args.transition.source c.args.k c.vertex_of-here.result c.known.ensures.named w.named w.source c.requires.node
    c.vertex_of-here.ensures)
