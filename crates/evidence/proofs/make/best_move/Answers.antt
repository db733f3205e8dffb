use Rattle.std.proofs.Common.{◌∙◌}
use Rattle.game.specs.Game.{Vertex}
use Rattle.measures.proofs.Bests.{vertex_tells}
use Rattle.evidence.proofs.make.best_move.Goals as goal

pub returns-in-Even : goal.returns-in-Even
returns-in-Even c = λ x at.
    let b = c.best_successor.ensures x at in
    (vertex_tells (λ (y : Vertex). y.owner) c.args.game.now c.args.v c.owner.result x at c.owner.ensures ∙ c.in-Even.is, b.0, b.1)
