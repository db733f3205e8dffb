use Rattle.game.proofs.Rows.{told}
use Rattle.game.proofs.graph.Game.priority.Goals as goal

pub returns : goal.returns
returns c = told (λ x. x.priority) c.self.inside c.args.self.now c.args.v c.index.result.now c.self.view_is c.requires c.index.ensures
