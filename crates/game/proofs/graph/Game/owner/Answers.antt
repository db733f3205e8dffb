use Rattle.game.proofs.Rows.{told}
use Rattle.game.proofs.graph.Game.owner.Goals as goal

pub returns : goal.returns
returns c = told (λ x. x.owner) c.self.inside c.args.self.now c.args.v c.index.result.now c.self.view_is c.requires c.index.ensures
