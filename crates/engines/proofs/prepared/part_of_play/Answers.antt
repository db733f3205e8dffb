use Rattle.std.proofs.Common.{Global, Vec}
use Rattle.systems.specs.declared.system.Transition.{Transition}
use Rattle.calculus.specs.Normal.{normal_nodes}
use Rattle.engines.proofs.Winning.{parts_shown}
use Rattle.engines.proofs.prepared.part_of_play.Goals as goal

pub returns : goal.returns
returns c =
    parts_shown (λ (part : Vec Transition Global). part.items) c.args.texts.now (normal_nodes c.args.form.now) c.args.game.now c.args.evidence.now
    c.witness.result c.chosen_is_admissible.ensures c.requires c.witness.ensures.inside c.witness.ensures.taken c.witness.ensures.witness
