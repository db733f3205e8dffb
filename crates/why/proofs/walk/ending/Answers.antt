use Rattle.calculus.specs.Normal.{normal_nodes}
use Rattle.why.proofs.walk.ending.Goals as goal

pub returns-in_default-clause-kind : goal.returns-in_default-clause-kind
returns-in_default-clause-kind c = λ g e ways. c.met.ensures.kind c.args.system.now.system (normal_nodes c.args.form.now) g e
