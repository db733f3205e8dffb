use Rattle.rankings.proofs.nodes.steps_always_lead.Goals as goal

pub returns-then-always_follows : goal.returns-then-always_follows
returns-then-always_follows c = λ yes s t. (c.always_follows.ensures c.if-always_follows.true s t, c.always_follows-then-always_follows.ensures yes s t)
