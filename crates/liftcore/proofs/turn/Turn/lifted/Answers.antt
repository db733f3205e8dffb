use Rattle.liftcore.proofs.Turns.{code_below, code_measures}
use Rattle.liftcore.proofs.turn.Turn.lifted.Goals as goal

pub demand-requires-clause-measures : goal.demand-requires-clause-measures
demand-requires-clause-measures c = code_measures c.args.game.now c.args.self.now _ c.successors-successors.result.now c.deref.result.now (record {
  view = c.self.view_is;
  is = c.self.invariant;
  same = c.requires.same;
  inside = c.requires.vertex;
  all = c.requires.whole;
  at = c.successors-successors.ensures;
  stored = c.deref.ensures.value;
})

pub returns-clause-below : goal.returns-clause-below
returns-clause-below c = code_below c.args.game.now c.args.self.now _ c.successors-successors.result.now c.deref.result.now c.demand.result (record {
  view = c.self.view_is;
  is = c.self.invariant;
  same = c.requires.same;
  inside = c.requires.vertex;
  all = c.requires.whole;
  at = c.successors-successors.ensures;
  stored = c.deref.ensures.value;
}) c.demand.ensures
