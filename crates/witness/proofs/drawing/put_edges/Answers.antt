use Rattle.text.proofs.Writing.{Wrote-as}
use Rattle.witness.proofs.Drawn.{all_lines}
use Rattle.witness.proofs.drawing.put_edges.Goals as goal

pub returns : goal.returns
returns g c = Wrote-as _ _ _ _ _ (all_lines c.args.system.now.labels c.args.part.now) c.put_lines.ensures.wrote
