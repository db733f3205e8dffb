use Rattle.text.proofs.Writing.{Wrote-as}
use Rattle.pgsolver.proofs.Lines.{all_lines}
use Rattle.pgsolver.proofs.writer.put_vertices.Goals as goal

pub returns : goal.returns
returns g c = Wrote-as _ _ _ _ _ (all_lines c.args.game.now) c.put_lines.ensures.wrote
