use Rattle.text.proofs.Writing.{Wrote-as}
use Rattle.lts.proofs.Canonical.{all_lines}
use Rattle.lts.proofs.writer.put_arrows.Goals as goal

pub returns : goal.returns
returns g c = Wrote-as _ _ _ _ _ (all_lines c.args.lts.now.labels c.args.part.now) c.put_lines.ensures.wrote
