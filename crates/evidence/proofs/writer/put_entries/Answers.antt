use Rattle.text.proofs.Writing.{Wrote-as}
use Rattle.evidence.proofs.Written.{all_lines}
use Rattle.evidence.proofs.writer.put_entries.Goals as goal

pub returns : goal.returns
returns g c = Wrote-as _ _ _ _ _ (all_lines c.args.entries.now.entries) c.put_lines.ensures.wrote
