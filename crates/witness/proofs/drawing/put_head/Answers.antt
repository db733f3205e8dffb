use Rattle.std.proofs.Common.{ap}
use Rattle.text.proofs.Writing.{Wrote-as}
use Rattle.witness.specs.Drawing.{head_text}
use Rattle.witness.proofs.drawing.put_head.Goals as goal

pub returns : goal.returns
returns g c = Wrote-as _ _ _ _ _ (ap head_text c.from.ensures) c.put_pieces.ensures
