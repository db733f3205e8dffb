use Rattle.text.proofs.Streaming.{has}
use Rattle.text.proofs.stream.has_line.Goals as goal

pub returns : goal.returns
returns g c = has _ _ c.in_ok-look.field-0 c.is_some.result c.in_ok-look.ensures.next c.is_some.ensures
