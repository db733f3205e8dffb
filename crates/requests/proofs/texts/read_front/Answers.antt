use Rattle.std.proofs.Common.{◌≡◌, subst, take}
use Rattle.std.specs.Prelude.{IfSome}
use Rattle.requests.proofs.Fronts.{read_all}
use Rattle.requests.proofs.texts.read_front.Goals as goal

pub returns-in-Ok-clause-front : goal.returns-in-Ok-clause-front
returns-in-Ok-clause-front g c =
    subst (λ reader. IfSome (g.S.Source.remaining reader) (λ all. c.read_to_end.new.buf.items ≡ take 1048577 all)) c.new.ensures
    (read_all (λ noted. g.S.Source.remaining noted.source) c.take-front.result c.new.result c.new-text.result.items c.read_to_end.new.buf.items
    c.take-front.ensures.limit c.take-front.ensures.inner c.new-text.ensures.items c.in-Ok.ensures.bytes)
