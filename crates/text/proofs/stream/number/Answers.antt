use Rattle.std.proofs.Common.{ap, sym, ◌∙◌}
use Rattle.text.specs.Tokens.{whole_number}
use Rattle.text.proofs.Streaming.{known_then, number_passes}
use Rattle.text.proofs.stream.number.Goals as goal

pub returns : goal.returns
returns g c =
    known_then _ _ _ c.in_ok-skip_blanks.ensures.next c.in_ok-run.ensures
    (λ text mid left blanks digits. number_passes c.run.new.kept.items text mid left c.whole_number.result blanks.0 digits
    (ap whole_number (sym c.deref.ensures.value) ∙ c.whole_number.ensures))
