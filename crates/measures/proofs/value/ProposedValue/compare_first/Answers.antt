use Rattle.measures.proofs.Common.{◌∙◌, List, ap, length, take}
use Rattle.std.specs.Prelude.{min}
use Rattle.measures.proofs.Values.{first_compared}
use Rattle.measures.specs.declared.field.CountField.{CountField}
use Rattle.measures.proofs.value.ProposedValue.compare_first.Goals as goal

pub returns-in-false-false : goal.returns-in-false-false
returns-in-false-false c =
    first_compared c.args.self c.args.other c.args.kept _ c.requires c.in-false-false.is-0 c.in-false-false.is-1
    (ap (λ n. take n c.as_slice-fields.result.now) c.min.ensures
    ∙ ap (λ (fs : List CountField). take (min c.args.kept (length fs)) fs) c.as_slice-fields.ensures.value) c.compare_counts.result c.compare_counts.ensures
