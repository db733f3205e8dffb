use Rattle.std.proofs.Common.{ap, ◌∙◌, List, Option}
use Rattle.evidence.specs.Evidence.{Entry}
use Rattle.evidence.specs.View.{entries_of}
use Rattle.evidence.proofs.Places.{places_none}
use Rattle.evidence.proofs.entries.Entries.none.Goals as goal

pub returns : goal.returns
returns c =
    let counts = c.in_ok-vec-2.field-0.items in
    ap (λ (es : List (Option Entry)). record { width = c.args.width; entries = es })
    (ap (λ places. entries_of c.args.width places counts) (c.in_ok-vec.ensures.items_if_clones_equal (λ y e. e))
    ∙ places_none c.args.width c.args.length counts)
