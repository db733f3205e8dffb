-- What was done by a seat, one access after another.
use Rattle.std.proofs.Common.{List, ◌++◌, ap, append_assoc, ◌∙◌}
use Rattle.tables.specs.Seats.{Did, done}
use Rattle.tables.specs.declared.access.Access.{Access}
use Rattle.tables.specs.declared.packed.PackedSeat.{PackedSeat}

pub did_both : (first middle last : PackedSeat) (before after : List Access) → Did first middle before → Did middle last after
    → Did first last (before ++ after)
did_both first middle last before after one two = two ∙ (ap (λ (xs : List Access). xs ++ after) one ∙ append_assoc (done first) before after)
