-- Why something could not be read.
use Rattle.std.specs.Prelude.{◌≡◌, Bool, IsTrue}

-- that a read failed, as this error tells it, is told only of what can fail
abbrev pub HasCause : {E : Type 0} → (can_fail : Bool) → (failed : E) → E → Type 0
HasCause can_fail failed e = e ≡ failed → IsTrue can_fail
