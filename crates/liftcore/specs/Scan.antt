-- What a line of a schedule is as a test: its event, where numerals are read in some way.
use Rattle.std.specs.Prelude.{ℕ, List, Option, Some, None, codes, if◌then◌else◌}
use Rattle.std.specs.Str.{bytes_eq}
use Rattle.text.specs.Tokens.{cut_at, ◌>>=◌}
use Rattle.liftcore.specs.declared.event.Event.{Event}
use Rattle.liftcore.specs.declared.event.Event.TheVariants.{Push, Raise, Read, Take}

-- the event of a word with a worker and a vertex
unfoldable pub event_with : List ℕ → ℕ → ℕ → Option Event
event_with word w v =
    if bytes_eq word (codes "take") then Some (Take w v) else
    (if bytes_eq word (codes "read") then Some (Read w v) else (if bytes_eq word (codes "push") then Some (Push w v) else None))

-- two numbers, with a space between them
unfoldable pub two_numbers : (List ℕ → Option ℕ) → List ℕ → Option (ℕ × ℕ)
two_numbers number bytes = do
  cut ← cut_at 32 bytes
  w ← number cut.0
  v ← number cut.1
  Some (w, v)

unfoldable pub event_at : (List ℕ → Option ℕ) → List ℕ → Option Event
event_at number line = do
  cut ← cut_at 32 line
  if bytes_eq cut.0 (codes "raise") then (number cut.1 >>= λ w. Some (Raise w)) else (two_numbers number cut.1 >>= λ both. event_with cut.0 both.0 both.1)
