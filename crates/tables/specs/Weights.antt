-- Weights of ranks: what a count of a component counts for.
use Rattle.std.specs.Prelude.{◌≡◌, ℕ, ◌*◌, ◌<◌, ◌≤◌, List, length, slice_index}
use Rattle.game.specs.Game.{Game, count, greatest}
use Rattle.measures.specs.Lifting.{lists_up_to}
use Rattle.measures.specs.Measure.{odd_down}

-- how many lists have a count for each odd priority below this even one
abbrev pub weight : Game → ℕ → ℕ
weight g half = lists_up_to (count g) (odd_down (2 * half))

-- the weights of the even priorities up to the greatest
abbrev pub AreWeights : Game → List ℕ → Type 0
AreWeights g weights = (half : ℕ) → 2 * half ≤ greatest g → (half < length weights) × (slice_index weights half ≡ weight g half)
