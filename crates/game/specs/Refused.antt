-- When a system and a normal form have no game within the limits.
use Rattle.std.specs.Prelude.{ℕ, ◌+◌, ◌*◌, ◌<◌, ◌≤◌}
use Rattle.game.specs.declared.limits.TheConstants.{MOST_VERTICES}
use Rattle.game.specs.declared.error.BuildError.{BuildError}
use Rattle.game.specs.declared.error.BuildError.TheVariants.{TooManyVertices, Memory}

-- The number of vertices decides.
abbrev pub HasBuildRefusal : ℕ → ℕ → BuildError → Type 0
HasBuildRefusal states nodes TooManyVertices = MOST_VERTICES < 2 + states * nodes
HasBuildRefusal states nodes Memory = 2 + states * nodes ≤ MOST_VERTICES
