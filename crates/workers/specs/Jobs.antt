-- The rule of the deques.
use Rattle.std.specs.Prelude.{◌≡◌, ℕ, ◌<◌, ◌≤◌, ◌++◌, List, All, length}
use Rattle.crossbeam_deque.specs.Handles.{worker_capacity, worker_index, worker_view}
use Rattle.crossbeam_deque.specs.declared.handles.Worker.{Worker}
use Rattle.game.specs.Game.{Game}
use Rattle.workers.specs.declared.jobs.Given.{Given}
use Rattle.workers.specs.declared.jobs.Jobs.{Jobs}
use Rattle.std.specs.Global.{Global}

-- each job is a vertex of the game
abbrev pub AreJobs : Game → List ℕ → Type 0
AreJobs g jobs = All (λ v. v < length g.vertices) jobs

-- one that has given these jobs and gives these
abbrev pub more_given : Given → List ℕ → Given
more_given had jobs = record { jobs = had.jobs ++ jobs }

module _ {A P : Type 0} where
  -- Since then these jobs were given to the deque, in order. Its room is no less.
  abbrev pub Gave : Worker ℕ A Given P → Worker ℕ A Given P → List ℕ → Type 0
  Gave old new jobs = (worker_view new ≡ more_given (worker_view old) jobs) × (worker_capacity old ≤ worker_capacity new)

  -- at least as many jobs as there was room for have come to the deque
  abbrev pub IsFilled : Worker ℕ A Given P → Worker ℕ A Given P → Type 0
  IsFilled old new = worker_capacity old ≤ worker_index new

-- a deque with jobs of the game that K names had no room for one more
abbrev pub WasFilled : Type 0 → Type 0
WasFilled K = (old new : Worker ℕ Global Given (Jobs K)) × IsFilled old new
