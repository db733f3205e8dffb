-- What workers do in their turns.
use Rattle.std.specs.Prelude.{◌≡◌, ◌⊎◌, ◌++◌, ◌%◌, ◌-◌, ◌==◌, ℕ, Bool, IsTrue, List, [], ◌∷◌, Contains, filter}
use Rattle.std.specs.List.{range_with_len}
use Rattle.game.specs.Game.{Game}
use Rattle.game.specs.Predecessors.{predecessors}
use Rattle.tables.specs.Turns.{IsTurn}
use Rattle.tables.specs.declared.access.Access.{Access}
use Rattle.workers.specs.declared.marks.TheConstants.{BLOCK}

-- the first vertex of the block in which a vertex stands
abbrev pub first_in_block : ℕ → ℕ
first_in_block v = v - v % BLOCK

-- each predecessor of the vertex was pending, or its block is one of these jobs
abbrev pub AreGiven : Game → (ℕ → Type 0) → ℕ → List ℕ → Type 0
AreGiven g was_pending v jobs = (u : ℕ) → Contains (predecessors g v) u → was_pending u ⊎ Contains jobs (first_in_block u)

-- a turn at the vertex, and where it rose its predecessors are given
pub record IsWork (g : Game) (was_pending : ℕ → Type 0) (v : ℕ) (accesses : List Access) (jobs : List ℕ) : Type 0 where
  pub rose : Bool
  pub turn : IsTurn g v rose accesses
  pub given : IsTrue rose → AreGiven g was_pending v jobs

-- turns at these vertices, one after another
abbrev pub AreTurns : Game → (ℕ → Type 0) → List ℕ → List Access → List ℕ → Type 0
AreTurns g was_pending [] accesses jobs = (accesses ≡ []) × (jobs ≡ [])
AreTurns g was_pending (v ∷ vs) accesses jobs =
    (first rest : List Access) × (mine others : List ℕ) × (accesses ≡ first ++ rest) × (jobs ≡ mine ++ others) × IsWork g was_pending v first mine
    × AreTurns g was_pending vs rest others

-- such turns at some vertices
abbrev pub AreSomeTurns : Game → (ℕ → Type 0) → List Access → List ℕ → Type 0
AreSomeTurns g was_pending accesses jobs = (vs : List ℕ) × AreTurns g was_pending vs accesses jobs

-- accesses that were made and jobs that were given, of which this holds
abbrev pub Done : (List Access → Type 0) → (List ℕ → Type 0) → (List Access → List ℕ → Type 0) → Type 0
Done did gave P = (accesses : List Access) × (jobs : List ℕ) × did accesses × gave jobs × P accesses jobs

-- such turns at these vertices, and then at others
abbrev pub HasWorked : Game → (ℕ → Type 0) → List ℕ → (List Access → Type 0) → (List ℕ → Type 0) → Type 0
HasWorked g was_pending own did gave = Done did gave (λ accesses jobs. (others : List ℕ) × AreTurns g was_pending (own ++ others) accesses jobs)

-- a worker's own vertices, of so many: those whose number is the worker's modulo that of all workers
abbrev pub own_vertices : (vertices workers number : ℕ) → List ℕ
own_vertices vertices workers number = filter (λ v. v % workers == number) (range_with_len 0 vertices)
