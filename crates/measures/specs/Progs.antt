-- The least measure that reaches another, as code finds it.
use Rattle.std.specs.Prelude.{◌≡◌, ◌<◌, ◌≤◌, ℕ, IsTrue, List, Some, map, slice_index}
use Rattle.std.specs.List.{AllZip}
use Rattle.std.specs.declared.cmp.Ordering.{Ordering}
use Rattle.std.specs.Ordering.{is_gt, is_lt}
use Rattle.game.specs.Game.{Game, Vertex, count, vertex}
use Rattle.game.specs.declared.player.Player.{Player}
use Rattle.game.specs.declared.player.Player.TheVariants.{Even, Odd}
use Rattle.measures.specs.Measure.{Measure, components, IsMeasure, IsProg}
use Rattle.measures.specs.Progress.{IsBestFor, IsLift}

-- the greatest count of each component
abbrev pub bounds : Game → List ℕ
bounds g = map (count g) (components g)

-- from one component on, and before another, no count can be greater
abbrev pub AreAtBounds : List ℕ → List ℕ → ℕ → ℕ → Type 0
AreAtBounds limits counts from to = (i : ℕ) → from ≤ i → i < to → slice_index limits i ≤ slice_index counts i

-- in each game with these bounds r is the prog of the measure at this priority
abbrev pub IsProgUnder : List ℕ → ℕ → Measure → Measure → Type 0
IsProgUnder limits p m r = (g : Game) → bounds g ≡ limits → IsMeasure g m → IsProg g p m r

-- the prog of a measure at a vertex
abbrev pub IsProgAt : Game → ℕ → Measure → Measure → Type 0
IsProgAt g v m r = (x : Vertex) × (vertex g v ≡ Some x) × IsProg g x.priority m r

-- what a vertex asks for where its successors have these: the best of what it asks for at each of them
abbrev pub IsDemandOf : Game → ℕ → List Measure → Measure → Type 0
IsDemandOf g v values r =
    (x : Vertex) × (vertex g v ≡ Some x) × ((progs : List Measure) × AllZip (IsProg g x.priority) values progs × IsBestFor x.owner progs r)

-- the lift of a vertex with its own value, where its successors have these
abbrev pub IsLiftOf : Game → ℕ → Measure → List Measure → Measure → Type 0
IsLiftOf g v own values r = (x : Vertex) × (vertex g v ≡ Some x) × IsLift g x own values r

-- Even goes on with the lesser measure, and Odd with the greater.
abbrev pub IsBetter : Player → Ordering → Type 0
IsBetter Even order = IsTrue (is_lt order)
IsBetter Odd order = IsTrue (is_gt order)
