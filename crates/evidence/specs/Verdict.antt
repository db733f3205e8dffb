-- What a checker of evidence answers.
use Rattle.std.specs.Prelude.{◌≡◌, ◌≢◌, ℕ, ◌<◌, ◌⊎◌, List, [], ◌++◌, length, count_by, IsTrue, Some, codes, decimal}
use Rattle.std.specs.Option.{is_some}
use Rattle.text.specs.Pieces.{line_end}
use Rattle.game.specs.declared.player.Player.{Player}
use Rattle.game.specs.declared.player.Player.TheVariants.{Even, Odd}
use Rattle.game.specs.Game.{Game, Vertex, vertex}
use Rattle.evidence.specs.Canon.{player_text}
use Rattle.evidence.specs.Evidence.{Entry, Evidence, LacksFault, IsFreeAt, IsGood, entry_at, has}
use Rattle.evidence.specs.declared.verdict.Fault.{Fault}
use Rattle.evidence.specs.declared.verdict.Fault.TheVariants.{Leaves, Move, Rank}
use Rattle.evidence.specs.declared.verdict.Verdict.{Verdict}
use Rattle.evidence.specs.declared.verdict.Verdict.TheVariants.{Faulty, Good}
use Rattle.evidence.specs.declared.verdict.Both.{Both}
use Rattle.evidence.specs.declared.verdict.Both.TheVariants.{First, LeftOut, OnePlayer, Second, Yes}

-- the order of the faults
abbrev pub number_of : Fault → ℕ
number_of Move = 1
number_of Leaves = 2
number_of Rank = 3

-- the least vertex of the set with a fault, and the least of its faults
pub record IsFirstFault (g : Game) (e : Evidence) (u : ℕ) (fault : Fault) : Type 0 where
  pub entry : Entry
  pub at : Vertex
  pub here : (entry_at e u ≡ Some entry) × (vertex g u ≡ Some at)
  pub stands : LacksFault g e at entry fault → ⊥
  pub least : (other : Fault) → number_of other < number_of fault → LacksFault g e at entry other
  pub before : (t : ℕ) (other : Fault) → t < u → IsFreeAt g e t other

abbrev pub IsVerdict : Game → Evidence → Verdict → Type 0
IsVerdict g e Good = IsGood g e
IsVerdict g e (Faulty u fault) = IsFirstFault g e u fault

-- Both are good, and they are of different players.
abbrev pub IsPair : Game → Evidence → Evidence → Type 0
IsPair g e f = IsGood g e × IsGood g f × (e.player ≢ f.player)

abbrev pub IsLeftOut : Evidence → Evidence → ℕ → Type 0
IsLeftOut e f v = (IsTrue (has e v) → ⊥) × (IsTrue (has f v) → ⊥)

-- the first of these that stands
abbrev pub IsBoth : Game → Evidence → Evidence → Both → Type 0
IsBoth g e f (First u fault) = IsFirstFault g e u fault
IsBoth g e f (Second u fault) = IsGood g e × IsFirstFault g f u fault
IsBoth g e f OnePlayer = IsGood g e × IsGood g f × (e.player ≡ f.player)
IsBoth g e f (LeftOut v) = IsPair g e f × (v < length g.vertices) × IsLeftOut e f v × ((u : ℕ) → u < v → IsTrue (has e u) ⊎ IsTrue (has f u))
IsBoth g e f Yes = IsPair g e f × ((v : ℕ) → v < length g.vertices → IsTrue (has e v) ⊎ IsTrue (has f v))

-- ------------------------------------------------------------------ what is written of it

abbrev pub fault_text : Fault → List ℕ
fault_text Move = codes "C1"
fault_text Leaves = codes "C2"
fault_text Rank = codes "C3"

-- how many vertices the set has
abbrev pub set_size : Evidence → ℕ
set_size e = count_by is_some e.entries

-- `refused CODE at V`, with what may stand before the code
abbrev pub refusal : List ℕ → Fault → ℕ → List ℕ
refusal before fault v = codes "refused " ++ (before ++ (fault_text fault ++ (codes " at " ++ (decimal v ++ line_end))))

-- `verified even C of N`, where the game has N vertices, or why not
abbrev pub verdict_text : Game → Evidence → Verdict → List ℕ
verdict_text g e Good = codes "verified " ++ (player_text e.player
    ++ (codes " " ++ (decimal (set_size e) ++ (codes " of " ++ (decimal (length g.vertices) ++ line_end)))))
verdict_text g e (Faulty v fault) = refusal [] fault v

abbrev chosen : Player → Evidence → Evidence → Evidence
chosen Even e f = e
chosen Odd e f = f

-- of two that are of different players Even's, and Odd's
abbrev pub even_of : Evidence → Evidence → Evidence
even_of e f = chosen e.player e f

abbrev pub odd_of : Evidence → Evidence → Evidence
odd_of e f = chosen e.player f e

-- `verified both even E odd O of N`
abbrev pub sizes_line : (even odd vertices : ℕ) → List ℕ
sizes_line even odd vertices = codes "verified both even " ++
    (decimal even ++ (codes " odd " ++ (decimal odd ++ (codes " of " ++ (decimal vertices ++ line_end)))))

-- that line, or why not
abbrev pub both_text : Game → Evidence → Evidence → Both → List ℕ
both_text g e f (First v fault) = refusal (codes "first ") fault v
both_text g e f (Second v fault) = refusal (codes "second ") fault v
both_text g e f OnePlayer = codes "refused C4" ++ line_end
both_text g e f (LeftOut v) = codes "refused C5 at " ++ (decimal v ++ line_end)
both_text g e f Yes = sizes_line (set_size (even_of e f)) (set_size (odd_of e f)) (length g.vertices)
