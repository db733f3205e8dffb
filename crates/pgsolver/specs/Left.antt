-- Why a call refused what a reader had left, and what stands there.
use Rattle.std.specs.Prelude.{◌≡◌, ◌≢◌, ℕ, ◌+◌, ◌<◌, ◌≤◌, ◌⊎◌, Bool, true, false, List, [], ◌∷◌, ◌++◌, length, map, Option, Some, None, IfSome}
use Rattle.std.specs.Prelude.{slice_index_or, slice_get, nat_lt, is_some, Contains, AllPairs}
use Rattle.std.specs.List.{list_any, AllZip, AllByRecursion}
use Rattle.text.specs.Text.{lines}
use Rattle.text.specs.Lines.{IfKnown}
use Rattle.text.specs.declared.error.ReadFault.{ReadFault}
use Rattle.text.specs.declared.error.ReadFault.TheVariants as reads
use Rattle.calculus.specs.declared.limits.TheConstants.{GREATEST_PRIORITY}
use Rattle.game.specs.Game.{Vertex}
use Rattle.pgsolver.specs.declared.error.PgFault.{PgFault}
use Rattle.pgsolver.specs.declared.error.PgFault.TheVariants.{BadIdentifier, BadSuccessor, PriorityTooGreat}
use Rattle.pgsolver.specs.declared.error.PgError.{PgError}
use Rattle.pgsolver.specs.declared.error.PgError.TheVariants.{Fault, Read, Memory}
use Rattle.text.specs.Stream as stream
use Rattle.text.specs.Stream.{after_line}
use Rattle.pgsolver.specs.Scan.{line_said}
use Rattle.pgsolver.specs.Spelling.{VertexLine, IsPgHeader, IsLine, IsLineWithin, AreGoodLines, vertex_said}
use Rattle.pgsolver.specs.declared.scan.Head.{Head}
use Rattle.game.specs.NumberSet.{number_set}
use Rattle.pgsolver.specs.Fault.{PgBodyFault, PgLineFault}

-- what is told of a line that could not be read
abbrev pub pg_unread : ReadFault → PgError
pg_unread reads.Read = Read
pg_unread reads.Memory = Memory

-- the fault that an error tells, and its line: none for a failed read, or where memory runs out
abbrev pub pg_fault_of : PgError → Option (PgFault × ℕ)
pg_fault_of (Fault fault line) = Some (fault, line)
pg_fault_of Read = None
pg_fault_of Memory = None

-- P holds of what was left, where that is known, and of the fault and its line, if it was one
abbrev pub RefusesPg : Option (List ℕ) → (List ℕ → PgFault → ℕ → Type 0) → PgError → Type 0
RefusesPg old P e = IfSome old (λ text. IfSome (pg_fault_of e) (λ told. P text told.0 told.1))

-- the first line is a header with this greatest identifier, and the others are left
pub record BeginsGame (n : ℕ) (text left : List ℕ) : Type 0 where
  pub first : List ℕ
  pub cut : lines text ≡ first ∷ lines left
  pub header : IsPgHeader first n

-- the fault of the lines below a header, and its line in the whole text
abbrev pub HasPgRestFault : ℕ → List ℕ → PgFault → ℕ → Type 0
HasPgRestFault n text fault place = (good : ℕ) × PgBodyFault n (lines text) fault good × (place ≡ good + 2)

-- the line with this identifier, if there is one
abbrev pub IsPlace : List VertexLine → ℕ → Option ℕ → Type 0
IsPlace spelled v None = (x : VertexLine) → Contains spelled x → x.id ≡ v → ⊥
IsPlace spelled v (Some k) = (x : VertexLine) × (slice_get spelled k ≡ Some x) × (x.id ≡ v)

-- for each identifier the line on which it stands, if there is one
pub record ArePlaces (n : ℕ) (spelled : List VertexLine) (places : List (Option ℕ)) : Type 0 where
  pub count : length places ≡ n + 1
  pub each : (v : ℕ) → v ≤ n → IsPlace spelled v (slice_index_or places v None)

-- the first lines say these, and the others are left
abbrev pub BeginsWithLines : List VertexLine → List ℕ → List ℕ → Type 0
BeginsWithLines spelled text left = (done : List (List ℕ)) × (lines text ≡ done ++ lines left) × AllZip IsLine done spelled

-- what the vertex lines that were read so far say: so many and all of them good
pub record LinesSoFar (n good : ℕ) (old now : Option (List ℕ)) (vertices : List Vertex) (places : List (Option ℕ)) : Type 0 where
  pub spelled : List VertexLine
  pub within : AllByRecursion (IsLineWithin n) spelled
  pub once : AllPairs (λ x y. x.id ≢ y.id) spelled
  pub count : length spelled ≡ good
  pub cut : IfKnown old now (BeginsWithLines spelled)
  pub kept : vertices ≡ map vertex_said spelled
  pub placed : ArePlaces n spelled places

-- some successor is above the greatest identifier
abbrev pub has_far : ℕ → List ℕ → Bool
has_far n = list_any (nat_lt n)

-- what a line says may stand in a game with the greatest identifier n, where these identifiers have a line
pub record IsSound (n : ℕ) (places : List (Option ℕ)) (x : VertexLine) : Type 0 where
  pub id : x.id ≤ n
  pub new : slice_index_or places x.id None ≡ None
  pub some : x.successors ≢ []
  pub near : has_far n x.successors ≡ false
  pub priority : x.priority ≤ GREATEST_PRIORITY

-- what is wrong with what a line says
abbrev pub IsFaultOfLine : ℕ → List (Option ℕ) → VertexLine → PgFault → Type 0
IsFaultOfLine n places x BadIdentifier = (n < x.id) ⊎ ((x.id ≤ n) × (is_some (slice_index_or places x.id None) ≡ true))
IsFaultOfLine n places x BadSuccessor = (x.id ≤ n) × (slice_index_or places x.id None ≡ None) × ((x.successors ≡ []) ⊎ (has_far n x.successors ≡ true))
IsFaultOfLine n places x PriorityTooGreat = (x.id ≤ n) × (slice_index_or places x.id None ≡ None) × (x.successors ≢ []) × (has_far n x.successors ≡ false)
    × (GREATEST_PRIORITY < x.priority)
IsFaultOfLine n places x _ = ⊥

-- the fault of the line that was next, which stands after these, and its place
abbrev pub TellsFault : ℕ → List VertexLine → Option (List ℕ) → ℕ → PgError → Type 0
TellsFault n before old place e = IfSome old (λ text. IfSome (pg_fault_of e) (λ told. PgLineFault n before (stream.line_of text) told.0 × (told.1 ≡ place)))

-- the line that was next says this, and is taken
abbrev pub TakesRow : VertexLine → List ℕ → List ℕ → Type 0
TakesRow x text left = IsLine (stream.line_of text) x × (left ≡ after_line text)

-- The line that was next says this within a game with the greatest identifier n, with an identifier that has no line yet.
pub record Says (n : ℕ) (places : List (Option ℕ)) (old new : Option (List ℕ)) (head : Head) (targets : List ℕ) : Type 0 where
  pub successors : List ℕ
  pub within : IsLineWithin n (line_said head successors)
  pub new_id : slice_index_or places head.id None ≡ None
  pub set : targets ≡ number_set successors
  pub is : IfKnown old new (TakesRow (line_said head successors))

-- The lines are all that were announced.
pub record AreAll (n : ℕ) (vertices : List Vertex) (places : List (Option ℕ)) (text left : List ℕ) : Type 0 where
  pub spelled : List VertexLine
  pub good_lines : AreGoodLines n (lines text) spelled
  pub count : length (lines text) ≡ n + 1
  pub kept : vertices ≡ map vertex_said spelled
  pub placed : ArePlaces n spelled places

-- each identifier has one of so many lines
abbrev pub AreFilled : ℕ → List (Option ℕ) → Type 0
AreFilled count places = (v : ℕ) → v < length places → (k : ℕ) × (slice_index_or places v None ≡ Some k) × (k < count)

-- the vertices stand at their identifiers
abbrev pub ArePutByIds : List (Option ℕ) → List Vertex → List Vertex → Type 0
ArePutByIds places read put = (v k : ℕ) → v < length places → slice_index_or places v None ≡ Some k → slice_get put v ≡ slice_get read k
