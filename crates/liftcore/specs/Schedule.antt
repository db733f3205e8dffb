-- The text of a schedule, and the fault of a text that spells none.
use Rattle.std.specs.Prelude.{◌≡◌, ℕ, ◌+◌, ◌<◌, ◌≤◌, List, [], ◌∷◌, ◌++◌, length, Option, Some, None, IfSome, IsSomeAnd, codes}
use Rattle.std.specs.List.{AllZip, join_with_byte}
use Rattle.text.specs.Text.{IsNumeral, pieces_of}
use Rattle.liftcore.specs.declared.event.Event.{Event}
use Rattle.liftcore.specs.declared.event.Event.TheVariants.{Push, Raise, Read, Take}
use Rattle.liftcore.specs.declared.error.ScheduleFault.{ScheduleFault}
use Rattle.liftcore.specs.declared.error.ScheduleFault.TheVariants.{BadLine, NoSuchVertex, NoSuchWorker}
use Rattle.liftcore.specs.declared.error.ScheduleError.{ScheduleError}
use Rattle.liftcore.specs.declared.error.ScheduleError.TheVariants.{Fault, Memory}
use Rattle.text.specs.declared.error.ReadFault.TheVariants as reads
use Rattle.liftcore.specs.declared.error.ReadError.{ReadError}
use Rattle.liftcore.specs.declared.error.ReadError.TheVariants as read

-- the word and the numbers, with one space between two
abbrev pub IsWords : List ℕ → List ℕ → List ℕ → Type 0
IsWords line word numbers = (numerals : List (List ℕ)) × AllZip IsNumeral numerals numbers × (line ≡ join_with_byte 32 (word ∷ numerals))

abbrev pub IsEventLine : List ℕ → Event → Type 0
IsEventLine line (Take w v) = IsWords line (codes "take") (w ∷ v ∷ [])
IsEventLine line (Read w v) = IsWords line (codes "read") (w ∷ v ∷ [])
IsEventLine line (Raise w) = IsWords line (codes "raise") (w ∷ [])
IsEventLine line (Push w v) = IsWords line (codes "push") (w ∷ v ∷ [])

abbrev pub worker_of_event : Event → ℕ
worker_of_event (Take w v) = w
worker_of_event (Read w v) = w
worker_of_event (Raise w) = w
worker_of_event (Push w v) = w

-- the vertex that an event names, if it names one
abbrev pub vertex_of_event : Event → Option ℕ
vertex_of_event (Take w v) = Some v
vertex_of_event (Read w v) = Some v
vertex_of_event (Raise w) = None
vertex_of_event (Push w v) = Some v

-- its worker is one of so many, and its vertex too
pub record IsOfSoMany (workers vertices : ℕ) (event : Event) : Type 0 where
  pub worker : worker_of_event event < workers
  pub vertex : IfSome (vertex_of_event event) (λ v. v < vertices)

-- the line spells an event of so many workers and vertices
pub record IsGoodScheduleLine (workers vertices : ℕ) (line : List ℕ) (event : Event) : Type 0 where
  pub spelled : IsEventLine line event
  pub within : IsOfSoMany workers vertices event

-- An event a line. Lines end by LF, the last end may be missing, and a CR is a byte like any other.
abbrev pub IsSchedule : (workers vertices : ℕ) → (text : List ℕ) → List Event → Type 0
IsSchedule workers vertices text events = AllZip (IsGoodScheduleLine workers vertices) (pieces_of text) events

-- what is wrong with a line: its shape decides first, then the worker, then the vertex
abbrev pub ScheduleLineFault : (workers vertices : ℕ) → List ℕ → ScheduleFault → Type 0
ScheduleLineFault workers vertices line BadLine = (event : Event) → IsEventLine line event → ⊥
ScheduleLineFault workers vertices line NoSuchWorker = (event : Event) × IsEventLine line event × (workers ≤ worker_of_event event)
ScheduleLineFault workers vertices line NoSuchVertex =
    (event : Event) × IsEventLine line event × (worker_of_event event < workers) × IsSomeAnd (vertex_of_event event) (λ v. vertices ≤ v)

-- the first faulty line's fault, and the line, from 1
pub record HasScheduleFault (workers vertices : ℕ) (text : List ℕ) (fault : ScheduleFault) (place : ℕ) : Type 0 where
  pub front : List (List ℕ)
  pub line : List ℕ
  pub back : List (List ℕ)
  pub before : List Event
  pub cut : pieces_of text ≡ front ++ line ∷ back
  pub fine : AllZip (IsGoodScheduleLine workers vertices) front before
  pub wrong : ScheduleLineFault workers vertices line fault
  pub here : place ≡ length front + 1

-- the same of the fault with its line
abbrev pub HasScheduleFaultAt : (workers vertices : ℕ) → List ℕ → ScheduleFault × ℕ → Type 0
HasScheduleFaultAt workers vertices text told = HasScheduleFault workers vertices text told.0 told.1

-- the fault that an error tells, and its line: none where memory runs out
abbrev pub schedule_fault_of : ScheduleError → Option (ScheduleFault × ℕ)
schedule_fault_of (Fault fault line) = Some (fault, line)
schedule_fault_of Memory = None

-- the same of an error of a reader: none for a failed read either
abbrev pub reader_fault_of : ReadError → Option (ScheduleFault × ℕ)
reader_fault_of (read.Schedule error) = schedule_fault_of error
reader_fault_of (read.Read fault) = None

-- that a read failed
abbrev pub failed : ReadError
failed = read.Read reads.Read
