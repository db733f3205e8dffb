use Rattle.std.proofs.Common.{ap, ap₂, ◌∙◌, List, Bool, ℕ, ◌≡◌, slice_set, true}
use Rattle.liftcore.specs.Core.{Holding, Note}
use Rattle.liftcore.specs.Reading.{SuccessorReading, successors_read}
use Rattle.liftcore.specs.Seats.{notes_from, notes_of}
use Rattle.liftcore.specs.declared.seat.CoreWorker.{CoreWorker}
use Rattle.game.specs.Game.{Game, vertex}
use Rattle.game.specs.Predecessors.{successors_at}
use Rattle.measures.specs.Measure.{Measure}
use Rattle.liftcore.proofs.Seated.{note_one, worker_holding}
use Rattle.liftcore.proofs.seat.CoreWorker.note.Goals as goal

pub returns-clause-notes : goal.returns-clause-notes
returns-clause-notes c =
    let old : SuccessorReading = c.args.self.now.turn in
    let new : SuccessorReading = c.note.new.self in
    let seat : CoreWorker = record { holding = c.args.self.now.holding; turn = new; owed = c.args.self.now.owed } in
    let same : successors_read new ≡ successors_read old = ap₂ (λ (g : Game) (v : ℕ). successors_at (vertex g v)) c.note.ensures.game c.note.ensures.vertex in
    let notes : notes_of new ≡ notes_from (successors_read old) (slice_set old.marks c.args.place true) (slice_set old.values c.args.place c.args.value) =
    ap₂ (λ (ts : List ℕ) (bs : List Bool). notes_from ts bs new.values) same c.note.ensures.marks
    ∙ ap (λ (ms : List Measure). notes_from (successors_read old) (slice_set old.marks c.args.place true) ms) c.note.ensures.values in
    worker_holding seat c.requires.unread.holding
    ∙ ap₂ (λ (u : ℕ) (ns : List Note). Holding u ns) c.note.ensures.vertex
    (notes ∙ note_one c.args.game.now c.args.self.now c.requires.seat c.args.v c.args.place c.args.value c.requires.unread)
