use Rattle.measures.proofs.Common.{◌≡◌, ◌+◌, ◌<◌, ◌≤◌, [], ◌∷◌, ◌++◌, List, ℕ, ap, arith, length, refl, slice_index, slice_index_or, subst, sym, take, ◌∙◌, All-from_recursion}
use Rattle.measures.proofs.Common.{Game, Measure, Some, Vertex, option_map, vertex}
use Rattle.std.proofs.Common.{length-set}
use Rattle.std.proofs.lemmas.List.{length-take-le, take_all}
use Rattle.game.specs.Predecessors.{successors_at}
use Rattle.measures.specs.Progs.{IsDemandOf}
use Rattle.measures.proofs.Bests.{its_successors, vertex_here, vertex_tells}
use Rattle.liftcore.specs.Reading.{values_of}
use Rattle.tables.specs.Turns.{reads}
use Rattle.tables.specs.declared.access.Access.TheVariants.{Read}
use Rattle.workers.proofs.Turning.{reads_noted}
use Rattle.workers.proofs.worker.lift.Goals as goal

-- the successors that were told
same_successors : (game : Game) (v : ℕ) (ts : List ℕ) → v < length game.vertices → option_map (λ x. x.successors) (vertex game v) ≡ Some ts
    → ts ≡ successors_at (vertex game v)
same_successors game v ts lt told = let x = vertex_here game v lt in
    sym (ap successors_at x.1 ∙ vertex_tells (λ (y : Vertex). y.successors) game v ts x.0 x.1 told)

pub loop-place-init : goal.loop-place-init
loop-place-init g c =
    let v = c.args.v in
    let begun = c.begin.new.self in
    let room = c.known-2.ensures.room v (subst (λ (h : Game). v < length h.vertices) (sym c.begin.ensures.game) c.requires.vertex) in
    let even = c.known-2.ensures.even in record {
      seat = c.requires.seat;
      game = c.begin.ensures.game;
      here = c.begin.ensures.vertex;
      read = λ k l. absurd (omega (arith, l));
      room = subst (λ (h : Game). length (successors_at (vertex h v)) ≤ length begun.values) c.begin.ensures.game (omega (arith, room, even));
      did = g.met.B.Board.idle c.args.board.now c.args.seat.now;
    }

pub read-requires-clause-vertex : goal.read-requires-clause-vertex
read-requires-clause-vertex g c =
    let game = c.args.game.now in
    let ts = c.successors-successors.result.now in
    let all = (its_successors game c.known.ensures c.args.v c.requires.vertex ts c.successors-successors.ensures).0 in
    subst (λ (h : Game). slice_index_or ts c.loop-place.place 0 < length h.vertices) (sym c.requires.on_board)
    (All-from_recursion (λ t. t < length game.vertices) ts all c.loop-place.place 0 (omega arith))

pub loop-place-preserved : goal.loop-place-preserved
loop-place-preserved g c =
    let ts = successors_at (vertex c.args.game.now c.args.v) in
    let told : c.successors-successors.result.now ≡ ts = same_successors c.args.game.now c.args.v c.successors-successors.result.now c.requires.vertex
    c.successors-successors.ensures in
    let place = c.loop-place.place in
    let inv = c.loop-place.invariant in
    let values = c.loop-place.turn.values in
    let m = c.read.result in
    let long = ap length told in
    let lt : place < length ts = let test = c.loop-place-test.true in omega (arith, test, long) in
    let read = subst (λ (us : List ℕ). g.B.Board.did c.args.board.now c.loop-place.seat c.read.new.seat (Read (slice_index us place) m ∷ [])) told
    c.read.ensures.read in
    let both = g.met.B.Board.chained c.args.board.now c.args.seat.now c.loop-place.seat c.read.new.seat (reads (take place ts) (take place values))
    (Read (slice_index ts place) m ∷ []) inv.did read in record {
      seat = c.read.ensures.seat;
      game = c.note.ensures.game ∙ inv.game;
      here = c.note.ensures.vertex ∙ inv.here;
      read = c.note.ensures.next inv.read;
      room = (let same = ap length c.note.ensures.values ∙ length-set values place m in let room = inv.room in omega (arith, same, room));
      did = subst (λ (new : List Measure). g.B.Board.did c.args.board.now c.args.seat.now c.read.new.seat (reads (take (place + 1) ts) (take (place + 1) new)))
          (sym c.note.ensures.values)
          (subst (g.B.Board.did c.args.board.now c.args.seat.now c.read.new.seat) (reads_noted ts values place m lt inv.room) both);
    }

pub returns-clause-turned : goal.returns-clause-turned
returns-clause-turned g c =
    let game = c.args.game.now in
    let v = c.args.v in
    let ts = successors_at (vertex game v) in
    let inv = c.loop-place.invariant in
    let turn = c.loop-place.turn in
    let values = take (length ts) turn.values in
    let asked = c.lifted.result in
    let rise = c.raise.ensures.raised in
    let long = ap length (same_successors game v c.successors-successors.result.now c.requires.vertex c.successors-successors.ensures) in
    let end : c.loop-place.place ≡ length ts = let test = c.loop-place-test.false in let most = c.loop-place.auto.place-end in omega (arith, test, most, long) in
    let read = subst (λ (us : List ℕ). g.B.Board.did c.args.board.now c.args.seat.now c.loop-place.seat (reads us values)) (take_all (length ts) ts (omega arith))
    (subst (λ (n : ℕ). g.B.Board.did c.args.board.now c.args.seat.now c.loop-place.seat (reads (take n ts) (take n turn.values))) end inv.did) in
    let same : values_of turn ≡ values = ap (λ (h : Game). take (length (successors_at (vertex h turn.vertex))) turn.values) inv.game
    ∙ ap (λ (u : ℕ). take (length (successors_at (vertex game u))) turn.values) inv.here in (
      reads ts values ++ rise.0,
      g.met.B.Board.chained c.args.board.now c.args.seat.now c.loop-place.seat c.raise.new.seat (reads ts values) rise.0 read rise.1,
      record {
        asked = asked;
        asking = reads ts values;
        raising = rise.0;
        whole = refl;
        asks = record {
          values = values;
          each = length-take-le (length ts) turn.values inv.room;
          whole = refl;
          demand = subst (λ (u : ℕ). IsDemandOf game u values asked) inv.here
              (subst (λ (ms : List Measure). IsDemandOf game turn.vertex ms asked) same c.lifted.ensures.value);
        };
        raises = rise.2;
      },
    )
