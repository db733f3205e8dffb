use Rattle.std.proofs.Common.{ℕ, ◌≡◌, ◌<◌, ◌≤◌, ◌+◌, List, Some, ap, arith, length, option_map, slice_index, subst, suc, sym}
use Rattle.std.proofs.lemmas.List.Elements.{All-from_recursion}
use Rattle.game.specs.Game.{Game, Vertex, vertex}
use Rattle.measures.specs.Lifting.{height, of_rank, worst_of}
use Rattle.measures.specs.Measure.{IsAtMost, IsProg, Measure}
use Rattle.measures.specs.Progress.{LiesUnder, value_at}
use Rattle.measures.specs.Progs.{IsProgAt}
use Rattle.game.specs.declared.player.Player.{Player}
use Rattle.measures.proofs.Bests.{its_successors, vertex_here}
use Rattle.measures.proofs.Gathering.{IsGathered, gathered_below, gathered_next, gathered_none, gathered_over}
use Rattle.measures.proofs.Measures.{at_most_trans}
use Rattle.measures.proofs.Rising.{set_under, under_itself, under_trans}
use Rattle.tables.specs.Seats.{board_game, done, seen}
use Rattle.tables.specs.Weights.{AreWeights}
use Rattle.tables.proofs.Asking.{HasAsked, asked_all, asked_next, asked_none}
use Rattle.tables.proofs.packed.PackedBoard.best_rank.Goals as goal

pub loop-t-init : goal.loop-t-init
loop-t-init c =
    let board = c.args.self.now in
    let g = board_game board in
    let worst : c.worst_rank-best.result ≡ worst_of c.owner-owner.result g = c.worst_rank-best.ensures g board.topped in record {
      seat = c.requires.seat;
      kept = under_itself (seen c.args.seat.now);
      gathered = λ x at.
          subst (IsGathered c.owner-owner.result g x.priority c.successors-t-items.result.now 0 (seen c.args.seat.now)) (sym worst)
          (gathered_none c.owner-owner.result g x.priority c.successors-t-items.result.now (seen c.args.seat.now));
      asked = λ x at.
          subst (HasAsked c.owner-owner.result g x.priority c.successors-t-items.result.now 0 (done c.args.seat.now) (done c.args.seat.now)) (sym worst)
          (asked_none c.owner-owner.result g x.priority c.successors-t-items.result.now (done c.args.seat.now));
    }

-- what is told by the name of the game that a call gives
module _ (h g : Game) (same : h ≡ g) (v : ℕ) where
  successors_told : (ts : List ℕ) → option_map (λ x. x.successors) (vertex h v) ≡ Some ts → option_map (λ x. x.successors) (vertex g v) ≡ Some ts
  successors_told ts = subst (λ (k : Game). option_map (λ x. x.successors) (vertex k v) ≡ Some ts) same

  owner_told : (o : Player) → option_map (λ x. x.owner) (vertex h v) ≡ Some o → option_map (λ x. x.owner) (vertex g v) ≡ Some o
  owner_told o = subst (λ (k : Game). option_map (λ x. x.owner) (vertex k v) ≡ Some o) same

  prog_told : (x : Vertex) → vertex g v ≡ Some x → (m r : ℕ) → IsProgAt h v (of_rank h m) (of_rank h r) → IsProg g x.priority (of_rank g m) (of_rank g r)
  prog_told x at m r told =
      let here : IsProgAt g v (of_rank g m) (of_rank g r) = subst (λ (k : Game). IsProgAt k v (of_rank k m) (of_rank k r)) same told in
      let one : here.0 ≡ x = cc (here.1, at) in
      subst (λ (y : Vertex). IsProg g y.priority (of_rank g m) (of_rank g r)) one here.2

pub look_at-number-requires-clause-vertex : goal.look_at-number-requires-clause-vertex
look_at-number-requires-clause-vertex c =
    let g = board_game c.args.self.now in
    let ts = c.successors-t-items.result.now in
    let inside = (its_successors g c.requires.seat.plain.game c.args.v c.requires.vertex ts
    (successors_told c.deref-game.result.now g c.deref-game.ensures c.args.v ts c.successors-t-items.ensures)).0 in
    All-from_recursion (λ t. t < length g.vertices) ts inside c.loop-t.t-index 0 c.loop-t-test.true

pub prog_rank-asked-requires-clause-weights : goal.prog_rank-asked-requires-clause-weights
prog_rank-asked-requires-clause-weights c =
    subst (AreWeights c.deref-game.result.now) (sym c.as_slice-weights.ensures.value)
    (subst (λ (k : Game). AreWeights k c.args.self.now.weights.items) (sym c.deref-game.ensures) c.args.self.now.weighed)

pub loop-t-preserved : goal.loop-t-preserved
loop-t-preserved c =
    let h = c.deref-game.result.now in
    let g = board_game c.args.self.now in
    let v = c.args.v in
    let ts = c.successors-t-items.result.now in
    let i = c.loop-t.t-index in
    let t = slice_index ts i in
    let first = seen c.args.seat.now in
    let was = seen c.loop-t.seat in
    let look = c.look_at-number.ensures in
    let m = of_rank g c.look_at-number.result in
    let inv = c.loop-t.invariant in
    let inside = (its_successors g c.requires.seat.plain.game v c.requires.vertex ts
    (successors_told h g c.deref-game.ensures v ts c.successors-t-items.ensures)).0 in
    let low : t < length g.vertices = All-from_recursion (λ u. u < length g.vertices) ts inside i 0 c.loop-t-test.true in
    let there : t < length was = let long = inv.seat.plain.long in omega (arith, low, long) in
    let rose : LiesUnder was (seen c.look_at-number.new.seat) = subst (λ (table : List Measure). LiesUnder was table) (sym look.seen)
    (set_under was t m there look.later) in
    let later : IsAtMost (value_at first t) m = at_most_trans (value_at first t) (value_at was t) m (inv.kept t) look.later in
    let small : c.prog_rank-asked.result ≤ height g = subst (λ
    (k : Game). c.prog_rank-asked.result ≤ height k) c.deref-game.ensures c.prog_rank-asked.ensures.low in
    let one : suc i ≡ i + 1 = omega arith in record {
      seat = look.seat;
      kept = under_trans first was (seen c.look_at-number.new.seat) inv.kept rose;
      gathered = λ x at.
          subst (λ (k : ℕ). IsGathered c.owner-owner.result g x.priority ts k first c.better_rank-best.result) one
          (subst (IsGathered c.owner-owner.result g x.priority ts (suc i) first) (sym c.better_rank-best.ensures)
          (gathered_next g x.priority ts i first c.loop-t.best c.prog_rank-asked.result m look.word.below.under later small
          (prog_told h g c.deref-game.ensures v x at c.look_at-number.result c.prog_rank-asked.result c.prog_rank-asked.ensures.prog) c.owner-owner.result
          (inv.gathered x at)));
      asked = λ x at.
          subst (λ (k : ℕ). HasAsked c.owner-owner.result g x.priority ts k (done c.args.seat.now) (done c.look_at-number.new.seat) c.better_rank-best.result) one
          (subst (HasAsked c.owner-owner.result g x.priority ts (suc i) (done c.args.seat.now) (done c.look_at-number.new.seat)) (sym c.better_rank-best.ensures)
          (asked_next c.owner-owner.result g x.priority ts i (done c.args.seat.now) (done c.loop-t.seat) (done c.look_at-number.new.seat) c.loop-t.best
          c.prog_rank-asked.result m c.loop-t-test.true look.read small
          (prog_told h g c.deref-game.ensures v x at c.look_at-number.result c.prog_rank-asked.result c.prog_rank-asked.ensures.prog) (inv.asked x at)));
    }

pub returns-clause-low : goal.returns-clause-low
returns-clause-low c = let x = vertex_here (board_game c.args.self.now) c.args.v c.requires.vertex in (c.loop-t.invariant.gathered x.0 x.1).low

pub returns-clause-over : goal.returns-clause-over
returns-clause-over c =
    let h = c.deref-game.result.now in
    let g = board_game c.args.self.now in
    let v = c.args.v in
    let ts = c.successors-t-items.result.now in
    let x = vertex_here g v c.requires.vertex in
    gathered_over c.owner-owner.result g x.0.priority v ts c.loop-t.t-index (seen c.args.seat.now) c.loop-t.best
    (owner_told h g c.deref-game.ensures v c.owner-owner.result c.owner-owner.ensures)
    (ap (option_map (λ (y : Vertex). y.priority)) x.1) (successors_told h g c.deref-game.ensures v ts c.successors-t-items.ensures)
    (let end = c.loop-t-test.false in let most = c.loop-t.auto.t-index-end in omega (arith, end, most)) (c.loop-t.invariant.gathered x.0 x.1)

pub returns-clause-below : goal.returns-clause-below
returns-clause-below c =
    let h = c.deref-game.result.now in
    let g = board_game c.args.self.now in
    let v = c.args.v in
    let ts = c.successors-t-items.result.now in
    let x = vertex_here g v c.requires.vertex in
    gathered_below c.owner-owner.result g x.0.priority v ts c.loop-t.t-index (seen c.args.seat.now) c.loop-t.best c.requires.seat.plain.game
    (owner_told h g c.deref-game.ensures v c.owner-owner.result c.owner-owner.ensures)
    (ap (option_map (λ (y : Vertex). y.priority)) x.1) (successors_told h g c.deref-game.ensures v ts c.successors-t-items.ensures) c.requires.vertex
    (let end = c.loop-t-test.false in let most = c.loop-t.auto.t-index-end in omega (arith, end, most)) (c.loop-t.invariant.gathered x.0 x.1)

pub returns-clause-asked : goal.returns-clause-asked
returns-clause-asked c =
    let h = c.deref-game.result.now in
    let g = board_game c.args.self.now in
    let v = c.args.v in
    let ts = c.successors-t-items.result.now in
    let x = vertex_here g v c.requires.vertex in
    let told = successors_told h g c.deref-game.ensures v ts c.successors-t-items.ensures in
    asked_all c.owner-owner.result g v x.0.priority ts c.loop-t.t-index (done c.args.seat.now) (done c.loop-t.seat) c.loop-t.best c.requires.vertex
    (owner_told h g c.deref-game.ensures v c.owner-owner.result c.owner-owner.ensures)
    (ap (option_map (λ (y : Vertex). y.priority)) x.1) told
    (let end = c.loop-t-test.false in let most = c.loop-t.auto.t-index-end in omega (arith, end, most))
    (its_successors g c.requires.seat.plain.game v c.requires.vertex ts told).1 (c.loop-t.invariant.asked x.0 x.1)
