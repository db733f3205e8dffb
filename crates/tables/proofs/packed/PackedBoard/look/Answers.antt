use Rattle.std.proofs.Common.{ℕ, ◌≡◌, ◌<◌, ◌+◌, List, ap, arith, length, refl, subst, suc, sym, slice_set, ◌∙◌}
use Rattle.game.specs.Game.{Game}
use Rattle.measures.specs.Lifting.{of_rank, rank, total}
use Rattle.measures.specs.Measure.{Measure}
use Rattle.measures.specs.Progress.{LiesUnder, value_at}
use Rattle.measures.proofs.Numbers.{rank_of_rank}
use Rattle.measures.proofs.Rising.{set_under, under_itself, under_trans}
use Rattle.measures.proofs.Rounds.{sum_next}
use Rattle.tables.specs.Seats.{board_game, seen}
use Rattle.tables.proofs.packed.PackedBoard.look.Goals as goal

pub loop-v-init : goal.loop-v-init
loop-v-init c = record { seat = c.requires; kept = under_itself (seen c.args.seat.now); sum = refl; small = omega arith }

pub loop-v-preserved : goal.loop-v-preserved
loop-v-preserved c =
    let board = c.args.self.now in
    let g = board_game board in
    let v = c.loop-v.v in
    let was = seen c.loop-v.seat in
    let now = seen c.look_at.new.seat in
    let look = c.look_at.ensures in
    let inv = c.loop-v.invariant in
    let m = of_rank g c.look_at.result in
    let size : c.vertices-v-end.result ≡ length g.vertices = c.vertices-v-end.ensures ∙ ap (λ (h : Game). length h.vertices) c.deref.ensures in
    let there : v < length was = let long = inv.seat.plain.long in let end = c.loop-v-test.true in omega (arith, long, size, end) in
    let rose : LiesUnder was now = subst (λ (table : List Measure). LiesUnder was table) (sym look.seen) (set_under was v m there look.later) in
    let number : rank g m ≡ c.look_at.result = rank_of_rank g c.look_at.result look.word.rank in
    let next = sum_next g was v m there in
    let one : suc v ≡ v + 1 = omega arith in
    let added = c.from-sum.ensures in
    let before = inv.sum in
    let sum : c.loop-v.sum + c.from-sum.result ≡ total (λ u. rank g (value_at (slice_set was v m) u)) (suc v) = omega (arith, next, number, added, before) in
    let low = look.word.rank in
    let few = board.few in
    let topped = board.topped in
    let small = inv.small in record {
      seat = look.seat;
      kept = under_trans (seen c.args.seat.now) was now inv.kept rose;
      sum = subst (λ (k : ℕ). c.loop-v.sum + c.from-sum.result ≡ total (λ u. rank g (value_at now u)) k) one
          (subst (λ (table : List Measure). c.loop-v.sum + c.from-sum.result ≡ total (λ u. rank g (value_at table u)) (suc v)) (sym look.seen) sum);
      small = omega (arith, low, few, topped, small, added);
    }

pub returns-clause-sum : goal.returns-clause-sum
returns-clause-sum c =
    let g = board_game c.args.self.now in
    let size : c.vertices-v-end.result ≡ length g.vertices = c.vertices-v-end.ensures ∙ ap (λ (h : Game). length h.vertices) c.deref.ensures in
    let end : c.loop-v.v ≡ length g.vertices = let a = c.loop-v-test.false in let b = c.loop-v.auto.v-end in omega (arith, a, b, size) in
    c.loop-v.invariant.sum ∙ ap (λ n. total (λ u. rank g (value_at (seen c.loop-v.seat) u)) n) end
