use Rattle.std.proofs.Common.{ℕ, ◌≡◌, ◌<◌, List, ap, arith, below_more, length, slice_index, subst, sym, ◌∙◌}
use Rattle.std.specs.Mem.Slots.{slots_items}
use Rattle.game.specs.Game.{Game}
use Rattle.measures.specs.Lifting.{of_rank}
use Rattle.measures.specs.Measure.{IsAtMost, Measure}
use Rattle.measures.specs.Progress.{greater_of, value_at}
use Rattle.measures.specs.Tables.{LiesBelow}
use Rattle.measures.proofs.Gathering.{greater_new}
use Rattle.measures.proofs.Measures.{at_most_trans}
use Rattle.measures.proofs.Plain.{value_set_same}
use Rattle.measures.proofs.Rising.{under_itself, under_trans}
use Rattle.tables.proofs.Packing.{read_some}
use Rattle.tables.proofs.packed.pour.Goals as goal

pub loop-v-init : goal.loop-v-init
loop-v-init c = record { game = c.requires.same; kept = under_itself c.args.table.now.values; poured = λ w l. absurd (omega (arith, l)) }

pub of_rank-measure-requires-clause-rank : goal.of_rank-measure-requires-clause-rank
of_rank-measure-requires-clause-rank c =
    let words = slots_items c.args.closed.words in
    let is : slice_index words c.loop-v.v ≡ c.word.result = read_some words c.loop-v.v c.word.result c.word.ensures in
    let lt : c.loop-v.v < length c.args.game.now.vertices = let size = c.vertices-v-end.ensures in let end = c.loop-v-test.true in omega (arith, size, end) in
    let rank = (c.requires.words c.loop-v.v lt).rank in
    omega (arith, is, rank)

pub raise-requires-clause-below : goal.raise-requires-clause-below
raise-requires-clause-below c =
    let words = slots_items c.args.closed.words in
    let v = c.loop-v.v in
    let is : slice_index words v ≡ c.word.result = read_some words v c.word.result c.word.ensures in
    let lt : v < length c.args.game.now.vertices = let size = c.vertices-v-end.ensures in let end = c.loop-v-test.true in omega (arith, size, end) in
    let here : LiesBelow c.args.game.now v (of_rank c.args.game.now c.word.result) = subst
    (λ (n : ℕ). LiesBelow c.args.game.now v (of_rank c.args.game.now n)) is (c.requires.words v lt).below in
    subst (λ (g : Game). LiesBelow g v c.of_rank-measure.result) (sym c.loop-v.invariant.game)
    (subst (LiesBelow c.args.game.now v) (sym c.of_rank-measure.ensures.value) here)

pub loop-v-preserved : goal.loop-v-preserved
loop-v-preserved c =
    let words = slots_items c.args.closed.words in
    let g = c.args.game.now in
    let v = c.loop-v.v in
    let old = c.loop-v.table.values in
    let new = c.raise.new.self.values in
    let inv = c.loop-v.invariant in
    let m = c.of_rank-measure.result in
    let is : slice_index words v ≡ c.word.result = read_some words v c.word.result c.word.ensures in
    let there : v < length old =
    let size = c.vertices-v-end.ensures in
    let end = c.loop-v-test.true in
    let long = c.known.ensures.long in
    let same : length c.loop-v.table.game.vertices ≡ length g.vertices = ap (λ (h : Game). length h.vertices) inv.game in
    omega (arith, size, end, long, same) in
    let greater : IsAtMost m (value_at new v) =
    subst (λ (table : List Measure). IsAtMost m (value_at table v)) (sym c.raise.ensures.values)
    (subst (IsAtMost m) (sym (value_set_same old v (greater_of (value_at old v) m) there)) (greater_new (value_at old v) m)) in
    let here : IsAtMost (of_rank g (slice_index words v)) (value_at new v) =
    subst (λ (n : Measure). IsAtMost n (value_at new v)) (c.of_rank-measure.ensures.value ∙ ap (of_rank g) (sym is)) greater in record {
      game = c.raise.ensures.game ∙ inv.game;
      kept = under_trans c.args.table.now.values old new inv.kept c.raise.ensures.kept;
      poured = below_more (λ w. IsAtMost (of_rank g (slice_index words w)) (value_at new w)) v
          (λ w lt. at_most_trans (of_rank g (slice_index words w)) (value_at old w) (value_at new w) (inv.poured w lt) (c.raise.ensures.kept w)) here;
    }

pub returns-clause-poured : goal.returns-clause-poured
returns-clause-poured c = λ w lt. let size = c.vertices-v-end.ensures in let end = c.loop-v-test.false
    in c.loop-v.invariant.poured w (omega (arith, size, end, lt))
