use Rattle.measures.proofs.Common.{◌≡◌, ℕ, ◌<◌, ◌/◌, ◌%◌, ◌+◌, ◌*◌, ◌∙◌, ap, arith, length, replicate, subst, sym, Counts, Game, IsOpening, false, opening}
use Rattle.measures.proofs.Common.{value_at}
use Rattle.tables.specs.Part.{IsStoredPart}
use Rattle.tables.proofs.Parts.{IsFilled, filled_first, filled_inside, filled_left, filled_part, filled_top, place_less}
use Rattle.tables.proofs.shard.Shard.new.Goals as goal
use Rattle.tables.proofs.shard.Shard.new.Goals.{then-v-from+then-turns_odd, else-v-from, else-v-from-via-then-v-from+else-turns_odd}
use Rattle.tables.proofs.shard.Shard.new.Goals.{else-v-from-via-else-v-from}

pub loop-place-init : goal.loop-place-init
loop-place-init g c =
    let some : 0 < c.args.shards = omega (arith, c.requires.index) in
    filled_first c.args.game.now c.args.index c.args.shards c.vertices-vertices.result c.width.result c.in_ok-rows.rows some c.vertices-vertices.ensures
    c.width.ensures.value
    c.in_ok-rows.ensures.width (c.in_ok-rows.ensures.zeros ∙ ap (λ k. replicate k (Counts (replicate c.width.result 0))) c.div_ceil-places.ensures)

pub set-requires-clause-vertex : goal.set-requires-clause-vertex
set-requires-clause-vertex g c =
    let v = c.from.result * c.from-in-loop-place.result + c.from-in-loop-place-2.result in
    let at : v ≡ c.loop-place.place * c.args.shards + c.args.index = cc (c.from.ensures, c.from-in-loop-place.ensures, c.from-in-loop-place-2.ensures) in
    let inside : v < length c.args.game.now.vertices = omega (arith, c.if-v-from.true, c.from-in-loop-place-3.ensures, c.vertices-vertices.ensures) in
    filled_inside c.args.game.now c.args.index c.args.shards c.loop-place.place v c.loop-place.rows c.loop-place.invariant c.requires.index at inside

pub loop-place-preserved : goal.loop-place-preserved
loop-place-preserved g c =
    let game = c.args.game.now in
    let place = c.loop-place.place in
    let v = c.from.result * c.from-in-loop-place.result + c.from-in-loop-place-2.result in
    let at : v ≡ place * c.args.shards + c.args.index = cc (c.from.ensures, c.from-in-loop-place.ensures, c.from-in-loop-place-2.ensures) in
    elim c.if-v-from.branch [
      | then-v-from+then-turns_odd w ↦
          let inside : v < length game.vertices = omega (arith, w.if-v-from.true, c.from-in-loop-place-3.ensures, c.vertices-vertices.ensures) in
          subst (IsFilled game c.args.index c.args.shards (place + 1)) (sym w.rows-is)
          (filled_top game c.args.index c.args.shards place v c.loop-place.rows w.set.new.self w.top.result c.loop-place.invariant c.requires.index at inside
          (rw w.if-turns_odd.true at w.turns_odd.ensures) w.top.ensures w.set.ensures)
      | else-v-from w ↦ subst (IsFilled game c.args.index c.args.shards (place + 1)) (sym w.rows-is) (elim w.else-v-from.branch [
        | else-v-from-via-then-v-from+else-turns_odd w' ↦
            filled_left game c.args.index c.args.shards place c.loop-place.rows c.loop-place.invariant
            (λ u e l. subst (λ k. IsOpening game k false) (at ∙ sym e) (rw w'.if-turns_odd.false at w'.turns_odd.ensures))
        | else-v-from-via-else-v-from w' ↦
            filled_left game c.args.index c.args.shards place c.loop-place.rows c.loop-place.invariant
            (λ u e l. let same : u ≡ v = e ∙ sym at in absurd
            (omega (arith, w'.if-v-from.false, c.from-in-loop-place-3.ensures, c.vertices-vertices.ensures, same, l)))
      ])
    ]

pub invariant_of-result : goal.invariant_of-result
invariant_of-result g c =
    let game = c.args.game.now in
    let some : 0 < c.args.shards = omega (arith, c.requires.index) in
    subst (λ (h : Game). IsStoredPart h (record {
      index = c.args.index;
      shards = c.args.shards;
      values = c.loop-place.rows.values;
    }) c.loop-place.rows.width) c.requires.game
    (filled_part game c.args.index c.args.shards c.loop-place.place c.loop-place.rows c.known.ensures some c.loop-place.invariant
    (λ v h. let m = place_less v c.vertices-vertices.result c.args.shards some (omega (arith, h, c.vertices-vertices.ensures))
    in omega (arith, m, c.div_ceil-places.ensures, c.loop-place-test.false)))

pub returns-clause-values : goal.returns-clause-values
returns-clause-values g c =
    let some : 0 < c.args.shards = omega (arith, c.requires.index) in
    subst (λ (k : Game). (v : ℕ) → v < length k.vertices → v % c.args.shards ≡ c.args.index
    → value_at c.loop-place.rows.values (v / c.args.shards) ≡ value_at (opening k) v) c.requires.game
    (λ v h here.
    let m = place_less v c.vertices-vertices.result c.args.shards some (omega (arith, h, c.vertices-vertices.ensures)) in
    c.loop-place.invariant.done v h here (omega (arith, m, c.div_ceil-places.ensures, c.loop-place-test.false)))
