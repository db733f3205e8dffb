use Rattle.std.proofs.Common.{◌≡◌, ◌+◌, ◌*◌, ap, ap₂, arith, length, slice_index, sym, ◌∙◌}
use Rattle.game.specs.Game.{count}
use Rattle.game.proofs.Greatest.{greatest_limit}
use Rattle.tables.specs.Weights.{weight}
use Rattle.tables.proofs.Packing.{with_last}
use Rattle.tables.proofs.Weighing.{weight_low, weight_next}
use Rattle.tables.proofs.weights.weights.Goals as goal

pub overflow_mul-weight : goal.overflow_mul-weight
overflow_mul-weight c =
    let g = c.args.game.now in
    let half = c.loop-half.half in
    let test = c.loop-half-test.true in
    let end = c.greatest_priority-half-end.ensures in
    let low = weight_low g (half + 1) (omega (arith, test, end)) in
    let next : c.loop-half.weight * (c.from.result + 1) ≡ weight g half * (count g (2 * half + 1) + 1) = ap₂ (λ m n. m * (n + 1)) c.loop-half.invariant.heavy
    (c.from.ensures ∙ c.count.ensures) in
    omega (arith, low, next, weight_next g half, c.requires)

pub push-requires-in-loop-half : goal.push-requires-in-loop-half
push-requires-in-loop-half c =
    let test = c.loop-half-test.true in
    let end = c.greatest_priority-half-end.ensures in
    let limit = greatest_limit c.args.game.now c.known.ensures in
    let long = c.loop-half.invariant.long in (
      omega arith,
      omega (arith, test, end, limit, long),
    )

pub loop-half-preserved : goal.loop-half-preserved
loop-half-preserved c =
    let g = c.args.game.now in
    let half = c.loop-half.half in
    let items = c.loop-half.weights.items in
    let inv = c.loop-half.invariant in
    let push = c.push-in-loop-half.ensures in
    let next : c.loop-half.weight * (c.from.result + 1) ≡ weight g half * (count g (2 * half + 1) + 1) = ap₂ (λ m n. m * (n + 1)) inv.heavy
    (c.from.ensures ∙ c.count.ensures) in
    let one : c.loop-half.weight * (c.from.result + 1) ≡ weight g (half + 1) = next ∙ sym (weight_next g half) in
    let last : c.loop-half.weight * (c.from.result + 1) ≡ weight g (length items) = one ∙ ap (weight g) (sym inv.long) in
    let all = with_last (λ h n. n ≡ weight g h) items (c.loop-half.weight * (c.from.result + 1))
    (λ h l. inv.are h (let long = inv.long in omega (arith, l, long))) last in record {
      heavy = one;
      long = let long = inv.long in omega (arith, push.len, long);
      are = λ h l. ap (λ ws. slice_index ws h) push.items ∙ all h (let long = inv.long in omega (arith, l, long));
    }
