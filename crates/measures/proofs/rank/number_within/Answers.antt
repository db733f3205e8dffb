use Rattle.measures.proofs.Common.{◌≡◌, ◌*◌, ◌+◌, ◌<◌, ap, arith, slice_index, sym, lists_up_to, drop, suc, ◌∙◌, true≢false, add-one}
use Rattle.measures.proofs.Numbers.{size_great, size_next}
use Rattle.measures.proofs.rank.number_within.Goals as goal

pub returns-in_default-clause-few : goal.returns-in_default-clause-few
returns-in_default-clause-few c = (
  (λ e. absurd (true≢false (sym e))),
  (λ few.
      absurd (size_great c.args.bounds.now c.loop-bound.bound-index c.loop-bound.number c.from.result 4611686018427387904
      (omega arith) c.loop-bound.invariant.whole c.from.ensures
      (let e = c.in-Some.ensures.1 in omega (arith, e)) few)),
)

pub returns-in_default-2-clause-few : goal.returns-in_default-2-clause-few
returns-in_default-2-clause-few c = (
  (λ e. absurd (true≢false (sym e))),
  (λ few.
      absurd (size_great c.args.bounds.now c.loop-bound.bound-index c.loop-bound.number c.from.result 4611686018427387904
      (omega arith) c.loop-bound.invariant.whole c.from.ensures
      (let n : c.loop-bound.number * (c.from.result + 1) < 18446744073709551616 → ⊥ = c.in_default.ensures in omega (arith, n)) few)),
)

pub loop-bound-preserved : goal.loop-bound-preserved
loop-bound-preserved c =
    let bounds = c.args.bounds.now in
    let i = c.loop-bound.bound-index in
    let next = size_next bounds i c.loop-bound.number (omega arith) c.loop-bound.invariant.whole in
    let more : c.in-Some.more ≡ c.loop-bound.number * (slice_index bounds i + 1) = c.in-Some.ensures.1
    ∙ ap (λ b. c.loop-bound.number * (b + 1)) c.from.ensures in record {
      whole = rw add-one (ap (λ n. n * lists_up_to (λ b. b) (drop (suc i) bounds)) more ∙ next);
      low = omega arith;
    }
