use Rattle.measures.proofs.Common.{ℕ, ◌≡◌, ◌*◌, ◌+◌, AllZip-long, ap₂, arith, refl, ◌≤◌, slice_index, suc, subst, sym}
use Rattle.measures.proofs.Numbers.{IsReadTo, read_next, read_within}
use Rattle.measures.proofs.rank.number_of.Goals as goal

pub bounds-counts-k : goal.bounds-counts-k
bounds-counts-k c = let e = AllZip-long (λ count bound. count ≤ bound) c.args.counts.now c.args.bounds.now c.requires.within in omega arith

pub overflow_mul-number : goal.overflow_mul-number
overflow_mul-number c =
    let e = AllZip-long (λ count bound. count ≤ bound) c.args.counts.now c.args.bounds.now c.requires.within in
    let w = read_within c.args.bounds.now c.args.counts.now c.loop-k.k c.loop-k.number c.from.result
    (slice_index c.args.counts.now c.loop-k.k) 4611686018427387904 (omega arith) (omega arith)
    c.requires.within c.requires.few c.from.ensures refl c.loop-k.invariant in
    omega (arith, w)

pub overflow_add-number-in-loop-k : goal.overflow_add-number-in-loop-k
overflow_add-number-in-loop-k c =
    let e = AllZip-long (λ count bound. count ≤ bound) c.args.counts.now c.args.bounds.now c.requires.within in
    let w = read_within c.args.bounds.now c.args.counts.now c.loop-k.k c.loop-k.number c.from.result c.from-in-loop-k.result 4611686018427387904
    (omega arith) (omega arith)
    c.requires.within c.requires.few c.from.ensures c.from-in-loop-k.ensures c.loop-k.invariant in
    omega (arith, w)

pub loop-k-preserved : goal.loop-k-preserved
loop-k-preserved c =
    let bounds = c.args.bounds.now in
    let counts = c.args.counts.now in
    let k = c.loop-k.k in
    let e = AllZip-long (λ count bound. count ≤ bound) counts bounds c.requires.within in
    let next = read_next bounds counts k c.loop-k.number (omega arith) (omega arith) c.loop-k.invariant in
    let same : c.loop-k.number * (slice_index bounds k + 1) + slice_index counts k ≡ c.loop-k.number * (c.from.result + 1) + c.from-in-loop-k.result
    = ap₂ (λ b d. c.loop-k.number * (b + 1) + d) (sym c.from.ensures) (sym c.from-in-loop-k.ensures) in
    let one : suc k ≡ k + 1 = omega arith in
    subst (λ (j : ℕ). IsReadTo bounds counts j (c.loop-k.number * (c.from.result + 1) + c.from-in-loop-k.result)) one
    (subst (IsReadTo bounds counts (suc k)) same next)
