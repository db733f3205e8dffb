use Rattle.measures.proofs.Common.{ℕ, List, ◌≡◌, ◌/◌, ◌%◌, ◌+◌, ◌<◌, ◌≤◌, ◌∷◌, [], ◌++◌, ap, ap₂, arith, decode, drop, length, lists_up_to, slice_index, subst, suc}
use Rattle.measures.proofs.Common.{sym, ◌∙◌}
use Rattle.measures.proofs.Numbers.{decode_next, place_small, weight_next}
use Rattle.measures.proofs.Ranks.{rest_low, size_some}
use Rattle.measures.proofs.rank.counts_of_number.Goals as goal

-- the weight of the next place
next_weight : (bs : List ℕ) (i b weight : ℕ) → i < length bs → weight ≡ lists_up_to (λ b. b) (drop i bs) → b ≡ slice_index bs i
    → weight / (b + 1) ≡ lists_up_to (λ b. b) (drop (suc i) bs)
next_weight bs i b weight h w e = ap₂ (λ n k. n / (k + 1)) w e ∙ weight_next bs i h

pub nonzero_div-rest : goal.nonzero_div-rest
nonzero_div-rest c =
    let e = next_weight c.args.bounds.now c.loop-bound.bound-index c.from.result c.loop-bound.weight
    (omega arith) c.loop-bound.invariant.weight c.from.ensures in
    let s = size_some (λ b. b) (drop (suc c.loop-bound.bound-index) c.args.bounds.now) in
    omega (arith, e, s)

pub overflow_cast-rest : goal.overflow_cast-rest
overflow_cast-rest c =
    let bounds = c.args.bounds.now in
    let i = c.loop-bound.bound-index in
    let e = next_weight bounds i c.from.result c.loop-bound.weight (omega arith) c.loop-bound.invariant.weight c.from.ensures in
    let w = c.loop-bound.invariant.weight in
    let small : c.loop-bound.rest / lists_up_to (λ b. b) (drop (suc i) bounds) ≤ slice_index bounds i = place_small bounds i c.loop-bound.rest (omega arith)
    (omega arith) in
    let fits = c.type_inv.bounds i in
    let same : c.loop-bound.rest / (c.loop-bound.weight / (c.from.result + 1))
    ≡ c.loop-bound.rest / lists_up_to (λ b. b) (drop (suc i) bounds) = ap (λ n. c.loop-bound.rest / n) e in
    omega (arith, fits, small, same)

pub loop-bound-preserved : goal.loop-bound-preserved
loop-bound-preserved c =
    let bounds = c.args.bounds.now in
    let i = c.loop-bound.bound-index in
    let rest = c.loop-bound.rest in
    let e = next_weight bounds i c.from.result c.loop-bound.weight (omega arith) c.loop-bound.invariant.weight c.from.ensures in
    let s = size_some (λ b. b) (drop (suc i) bounds) in
    let one : suc i ≡ i + 1 = omega arith in
    let push = c.push.ensures in
    let long = c.loop-bound.invariant.long in
    let pushed : c.push.new.self.items ≡ c.loop-bound.counts.items ++ (rest / lists_up_to (λ b. b) (drop (suc i) bounds)) ∷ [] = push.items
    ∙ ap (λ n. c.loop-bound.counts.items ++ (rest / n) ∷ []) e in
    let read = decode_next bounds c.loop-bound.counts.items i rest c.args.number (omega arith) c.loop-bound.invariant.read in record {
      weight = e ∙ ap (λ k. lists_up_to (λ b. b) (drop k bounds)) one;
      low = subst (λ (n : ℕ). rest % n < n) (sym e) (rest_low rest (lists_up_to (λ b. b) (drop (suc i) bounds)) s);
      long = omega (arith, push.len, long);
      read = subst (λ (n : ℕ). c.push.new.self.items ++ decode (λ b. b) (drop (i + 1) bounds) (rest % n) ≡ decode (λ b. b) bounds c.args.number) (sym e)
          (subst (λ (k : ℕ). c.push.new.self.items ++ decode (λ b. b) (drop k bounds) (rest % lists_up_to (λ b. b) (drop (suc i) bounds))
          ≡ decode (λ b. b) bounds c.args.number) one
          (subst (λ (ds : List ℕ). ds ++ decode (λ b. b) (drop (suc i) bounds) (rest % lists_up_to (λ b. b) (drop (suc i) bounds))
          ≡ decode (λ b. b) bounds c.args.number) (sym pushed) read));
    }
