use Rattle.std.proofs.Common.{ℕ, List, [], ◌∷◌, ◌++◌, ◌≡◌, ◌+◌, ap, arith, length, length-append, slice_index, subst, sym, ◌∙◌}
use Rattle.tables.specs.Packed.{IsOpeningRank}
use Rattle.tables.proofs.Packing.{with_last}
use Rattle.tables.proofs.packed.opening_ranks.Goals as goal

pub loop-v-preserved : goal.loop-v-preserved
loop-v-preserved c =
    let g = c.args.game.now in
    let old = c.loop-v.ranks.items in
    let x = c.opening_rank.result in
    let inv = c.loop-v.invariant in
    let new : c.push.new.self.items ≡ old ++ x ∷ [] = c.in_ok-push.ensures.items in
    let last : IsOpeningRank g (length old) x = subst (λ (v : ℕ). IsOpeningRank g v x) (sym inv.long) c.opening_rank.ensures in record {
      long = ap length new ∙ (length-append old (x ∷ []) ∙ ap (λ n. n + 1) inv.long);
      are = λ u l. subst (λ (ranks : List ℕ). IsOpeningRank g u (slice_index ranks u)) (sym new)
          (with_last (IsOpeningRank g) old x (λ v k. inv.are v (omega (arith, k, inv.long))) last u (omega (arith, l, inv.long)));
    }
