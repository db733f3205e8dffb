use Rattle.std.proofs.Common.{rules, ℕ, List, ◌≡◌, ◌<◌, ap, length, slice_index, subst, sym, ◌∙◌}
use Rattle.game.specs.Game.{Game, IsGame}
use Rattle.tables.specs.Packed.{IsOpeningRank}
use Rattle.tables.specs.Weights.{AreWeights}
use Rattle.tables.proofs.Packing.{opens}
use Rattle.tables.proofs.packed.PackedBoard.new.Goals as goal

pub of_words-requires : goal.of_words-requires
of_words-requires c =
    let g = c.deref-6.result.now in
    let ranks = c.in-Ok.ranks.items in
    let words : c.deref-5.result.now ≡ ranks = c.deref-5.ensures.value in
    let known : c.deref.result.now ≡ g = c.deref.ensures ∙ sym c.deref-6.ensures in
    let made : c.deref-4.result.now ≡ g = c.deref-4.ensures ∙ sym c.deref-6.ensures in
    let long : length ranks ≡ length g.vertices = subst (λ (h : Game). length ranks ≡ length h.vertices) made c.in-Ok.ensures.long in
    let are : (v : ℕ) → v < length g.vertices → IsOpeningRank g v (slice_index ranks v)
    = subst (λ (h : Game). (v : ℕ) → v < length h.vertices → IsOpeningRank h v (slice_index ranks v)) made c.in-Ok.ensures.ranks in
    opens g c.deref-5.result.now (subst IsGame known c.known.ensures) (ap length words ∙ long)
    (λ v l. subst (λ (rs : List ℕ). IsOpeningRank g v (slice_index rs v)) (sym words) (are v l))

pub invariant_of-result : goal.invariant_of-result
invariant_of-result c = record {
  topped = search rules;
  few = search rules;
  weighed = subst (λ (g : Game). AreWeights g c.weights-weights.result.items) c.deref-3.ensures c.weights-weights.ensures;
  keyed = search rules;
  sized = search rules;
  slotless = search rules;
}
