use Rattle.std.proofs.Common.{◌≡◌, ◌∙◌, ap, ap₂, subst, length, map}
use Rattle.std.specs.List.{range_with_len}
use Rattle.std.specs.List.Sorted.{IsPermutation}
use Rattle.std.proofs.lemmas.List.FromFn.{length-map-range_with_len}
use Rattle.commands.specs.Ranking.{counted_at, times_among}
use Rattle.commands.proofs.Ranked.{ranking_of}
use Rattle.commands.proofs.label_counts.ranked_labels.Goals as goal

pub returns : goal.returns
returns c =
    let l = c.args.lts.now in
    let ts = c.all.result.now in
    let n = length l.labels in
    let counts : c.deref.result.now ≡ map (times_among ts) (range_with_len 0 n) = c.deref.ensures.value
    ∙ (c.in_ok-counts.ensures ∙ ap (λ m. map (times_among ts) (range_with_len 0 m)) c.labels.ensures.count) in
    let long : length c.deref.result.now ≡ n = ap length counts ∙ length-map-range_with_len (times_among ts) 0 n in
    let old = c.in_ok-ranked.ensures ∙ ap₂ (λ cs m. map (counted_at cs) (range_with_len 0 m)) counts long in
    ranking_of l ts c.labels.ensures.ascending c.all.ensures.inside c.all.ensures.arrows _ c.labels.ensures.used
    (subst (λ items. IsPermutation items c.sort_unstable.new.self.items) old c.sort_unstable.ensures.permutation) c.sort_unstable.ensures.sorted
