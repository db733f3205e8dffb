use Rattle.std.proofs.Common.{◌≡◌, ◌++◌, ◌∷◌, [], ap, ap₂, sym, ◌∙◌, arith, rules}
use Rattle.std.proofs.lemmas.List.FromFn.{map-range_with_len_more}
use Rattle.commands.specs.Ranking.{counted_at}
use Rattle.commands.specs.declared.label_counts.Counted.{Counted}
use Rattle.commands.proofs.label_counts.numbered.Goals as goal

pub loop-number-preserved : goal.loop-number-preserved
loop-number-preserved c =
    let k = c.loop-number.number in
    let counts = c.args.counts.now in
    let same : c.in-Ok.number ≡ k = search rules in
    c.in_ok-push.ensures.items ∙ (ap₂ (λ xs (x : Counted). xs ++ x ∷ []) c.loop-number.invariant (ap (λ m. record (counted_at counts k) { number = m }) same)
    ∙ sym (map-range_with_len_more (counted_at counts) 0 k k (omega arith)))
