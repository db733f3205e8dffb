use Rattle.measures.proofs.Common.{◌≡◌, ◌+◌, ◌<◌, ◌∙◌, ℕ, ap, arith, length, map, slice_index_or, subst, sym, take, true≢false, get_or-map, length-map}
use Rattle.measures.proofs.Common.{All-from_recursion, Measure, Top, measure_cmp, IsBestFor, value_at}
use Rattle.measures.proofs.Bests.{best_first, best_next_left, best_next_taken}
use Rattle.measures.proofs.rows.MeasureRows.best.Goals as goal
use Rattle.measures.proofs.rows.MeasureRows.best.Goals.{then-is_better, else-is_better}

pub loop-k-init : goal.loop-k-init
loop-k-init c =
    let value = value_at c.args.self.now.values in
    let ms = map value c.args.places.now in
    record {
      inside = All-from_recursion (λ t. t < length c.args.self.now.values) c.args.places.now c.requires.inside 0 0 c.requires.some;
      best = subst (λ (m : Measure). IsBestFor c.args.player (take 1 ms) m) (get_or-map value c.args.places.now 0 0 Top c.requires.some)
          (best_first c.args.player ms (let l = length-map c.args.places.now value in omega arith));
    }

pub loop-k-preserved : goal.loop-k-preserved
loop-k-preserved c =
    let value = value_at c.args.self.now.values in
    let places = c.args.places.now in
    let ms = map value places in
    let k = c.loop-k.k in
    let here : k < length places = omega arith in
    let long : k < length ms = let l = length-map places value in omega arith in
    let at = get_or-map value places k 0 Top here in
    let order : c.compare.result ≡ measure_cmp (slice_index_or ms k Top) (value c.loop-k.best) = c.compare.ensures
    ∙ ap (λ (m : Measure). measure_cmp m (value c.loop-k.best)) (sym at) in
    elim c.if-is_better.branch [
      | then-is_better w ↦ record {
        inside = subst (λ (b : ℕ). b < length c.args.self.now.values) (sym w.best-is)
            (All-from_recursion (λ t. t < length c.args.self.now.values) places c.requires.inside k 0 here);
        best = subst (λ (b : ℕ). IsBestFor c.args.player (take (k + 1) ms) (value b)) (sym w.best-is)
            (subst (λ (m : Measure). IsBestFor c.args.player (take (k + 1) ms) m) at
            (best_next_taken c.args.player ms k (value c.loop-k.best) long c.loop-k.invariant.best (rw order at (c.is_better.ensures.0 w.if-is_better.true))));
      }
      | else-is_better w ↦ record {
        inside = subst (λ (b : ℕ). b < length c.args.self.now.values) (sym w.best-is) c.loop-k.invariant.inside;
        best = subst (λ (b : ℕ). IsBestFor c.args.player (take (k + 1) ms) (value b)) (sym w.best-is)
            (best_next_left c.args.player ms k (value c.loop-k.best) long c.loop-k.invariant.best
            (λ better. true≢false (sym (c.is_better.ensures.1 (rw (← order) at better)) ∙ w.if-is_better.false)));
      }
    ]

pub compare-requires-clause-first : goal.compare-requires-clause-first
compare-requires-clause-first c = All-from_recursion
    (λ t. t < length c.args.self.now.values) c.args.places.now c.requires.inside c.loop-k.k 0 c.loop-k-test.true
