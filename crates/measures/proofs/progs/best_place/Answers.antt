use Rattle.measures.proofs.Common.{◌≡◌, ◌+◌, arith, ap, sym, ◌∙◌, slice_index_or, true≢false, subst, ℕ, take, get_or_default, Measure, Top, measure_cmp}
use Rattle.measures.proofs.Common.{IsBestFor}
use Rattle.measures.proofs.Bests.{best_first, best_next_left, best_next_taken}
use Rattle.measures.proofs.progs.best_place.Goals as goal
use Rattle.measures.proofs.progs.best_place.Goals.{then-is_better, else-is_better}

pub loop-k-init : goal.loop-k-init
loop-k-init c = record { inside = omega arith; best = best_first c.args.player c.args.measures.now c.requires }

pub loop-k-preserved : goal.loop-k-preserved
loop-k-preserved c =
    let ms = c.args.measures.now in
    let k = c.loop-k.k in
    let inv = c.loop-k.invariant in
    let at : c.index-measures-k.result ≡ slice_index_or ms k Top = c.index-measures-k.is ∙ get_or_default ms k _ Top (omega arith) in
    let best : c.index-measures-best.result ≡ slice_index_or ms c.loop-k.best Top = c.index-measures-best.is
    ∙ get_or_default ms c.loop-k.best _ Top (omega arith) in
    let order : c.compare.result ≡ measure_cmp (slice_index_or ms k Top) (slice_index_or ms c.loop-k.best Top) = c.compare.ensures
    ∙ (ap (λ (m : Measure). measure_cmp m c.index-measures-best.result) at ∙ ap (measure_cmp (slice_index_or ms k Top)) best) in
    elim c.if-is_better.branch [
      | then-is_better w ↦ record {
        inside = omega (arith, w.best-is);
        best = subst (λ (b : ℕ). IsBestFor c.args.player (take (k + 1) ms) (slice_index_or ms b Top)) (sym w.best-is)
            (best_next_taken c.args.player ms k (slice_index_or ms c.loop-k.best Top) (omega arith) inv.best
            (rw order at (c.is_better.ensures.0 w.if-is_better.true)));
      }
      | else-is_better w ↦ record {
        inside = omega (arith, w.best-is);
        best = subst (λ (b : ℕ). IsBestFor c.args.player (take (k + 1) ms) (slice_index_or ms b Top)) (sym w.best-is)
            (best_next_left c.args.player ms k (slice_index_or ms c.loop-k.best Top) (omega arith) inv.best
            (λ better. true≢false (sym (c.is_better.ensures.1 (rw (← order) at better)) ∙ w.if-is_better.false)));
      }
    ]
