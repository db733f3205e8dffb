use Rattle.std.proofs.Common.{◌≡◌, Some, arith, refl, slice_index, sym, ◌∙◌, true≢false}
use Rattle.measures.proofs.Places.{contained_from, place_contained}
use Rattle.evidence.specs.Evidence.{Descends, Entry, entry_at}
use Rattle.evidence.proofs.verify.are_below.Goals as goal

pub returns : goal.returns
returns c =
    let e = c.args.evidence.now.evidence in (
      (λ yes. contained_from (λ t. (y : Entry) → entry_at e t ≡ Some y
          → Descends e.player c.args.evidence.now.game c.args.priority c.args.rank.now y.rank) c.args.targets.now c.loop-t.t-index
          (omega arith) c.loop-t.invariant),
      (λ all. refl),
    )

pub returns-then-not-is_below : goal.returns-then-not-is_below
returns-then-not-is_below c =
    let n = c.loop-t.t-index in
    let t = slice_index c.args.targets.now n in (
      (λ yes. absurd cc),
      (λ all. absurd (let w = c.is_below.ensures.1 (all t (place_contained c.args.targets.now n t (omega arith) refl))
          in true≢false (sym w ∙ c.if-not-is_below.true))),
    )
