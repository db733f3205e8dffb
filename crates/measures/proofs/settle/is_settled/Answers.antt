use Rattle.measures.proofs.Common.{arith, below_more, refl, sym, true≢false, ◌∙◌, IsStill}
use Rattle.measures.proofs.Settling.{all_still, move_plain, progress_still}
use Rattle.measures.proofs.settle.is_settled.Goals as goal

pub returns-then-not-is_still : goal.returns-then-not-is_still
returns-then-not-is_still c =
    let g = c.args.game.now in
    let t = c.args.table.now in
    let plain = move_plain g t c.known.ensures c.requires in (
      (λ f. absurd (true≢false (sym f))),
      (λ progress. sym c.if-not-is_still.true
          ∙ c.is_still.ensures.1 (progress_still g t.values plain.game progress c.loop-v.v (omega arith))),
    )

pub loop-v-preserved : goal.loop-v-preserved
loop-v-preserved c = below_more (IsStill c.args.game.now c.args.table.now.values) c.loop-v.v c.loop-v.invariant (c.is_still.ensures.0 c.if-not-is_still.false)

pub returns : goal.returns
returns c =
    let g = c.args.game.now in
    let t = c.args.table.now in
    ((λ yes. all_still g t.values (move_plain g t c.known.ensures c.requires) (λ v h. c.loop-v.invariant v (omega arith))), (λ progress. refl))
