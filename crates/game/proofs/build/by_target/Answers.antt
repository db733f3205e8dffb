use Rattle.game.proofs.Common.{◌≡◌, List, map, subst, sym, arith, rules, common_steps, IsNonDecreasingBy-from_sort_by_key, arrow_of, arrows_from, IsInside}
use Rattle.game.proofs.Common.{Transition}
use Rattle.game.proofs.Rows.{all_more}
use Rattle.game.proofs.Steps.{row_of}
use Rattle.game.proofs.build.by_target.Goals as goal

pub loop-transition-preserved : goal.loop-transition-preserved
loop-transition-preserved c =
    record {
      copied = grind (arith, common_steps);
      numbers = rw c.in_ok-push.ensures.items (all_more _ c.loop-transition.row.items _ c.loop-transition.invariant.numbers (omega arith));
    }

pub returns : goal.returns
returns c =
    let whole : c.loop-transition.row.items ≡ c.from-transition-items.result.now = grind (arith, common_steps) in
    row_of c.args.lts.now c.args.state c.loop-transition.row.items c.sort_unstable_by_key.new.self.items
    (subst (λ (ts : List Transition). map (arrow_of c.args.lts.now.labels) ts ≡ arrows_from c.args.lts.now.system c.args.state)
    (sym whole) c.from-transition-items.ensures.arrows)
    (subst (IsInside c.args.lts.now)
    (sym whole) c.from-transition-items.ensures.inside) c.loop-transition.invariant.numbers c.sort_unstable_by_key.ensures.permutation
    (IsNonDecreasingBy-from_sort_by_key (λ t. t.target) _ c.sort_unstable_by_key.ensures.sorted (λ a r q k. search rules))
