use Rattle.std.proofs.Common.{◌≡◌, ◌∷◌, ◌++◌, [], ◌-◌, ◌+◌, suc, drop, get_or, length, subst, sym, arith, drop-cons}
use Rattle.why.specs.Telling.{deeper}
use Rattle.why.specs.Walk.{HasLetWait, way_on}
use Rattle.why.proofs.Walking.{wait_more}
use Rattle.why.proofs.walk.let_wait.Goals as goal

pub loop-k-preserved : goal.loop-k-preserved
loop-k-preserved c =
    let ts = c.args.targets.now in
    let way = c.args.way in
    let ws = c.loop-k.waiting.items in
    let i = length ts - 1 - c.loop-k.k in
    let items : c.push.new.self.items ≡ ws ++ way_on way (deeper way.blanks) (get_or ts i 0) ∷ []
    = subst (λ b. c.push.new.self.items ≡ ws ++ way_on way b (get_or ts i 0) ∷ []) c.deeper-blanks.ensures c.in_ok-push.ensures.items in
    let next : length ts - c.loop-k.k ≡ suc i = omega arith in
    let here : i ≡ length ts - (c.loop-k.k + 1) = omega arith in
    let h = wait_more way (get_or ts i 0) (drop (suc i) ts) c.args.waiting.now.items ws
    (subst (λ m. HasLetWait way (drop m ts) c.args.waiting.now.items ws) next c.loop-k.invariant) in
    subst (λ m. HasLetWait way (drop m ts) c.args.waiting.now.items c.push.new.self.items) here
    (subst (λ xs. HasLetWait way xs c.args.waiting.now.items c.push.new.self.items) (sym (drop-cons ts i 0 (omega arith)))
    (subst (λ ys. HasLetWait way (get_or ts i 0 ∷ drop (suc i) ts) c.args.waiting.now.items ys) (sym items) h))

pub returns : goal.returns
returns c =
    subst (λ m. HasLetWait c.args.way (drop m c.args.targets.now) c.args.waiting.now.items c.loop-k.waiting.items)
    (let z : length c.args.targets.now - c.loop-k.k ≡ 0 = omega arith in z) c.loop-k.invariant
