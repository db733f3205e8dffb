use Rattle.measures.proofs.Common.{◌≡◌, ◌∙◌, ◌-◌, ap, arith, below_more, length, slice_index, subst, sym, true≢false, Game, Reaches, GameTable}
use Rattle.measures.proofs.Common.{components, value_at}
use Rattle.measures.proofs.Moves.{best_first, best_last, successors_are}
use Rattle.measures.proofs.Plain.{bounds_long}
use Rattle.measures.proofs.table.Settled.best_successor.Goals as goal

pub loop-k-preserved : goal.loop-k-preserved
loop-k-preserved c =
    let g = c.args.game.now in
    let i = c.self.inside in
    let now = c.args.self.now in
    let ts = c.successors-successors.result.now in
    let k = c.loop-k.k in
    let game = ap (λ (t : GameTable). t.game) c.self.view_is ∙ c.requires.same in
    let wide : length (components g) ≡ i.values.width = sym (c.self.invariant.wide ∙ (bounds_long i.of.value
    ∙ ap (λ (h : Game). length (components h)) game)) in
    let reaches = c.reaches.ensures g wide in
    below_more (λ j. Reaches g c.priority-priority.result (value_at now.values (slice_index ts j)) (value_at now.values c.args.v) → ⊥) k c.loop-k.invariant
    (λ r. true≢false (sym (reaches.1
    (subst (λ (t : GameTable). Reaches g c.priority-priority.result (value_at t.values (slice_index ts k)) (value_at t.values c.args.v)) (sym c.self.view_is) r))
    ∙ c.if-reaches.false))

pub returns-then-reaches : goal.returns-then-reaches
returns-then-reaches c =
    let g = c.args.game.now in
    let i = c.self.inside in
    let ts = c.successors-successors.result.now in
    let k = c.loop-k.k in
    let game = ap (λ (t : GameTable). t.game) c.self.view_is ∙ c.requires.same in
    let wide : length (components g) ≡ i.values.width = sym (c.self.invariant.wide ∙ (bounds_long i.of.value
    ∙ ap (λ (h : Game). length (components h)) game)) in
    let reaches = c.reaches.ensures g wide in
    let reached = subst (λ (t : GameTable). Reaches g c.priority-priority.result (value_at t.values (slice_index ts k)) (value_at t.values c.args.v))
    c.self.view_is (reaches.0 c.if-reaches.true) in
    λ x at. best_first c.args.self.now c.known.ensures g c.requires.same c.args.v c.requires.vertex c.priority-priority.result ts c.requires.own
    c.priority-priority.ensures c.successors-successors.ensures k c.loop-k.invariant x at (omega arith) reached

pub returns : goal.returns
returns c =
    let ts = c.successors-successors.result.now in
    let some = (successors_are c.args.self.now c.known.ensures c.args.game.now c.requires.same c.args.v c.requires.vertex c.priority-priority.result ts
    c.requires.own c.priority-priority.ensures c.successors-successors.ensures).1 in
    λ x at. best_last c.args.self.now c.known.ensures c.args.game.now c.requires.same c.args.v c.requires.vertex c.priority-priority.result ts c.requires.own
    c.priority-priority.ensures c.successors-successors.ensures (length ts - 1) (λ i l. c.loop-k.invariant i (omega (arith, l))) x at (omega (arith, some))
