use Rattle.std.proofs.Common.{ℕ, ◌≡◌, ◌<◌, ◌++◌, ◌∷◌, [], ◌⊎◌, Contains, List, ap, arith, inl, inr, length, slice_index, slice_index_or, subst, sym, ◌∙◌}
use Rattle.std.proofs.lemmas.List.Elements.{All-from_recursion}
use Rattle.game.specs.Game.{Game}
use Rattle.game.specs.Predecessors.{predecessors}
use Rattle.measures.proofs.Lists.{contains_first}
use Rattle.workers.specs.Jobs.{Gave}
use Rattle.workers.specs.Turns.{first_in_block}
use Rattle.workers.proofs.Giving.{block_inside, gave_both, gave_none, offered_next, place_of}
use Rattle.workers.proofs.worker.give_predecessors.Goals as goal
use Rattle.workers.proofs.worker.give_predecessors.Goals.{else-set-via-then-set+else-not-give, else-set-via-else-set}

pub loop-u-init : goal.loop-u-init
loop-u-init g c = ([], gave_none c.args.own.now, λ k l. absurd (omega (arith, l)))

pub give-requires : goal.give-requires
give-requires g c =
    let us = c.get-u-items.result.now in
    let game = c.args.predecessors.now in
    let inside = All-from_recursion (λ u. u < length game.vertices) us c.get-u-items.ensures.vertices c.loop-u.u-index 0 c.loop-u-test.true in
    let here = subst (λ (h : Game). slice_index_or us c.loop-u.u-index 0 < length h.vertices) c.requires inside in
    rw c.block_of.ensures (block_inside (slice_index_or us c.loop-u.u-index 0) (length g.K.GameName.game.vertices) here)

pub loop-u-preserved : goal.loop-u-preserved
loop-u-preserved g c =
    let us = c.get-u-items.result.now in
    let i = c.loop-u.u-index in
    let was_pending = g.M.Pending.was_pending c.args.marks.now in
    let inv = c.loop-u.invariant in
    elim c.else-set.branch [
      | else-set-via-then-set+else-not-give w ↦ (
          let mine = first_in_block (slice_index us i) ∷ [] in (
            inv.0 ++ mine,
            gave_both c.args.own.now c.loop-u.own c.else-set.own inv.0 mine inv.1
                (subst (λ deque. Gave c.loop-u.own deque mine) (sym w.own-is)
                (subst (λ b. Gave c.loop-u.own w.give.new.own (b ∷ [])) w.block_of.ensures (w.give.ensures.given w.if-not-give.false))),
            offered_next was_pending us i inv.0 mine inv.2 (inr (contains_first (first_in_block (slice_index us i)) [])),
          ))
      | else-set-via-else-set w ↦ (
        inv.0 ++ [],
        gave_both c.args.own.now c.loop-u.own c.else-set.own inv.0 [] inv.1
            (subst (λ deque. Gave c.loop-u.own deque []) (sym w.own-is) (gave_none c.loop-u.own)),
        offered_next was_pending us i inv.0 [] inv.2 (inl (c.set.ensures w.if-set.false)),
      )
    ]

pub returns-clause-given : goal.returns-clause-given
returns-clause-given g c =
    let us = c.get-u-items.result.now in
    let inv = c.loop-u.invariant in
    let are : us ≡ predecessors g.K.GameName.game c.args.v = c.get-u-items.ensures.are ∙ ap (λ (h : Game). predecessors h c.args.v) c.requires in (
      inv.0,
      inv.1,
      λ yes u among.
          let at = place_of us u (subst (λ (ps : List ℕ). Contains ps u) (sym are) among) in
          let end = c.loop-u-test.false in
          subst (λ (t : ℕ). g.M.Pending.was_pending c.args.marks.now t ⊎ Contains inv.0 (first_in_block t)) at.2 (inv.2 at.0 (let l = at.1 in omega (arith, l, end))),
    )
