use Rattle.measures.proofs.Common.{◌∙◌, ◌+◌, ◌<◌, ap, arith, length, subst, sym, bounds, Game, IsPlain, Rows}
use Rattle.measures.proofs.Plain.{IsOpened, opened_first, opened_left, opened_top, opened_whole, opening_plain}
use Rattle.measures.proofs.table.opening.Goals as goal
use Rattle.measures.proofs.table.opening.Goals.{then-turns_odd, else-turns_odd}

pub loop-v-init : goal.loop-v-init
loop-v-init c =
    opened_first c.args.game.now c.vertices.result c.len.result c.in_ok-rows.rows c.vertices.ensures
    (c.len.ensures.value ∙ ap length c.bounds-bounds.ensures) c.in_ok-rows.ensures.width c.in_ok-rows.ensures.zeros

pub loop-v-preserved : goal.loop-v-preserved
loop-v-preserved c =
    let g = c.args.game.now in
    let inside : c.loop-v.v < length g.vertices = omega arith in
    elim c.if-turns_odd.branch [
      | then-turns_odd w ↦ subst (λ (r : Rows). IsOpened g (c.loop-v.v + 1) r) (sym w.rows-is)
          (opened_top g c.loop-v.v c.loop-v.rows _ _ c.loop-v.invariant inside (rw w.if-turns_odd.true at c.turns_odd.ensures) w.top.ensures w.set.ensures)
      | else-turns_odd w ↦ subst (λ (r : Rows). IsOpened g (c.loop-v.v + 1) r) (sym w.rows-is)
          (opened_left g c.loop-v.v c.loop-v.rows c.loop-v.invariant inside (rw w.if-turns_odd.false at c.turns_odd.ensures))
    ]

pub returns-clause-values : goal.returns-clause-values
returns-clause-values c = opened_whole c.args.game.now c.loop-v.v c.loop-v.rows c.loop-v.invariant (omega arith)

pub invariant_of-result : goal.invariant_of-result
invariant_of-result c =
    let g = c.args.game.now in
    let whole = opened_whole g c.loop-v.v c.loop-v.rows c.loop-v.invariant (omega arith) in
    let same = sym c.of-2.ensures in
    record {
      plain = subst (λ (h : Game). IsPlain (record { game = h; values = c.loop-v.rows.values })) same
          (opening_plain g c.loop-v.rows.values c.known.ensures whole);
      bounded = c.bounds-bounds.ensures ∙ ap bounds same;
      wide = c.loop-v.invariant.width ∙ ap length (sym c.bounds-bounds.ensures);
      edges_are = c.in_ok-of.ensures ∙ same;
    }
