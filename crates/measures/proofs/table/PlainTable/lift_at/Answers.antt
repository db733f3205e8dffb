use Rattle.measures.proofs.Common.{◌≡◌, ◌∙◌, ◌<◌, ap, length, refl, subst, sym, true≢false, Game, sum_of, IsProg, Reaches, value_at, IsStill, LiesBelow}
use Rattle.measures.proofs.Common.{GameTable, Rows}
use Rattle.measures.proofs.Plain.{measure_width, set_stored, stored_as, stored_width, value_here, values_there}
use Rattle.measures.proofs.Reaching.{not_reached}
use Rattle.measures.proofs.Settling.{lift_below, plain_table, risen_lift, still_from, sum_raised}
use Rattle.measures.proofs.table.PlainTable.lift_at.Goals as goal

pub returns-then-reaches-clause-lifts : goal.returns-then-reaches-clause-lifts
returns-then-reaches-clause-lifts c =
    let g = c.args.game.now in
    let i = c.self.inside in
    let values = i.rows.values in
    let same : i.of.value ≡ g = ap (λ (t : GameTable). t.game) c.self.view_is ∙ c.requires.same in
    let (plain, wide) = stored_as i.of.value g i.pending i.bounds.items i.rows.width values same c.self.invariant in
    let reaches = c.reaches.ensures g wide in (
      refl,
      subst (λ (t : GameTable). IsStill g t.values c.args.v) c.self.view_is
          (still_from g values (plain_table g values plain) c.args.v c.requires.vertex c.owner.result c.priority-priority.result c.successors.result.now
          c.best-best.result c.owner.ensures c.priority-priority.ensures c.successors.ensures c.best-best.ensures.best (reaches.0 c.if-reaches.true)),
    )

pub set-requires-clause-width : goal.set-requires-clause-width
set-requires-clause-width c =
    let i = c.self.inside in
    let is = subst (λ (t : GameTable). IsProg t.game c.priority-priority.result (value_at t.values c.best-best.result) c.prog_of-risen.result)
    (sym c.self.view_is) c.prog_of-risen.ensures in
    measure_width i.of.value i.rows.width c.prog_of-risen.result
    (stored_width i.of.value i.pending i.bounds.items i.rows.width i.rows.values c.self.invariant) is.measure

pub invariant_of-self : goal.invariant_of-self
invariant_of-self c =
    let g = c.args.game.now in
    let i = c.self.inside in
    let values = i.rows.values in
    let same : i.of.value ≡ g = ap (λ (t : GameTable). t.game) c.self.view_is ∙ c.requires.same in
    let (plain, wide) = stored_as i.of.value g i.pending i.bounds.items i.rows.width values same c.self.invariant in
    let reaches = c.reaches.ensures g wide in
    let is = subst (λ (h : Game). IsProg h c.priority-priority.result (value_at values c.best-best.result) c.prog_of-risen.result) same
    (subst (λ (t : GameTable). IsProg t.game c.priority-priority.result (value_at t.values c.best-best.result) c.prog_of-risen.result)
    (sym c.self.view_is) c.prog_of-risen.ensures) in
    let lift = risen_lift g values (plain_table g values plain) c.args.v c.requires.vertex c.owner.result c.priority-priority.result c.successors.result.now
    c.best-best.result c.owner.ensures c.priority-priority.ensures c.successors.ensures
    c.best-best.ensures.best c.prog_of-risen.result is (λ r. true≢false (sym (reaches.1 r) ∙ c.if-reaches.false)) in
    let below = lift_below g values plain c.args.v c.prog_of-risen.result lift in
    set_stored i.of.value i.pending c.note.new.self i.bounds.items i.rows c.set.new.self c.args.v c.prog_of-risen.result c.self.invariant
    (subst (λ (h : Game). c.args.v < length h.vertices) (sym same) c.requires.vertex)
    (subst (λ (h : Game). LiesBelow h c.args.v c.prog_of-risen.result) (sym same) below) c.set.ensures c.note.ensures

pub returns-clause-lifts : goal.returns-clause-lifts
returns-clause-lifts c =
    let g = c.args.game.now in
    let i = c.self.inside in
    let values = i.rows.values in
    let same : i.of.value ≡ g = ap (λ (t : GameTable). t.game) c.self.view_is ∙ c.requires.same in
    let (plain, wide) = stored_as i.of.value g i.pending i.bounds.items i.rows.width values same c.self.invariant in
    let reaches = c.reaches.ensures g wide in
    let never = λ (r : Reaches g c.priority-priority.result (value_at values c.best-best.result) (value_at values c.args.v)). true≢false
    (sym (reaches.1 r) ∙ c.if-reaches.false) in
    let is = subst (λ (h : Game). IsProg h c.priority-priority.result (value_at values c.best-best.result) c.prog_of-risen.result) same
    (subst (λ (t : GameTable). IsProg t.game c.priority-priority.result (value_at t.values c.best-best.result) c.prog_of-risen.result)
    (sym c.self.view_is) c.prog_of-risen.ensures) in
    let lift = risen_lift g values (plain_table g values plain) c.args.v c.requires.vertex c.owner.result c.priority-priority.result c.successors.result.now
    c.best-best.result c.owner.ensures c.priority-priority.ensures c.successors.ensures
    c.best-best.ensures.best c.prog_of-risen.result is never in
    subst (λ (t : GameTable). sum_of g t.values < sum_of g c.set.new.self.values) c.self.view_is
    (sum_raised g values plain c.args.v c.prog_of-risen.result c.set.new.self.values c.requires.vertex lift
    (not_reached g c.priority-priority.result (value_at values c.best-best.result) (value_at values c.args.v) c.prog_of-risen.result is never)
    (ap (λ (r : Rows). r.values) c.set.ensures))

pub best-best-requires-clause-inside : goal.best-best-requires-clause-inside
best-best-requires-clause-inside c =
    let i = c.self.inside in
    (values_there i.of.value c.args.game.now i.rows.values c.self.invariant.plain
    (ap (λ (t : GameTable). t.game) c.self.view_is ∙ c.requires.same) c.args.v c.requires.vertex c.successors.result.now c.successors.ensures).0

pub best-best-requires-clause-some : goal.best-best-requires-clause-some
best-best-requires-clause-some c =
    let i = c.self.inside in
    (values_there i.of.value c.args.game.now i.rows.values c.self.invariant.plain
    (ap (λ (t : GameTable). t.game) c.self.view_is ∙ c.requires.same) c.args.v c.requires.vertex c.successors.result.now c.successors.ensures).1

pub set-requires-clause-vertex : goal.set-requires-clause-vertex
set-requires-clause-vertex c =
    let i = c.self.inside in
    value_here i.of.value c.args.game.now i.rows.values c.self.invariant.plain
    (ap (λ (t : GameTable). t.game) c.self.view_is ∙ c.requires.same) c.args.v c.requires.vertex

pub prog_of-risen-requires : goal.prog_of-risen-requires
prog_of-risen-requires c = subst (λ (t : GameTable). c.best-best.result < length t.values) c.self.view_is c.best-best.ensures.inside
