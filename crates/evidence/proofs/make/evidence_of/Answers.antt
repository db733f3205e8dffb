use Rattle.std.proofs.Common.{◌≡◌, ◌+◌, ◌<◌, ap, arith, length, subst, sym, ◌∙◌}
use Rattle.std.specs.Prelude.{IfSome}
use Rattle.game.specs.Game.{Game}
use Rattle.measures.specs.Progress.{IsLeastTable}
use Rattle.evidence.specs.Checking.{IsMoveAt}
use Rattle.evidence.specs.View.{NamedEvidence}
use Rattle.evidence.proofs.Making.{IsMade, long_for, made_best, made_left, made_more, made_none, move_inside, rank_long}
use Rattle.evidence.proofs.make.evidence_of.Goals as goal
use Rattle.evidence.proofs.make.evidence_of.Goals.{then-not-is_top, else-not-is_top}

pub loop-v-init : goal.loop-v-init
loop-v-init c = made_none c.args.player c.args.game.now c.args.settled.now.values c.in_ok-evidence.evidence c.in_ok-evidence.ensures

pub put-requires-clause-vertex : goal.put-requires-clause-vertex
put-requires-clause-vertex c =
    let all = long_for c.args.player c.args.game.now in
    let measured = ap (λ (g : Game). length g.vertices) c.requires.measured in
    let same = ap (λ (g : Game). length g.vertices) c.loop-v.invariant.game in
    omega arith

pub put-requires-clause-next : goal.put-requires-clause-next
put-requires-clause-next c =
    let all : length c.args.measured.now.vertices ≡ length c.loop-v.evidence.game.vertices =
    ap (λ (g : Game). length g.vertices) c.requires.measured
    ∙ (long_for c.args.player c.args.game.now ∙ sym (ap (λ (g : Game). length g.vertices) c.loop-v.invariant.game)) in
    subst (λ n. IfSome c.best_move.result (λ t. t < n)) all
    (move_inside c.args.measured.now c.known.ensures c.args.settled.now.values c.loop-v.v (omega arith) c.best_move.result c.best_move.ensures)

pub put-requires-clause-rank : goal.put-requires-clause-rank
put-requires-clause-rank c =
    let all = long_for c.args.player c.args.game.now in
    let measured = ap (λ (g : Game). length g.vertices) c.requires.measured in
    let table = c.args.settled.now.values in
    rank_long c.args.player c.args.game.now table c.loop-v.v c.loop-v.evidence c.loop-v.invariant c.counts.result.now c.counts.ensures (omega arith)
    (subst (λ (g : Game). IsLeastTable g table) (c.requires.settled ∙ c.requires.measured) c.known-2.ensures.least)

pub loop-v-preserved : goal.loop-v-preserved
loop-v-preserved c =
    let p = c.args.player in
    let g = c.args.game.now in
    let table = c.args.settled.now.values in
    let v = c.loop-v.v in
    let all = long_for p g in
    let measured = ap (λ (h : Game). length h.vertices) c.requires.measured in
    let inside : v < length g.vertices = omega arith in
    elim c.if-not-is_top.branch [
      | then-not-is_top w ↦ subst (λ (e : NamedEvidence). IsMade p g table (v + 1) e) (sym w.evidence-is)
          (made_more p g table v c.loop-v.evidence c.loop-v.invariant w.counts.result.now w.counts.ensures inside w.best_move.result _
          (subst (λ (h : Game). IsMoveAt h table v w.best_move.result) c.requires.measured w.best_move.ensures) w.put.ensures)
      | else-not-is_top w ↦ subst (λ (e : NamedEvidence). IsMade p g table (v + 1) e) (sym w.evidence-is)
          (made_left p g table v c.loop-v.evidence c.loop-v.invariant (c.is_top.ensures.value.0 w.if-not-is_top.false))
    ]

pub returns-clause-best : goal.returns-clause-best
returns-clause-best c =
    let g = c.args.game.now in
    let table = c.args.settled.now.values in
    let measured = ap (λ (h : Game). length h.vertices) c.requires.measured in
    made_best c.args.player g table c.loop-v.v c.loop-v.evidence
    (subst (λ (h : Game). IsLeastTable h table) (c.requires.settled ∙ c.requires.measured) c.known-2.ensures.least) (omega arith) c.loop-v.invariant
