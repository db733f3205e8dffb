use Rattle.std.proofs.Common.{◌≡◌, ◌+◌, ◌<◌, ap, arith, length, subst, sym, ◌∙◌, true≢false}
use Rattle.std.specs.Prelude.{IfSome}
use Rattle.game.specs.Game.{Game}
use Rattle.measures.specs.StoredProposal.{values_of}
use Rattle.evidence.specs.View.{NamedEvidence}
use Rattle.evidence.proofs.Making.{IsMade, long_for, made_best, made_left, made_more, made_none, move_inside, rank_long}
use Rattle.verdicts.proofs.LeastEvidence.{counts_back, game_of, moves_long, said_there}
use Rattle.verdicts.proofs.evidence_text.LeastMeasures.evidence.Goals as goal
use Rattle.verdicts.proofs.evidence_text.LeastMeasures.evidence.Goals.{then-not-is_top, else-not-is_top}

pub loop-v-init : goal.loop-v-init
loop-v-init c =
    let m = c.args.self.now in
    made_none m.player c.args.game.now (values_of m.player m.proposals.now) c.in_ok-evidence.evidence c.in_ok-evidence.ensures

pub put-requires-clause-vertex : goal.put-requires-clause-vertex
put-requires-clause-vertex c = let same = ap (λ (g : Game). length g.vertices) c.loop-v.invariant.game in omega arith

pub next-requires : goal.next-requires
next-requires c = let l = moves_long c.args.self.now c.args.game.now c.requires.least in omega (arith, l)

pub put-requires-clause-next : goal.put-requires-clause-next
put-requires-clause-next c =
    let m = c.args.self.now in
    let g = c.args.game.now in
    let v = c.loop-v.v in
    let all : length g.vertices ≡ length c.loop-v.evidence.game.vertices = sym (ap (λ (h : Game). length h.vertices) c.loop-v.invariant.game) in
    let same = long_for m.player g in
    let own = counts_back c.value-own.result (λ top. absurd (true≢false (sym (c.is_top.ensures.1 top) ∙ c.if-not-is_top.true))) c.counts.result.now c.counts.ensures.value ∙ c.value-own.ensures in
    subst (λ n. IfSome c.next.result (λ t. t < n)) (same ∙ all)
    (move_inside _ (game_of m.player g c.known.ensures c.requires.few) (values_of m.player m.proposals.now) v (omega (arith, same)) c.next.result
    (said_there m g c.requires.least v (omega arith) c.counts.result.now (sym own) c.next.result c.next.ensures))

pub put-requires-clause-rank : goal.put-requires-clause-rank
put-requires-clause-rank c =
    let m = c.args.self.now in
    let own = counts_back c.value-own.result (λ top. absurd (true≢false (sym (c.is_top.ensures.1 top) ∙ c.if-not-is_top.true))) c.counts.result.now c.counts.ensures.value ∙ c.value-own.ensures in
    rank_long m.player c.args.game.now (values_of m.player m.proposals.now) c.loop-v.v c.loop-v.evidence c.loop-v.invariant c.counts.result.now own (omega arith)
    c.requires.least.least

pub loop-v-preserved : goal.loop-v-preserved
loop-v-preserved c =
    let m = c.args.self.now in
    let g = c.args.game.now in
    let table = values_of m.player m.proposals.now in
    let v = c.loop-v.v in
    elim c.if-not-is_top.branch [
      | then-not-is_top w ↦ (
          let own = counts_back c.value-own.result (λ top. absurd (true≢false (sym (c.is_top.ensures.1 top) ∙ w.if-not-is_top.true))) w.counts.result.now w.counts.ensures.value ∙ c.value-own.ensures in
          subst (λ (e : NamedEvidence). IsMade m.player g table (v + 1) e) (sym w.evidence-is)
          (made_more m.player g table v c.loop-v.evidence c.loop-v.invariant w.counts.result.now own (omega arith) w.next.result _
          (said_there m g c.requires.least v (omega arith) w.counts.result.now (sym own) w.next.result w.next.ensures) w.put.ensures))
      | else-not-is_top w ↦ subst (λ (e : NamedEvidence). IsMade m.player g table (v + 1) e) (sym w.evidence-is)
          (made_left m.player g table v c.loop-v.evidence c.loop-v.invariant (sym c.value-own.ensures ∙ c.is_top.ensures.0 w.if-not-is_top.false))
    ]

pub returns-clause-best : goal.returns-clause-best
returns-clause-best c =
    let m = c.args.self.now in
    let g = c.args.game.now in
    let same = long_for m.player g in
    made_best m.player g (values_of m.player m.proposals.now) c.loop-v.v c.loop-v.evidence c.requires.least.least (omega (arith, same)) c.loop-v.invariant
