use Rattle.std.proofs.Common.{arith, subst}
use Rattle.calculus.specs.Normal.{normal_nodes}
use Rattle.why.specs.Walk.{IsWalkBy}
use Rattle.why.proofs.Walking.{walk_ends, walk_stops}
use Rattle.why.proofs.walk.telling.Goals as goal

pub loop-next-preserved : goal.loop-next-preserved
loop-next-preserved c =
    let g = c.args.game.now in
    let e = c.args.evidence.now.evidence in
    record {
      walk = c.in_ok-next.ensures.told.walk c.args.root (subst (λ o. IsWalkBy c.args.system.now.system (normal_nodes c.args.form.now) g e c.args.root c.loop-next.walk o) c.in-Some.is c.loop-next.invariant.walk);
      end = c.in_ok-next.ensures.end;
    }

pub returns : goal.returns
returns c =
    let g = c.args.game.now in
    let e = c.args.evidence.now.evidence in
    let w = c.loop-next.walk in
    walk_ends c.args.system.now.system (normal_nodes c.args.form.now) g e c.args.root c.args.most w.told.items w.visits.items w.start w.waiting.items (c.loop-next.invariant.end c.in_default.is)
    (subst (λ o. IsWalkBy c.args.system.now.system (normal_nodes c.args.form.now) g e c.args.root w o) c.in_default.is c.loop-next.invariant.walk)

pub returns-then-len-most : goal.returns-then-len-most
returns-then-len-most c =
    let w = c.loop-next.walk in
    walk_stops c.args.system.now.system (normal_nodes c.args.form.now) c.args.game.now c.args.evidence.now.evidence c.args.root c.args.most w.told.items w.visits.items w.start w.waiting.items c.loop-next.next
    c.requires.some (omega (arith, c.if-len-most.true, c.len.ensures)) c.loop-next.invariant.walk
