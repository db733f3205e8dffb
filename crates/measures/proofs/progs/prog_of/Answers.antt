use Rattle.measures.proofs.Carry.{even_prog, full_prog, odd_prog}
use Rattle.measures.proofs.progs.prog_of.Goals as goal

pub returns-then-priority-eq0 : goal.returns-then-priority-eq0
returns-then-priority-eq0 c =
    rw c.padded.ensures
    (λ g is measure. even_prog g c.args.priority c.args.counts.now c.args.bounds.now c.saturating_sub-kept.result is measure c.saturating_sub-kept.ensures
    c.if-priority-eq0.true c.copy_of.result.items c.copy_of.ensures)

pub returns-in-Some : goal.returns-in-Some
returns-in-Some c =
    rw c.padded-in-Some.ensures
    (λ g is measure. odd_prog g c.args.priority c.args.counts.now c.args.bounds.now c.saturating_sub-kept.result is measure c.saturating_sub-kept.ensures
    c.if-priority-eq0.false c.in-Some.k c.in-Some.ensures.inside c.in-Some.ensures.room c.in-Some.ensures.full c.raised.result.items c.raised.ensures)

pub returns-in-None : goal.returns-in-None
returns-in-None c =
    rw c.top.ensures
    (λ g is measure. full_prog g c.args.priority c.args.counts.now c.args.bounds.now c.saturating_sub-kept.result is measure c.saturating_sub-kept.ensures
    c.if-priority-eq0.false c.in-None.ensures.none)
