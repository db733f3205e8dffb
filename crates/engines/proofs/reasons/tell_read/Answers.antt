use Rattle.std.proofs.Common.{Option, Some, subst}
use Rattle.std.specs.Prelude.{IfSome}
use Rattle.calculus.specs.Closed.{closed_formula}
use Rattle.calculus.specs.Normal.{normal_nodes}
use Rattle.verdicts.specs.Findings.{IsRankedFound}
use Rattle.verdicts.specs.declared.ranked.RankedFound.{RankedFound}
use Rattle.engines.proofs.Alike.{some_of, told_alike}
use Rattle.engines.proofs.reasons.tell_read.Goals as goal

pub returns-clause-tells : goal.returns-clause-tells
returns-clause-tells g c = λ first second spelled.
    let options = c.args.request.now.options in
    let l = c.args.texts.system.system in
    let f = closed_formula c.args.texts.formula in
    let x = c.in-Some.found in
    let is = subst (λ (o : Option RankedFound). IfSome o (IsRankedFound options.priorities options.board l f)) c.in-Some.is
    c.ranked_found-ranked.ensures in
    told_alike options.priorities (Some options.board) l f (normal_nodes x.form) is.form x.marks.items is.marks c.args.request.now.limit first second
    (g.W.Sink.taken c.args.out.now) (g.W.Sink.taken c.tell_answer.new.out) c.in-Some-2.count c.tell_answer.result c.deref.result.now c.deref-2.result.now
    c.deref.ensures.value c.deref-2.ensures.value c.tell_answer.ensures.inside spelled (some_of _ _ _ _ c.in_ok-count.ensures c.in-Some-2.is)
    c.tell_answer.ensures.told
