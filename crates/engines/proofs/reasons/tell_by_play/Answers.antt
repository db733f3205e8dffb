use Rattle.text.proofs.PassedOn.{passed_on}
use Rattle.engines.proofs.Orders.{refused_on}
use Rattle.std.proofs.Common.{Some, subst, sym, ◌∙◌}
use Rattle.calculus.specs.Closed.{closed_formula}
use Rattle.calculus.specs.Normal.{normal_nodes}
use Rattle.requests.specs.declared.texts.Texts.{Texts}
use Rattle.requests.specs.Check.{AreSpelled}
use Rattle.witness.proofs.Walking.{no_more}
use Rattle.engines.proofs.Alike.{apart_played, marks_played, some_of, told_alike}
use Rattle.engines.proofs.Reasoning.{unplayed_kept}
use Rattle.engines.proofs.Caused.{unplayed_caused}
use Rattle.engines.proofs.reasons.tell_by_play.Goals as goal

pub returns-clause-tells : goal.returns-clause-tells
returns-clause-tells g c = λ first second spelled.
    c.tell_found.ensures.tells first second (subst (λ (t : Texts). AreSpelled first second t.system.system (closed_formula t.formula))
    (sym c.in_ok-found.ensures.texts) spelled)

pub returns-in_err-found-clause-tells : goal.returns-in_err-found-clause-tells
returns-in_err-found-clause-tells g c = λ first second spelled.
    let options = c.args.request.now.options in
    refused_on c.from_residual.result c.in_err-found.field-0.0 _ _ c.from_residual.ensures.1
    (unplayed_kept options.priorities options.board c.args.request.now.limit first second _ c.args.texts.system.system (closed_formula c.args.texts.formula)
    c.in_err-found.field-0.0 spelled c.in_err-found.ensures.refusal)

pub returns-in_err-found-clause-cause : goal.returns-in_err-found-clause-cause
returns-in_err-found-clause-cause g c =
    let options = c.args.request.now.options in
    passed_on c.from_residual.result c.in_err-found.field-0.0 _ c.from_residual.ensures.1
    (unplayed_caused options.priorities options.board c.args.texts.system.system (closed_formula c.args.texts.formula) _ _ c.in_err-found.field-0.0
    c.in_err-found.ensures.refusal)

pub returns-in-Some-clause-tells : goal.returns-in-Some-clause-tells
returns-in-Some-clause-tells g c = λ first second spelled.
    let options = c.args.request.now.options in
    let x = c.in_ok-found.found in
    let t = c.deref.result.now in
    let found = marks_played options.priorities options.board x c.in_ok-found.ensures.play t c.deref.ensures in
    told_alike options.priorities (Some options.board) t.system.system (closed_formula t.formula) (normal_nodes x.form) found.1
    x.marks.items found.0 c.args.request.now.limit first second (g.W.Sink.taken c.args.out.now) (g.W.Sink.taken c.tell_answer.new.out) c.in-Some.count
    c.tell_answer.result c.deref-2.result.now c.deref-in-Some.result.now c.deref-2.ensures.value c.deref-in-Some.ensures.value c.tell_answer.ensures.inside
    (subst (λ (u : Texts). AreSpelled first second u.system.system (closed_formula u.formula)) (sym (c.deref.ensures ∙ c.in_ok-found.ensures.texts)) spelled)
    (some_of _ _ _ _ c.in_ok-count.ensures c.in-Some.is) c.tell_answer.ensures.told

pub tell_found-requires-clause-apart : goal.tell_found-requires-clause-apart
tell_found-requires-clause-apart g c κs within =
    let options = c.args.request.now.options in
    apart_played options.priorities options.board c.in_ok-found.found c.in_ok-found.ensures.play c.deref.result.now c.deref-2.result.now c.deref.ensures
    c.deref-2.ensures.value (no_more _ _ _ c.in_ok-count.ensures c.in_default.not-Some)
