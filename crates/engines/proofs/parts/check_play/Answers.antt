use Rattle.std.proofs.Common.{◌≡◌, ◌∙◌, Some, ap, refl, subst, sym}
use Rattle.std.specs.Option.{is_some}
use Rattle.std.specs.Prelude.{IfSome, IsTrue}
use Rattle.calculus.specs.Closed.{closed_formula}
use Rattle.calculus.specs.Normal.{normal_nodes}
use Rattle.calculus.specs.Rules.{nodes_with}
use Rattle.game.specs.Arena.{arena}
use Rattle.requests.specs.Check.{AreSpelled}
use Rattle.requests.specs.declared.texts.Texts.{Texts}
use Rattle.text.proofs.PassedOn.{passed_on}
use Rattle.verdicts.specs.Findings.{IsLeastFound}
use Rattle.engines.specs.Play.{system_played}
use Rattle.engines.specs.Prepared.{ArePrepared, AreShown, outcome_played}
use Rattle.engines.specs.declared.prepared.Prepared.{Prepared}
use Rattle.engines.proofs.Caused.{unplayed_caused}
use Rattle.engines.proofs.Checks.{unplayed_all}
use Rattle.engines.proofs.Orders.{refused_on}
use Rattle.engines.proofs.Putting.{stored_as}
use Rattle.engines.proofs.parts.check_play.Goals as goal

pub returns-clause-answers : goal.returns-clause-answers
returns-clause-answers g c = λ first second spelled.
    let options = c.args.options.now in
    let found = c.in_ok-found.found in
    let is = c.in_ok-found.ensures.play in
    let x = outcome_played options.priorities options.board found in
    let p : Prepared = record {
      wanted = c.args.wanted;
      game = c.game_where.result;
      evidence = c.by_least.result;
      shown = Some (record { form = c.args.form; part = c.in_ok-part.part });
    } in
    let made : ArePrepared x p = record {
      stored = c.game_where.ensures.wanted;
      game = stored_as (λ y. y.now) _ _ c.game_where.result (c.deref-3.ensures ∙ (is.play.game ∙ ap (arena (system_played found)) is.form)) c.game_where.ensures.game;
      made = c.by_least.ensures.made ∙ c.requires.evidence;
      both = c.by_least.ensures.both x options.board (subst (λ (t : Texts). IfSome c.args.least
          (λ y. IsLeastFound options.priorities options.board t.system.system (closed_formula t.formula) y.now)) (sym c.in_ok-found.ensures.texts) c.requires.least);
      form = sym c.requires.form;
      shown = subst (λ (t : Texts). AreShown options.priorities t c.in_ok-part.part.items) c.deref.ensures
          (c.in_ok-part.ensures options.priorities (subst (λ (t : Texts). normal_nodes found.form ≡ nodes_with options.priorities (closed_formula t.formula))
          (sym c.deref.ensures) is.form));
    } in
    c.answer_prepared.ensures.answers x first second (sym c.deref-4.ensures) (sym c.deref-5.ensures.value) made is.marks
    (subst (λ (t : Texts). AreSpelled first second t.system.system (closed_formula t.formula)) (sym c.in_ok-found.ensures.texts) spelled)

pub returns-in_err-found-clause-answers : goal.returns-in_err-found-clause-answers
returns-in_err-found-clause-answers g c = λ first second spelled.
    let options = c.args.options.now in
    refused_on c.from_residual.result c.in_err-found.field-0.0 _ _ c.from_residual.ensures.1
    (unplayed_all options.priorities options.board c.args.texts.system.system (closed_formula c.args.texts.formula) c.args.wanted first second _ _ _ _ _
    c.in_err-found.field-0.0 (subst (λ form. IsTrue (is_some form)) (sym c.requires.form) refl) spelled c.in_err-found.ensures.refusal)

pub returns-in_err-found-clause-cause : goal.returns-in_err-found-clause-cause
returns-in_err-found-clause-cause g c =
    let options = c.args.options.now in
    passed_on c.from_residual.result c.in_err-found.field-0.0 _ c.from_residual.ensures.1
    (unplayed_caused options.priorities options.board c.args.texts.system.system (closed_formula c.args.texts.formula) _ _ c.in_err-found.field-0.0
    c.in_err-found.ensures.refusal)
