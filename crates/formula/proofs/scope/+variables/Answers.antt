use Rattle.std.proofs.Common.{◌≡◌, Bool, [], length, subst, sym, ap, ◌∙◌}
use Rattle.std.specs.Prelude.{Err}
use Rattle.grammar.specs.Syntax.{Syntax, tokens, Neg'}
use Rattle.formula.specs.Fault.{variable_faults}
use Rattle.grammar.specs.Written.{state_syntax}
use Rattle.formula.specs.Checked.{AreChecked, scope_of, left_parity}
use Rattle.grammar.proofs.Handed.{refused_on}
use Rattle.formula.proofs.Scopes.{variables-under, variables-first, variables-second}
use Rattle.formula.proofs.scope.+variables.Goals as goal

pub variables-returns-in-Not : goal.variables-returns-in-Not
variables-returns-in-Not t c =
    let inner = c.deref-in-Not.result.now in
    let whole : state_syntax c.args.state.now ≡ Neg' (state_syntax inner) = ap state_syntax c.in-Not.is
    ∙ ap (λ l. Neg' (state_syntax l)) (sym c.deref-in-Not.ensures) in
    let r = c.variables-in-Not.result in
    subst (λ (x : Syntax). AreChecked (variable_faults (scope_of c.args.scope.now c.args.parity) c.args.at x) c.args.at (length (tokens x)) r) (sym whole)
    (variables-under c.args.scope.now c.args.parity c.args.at (state_syntax inner) r c.variables-in-Not.ensures)

pub variables_of_both-returns-in_err-place : goal.variables_of_both-returns-in_err-place
variables_of_both-returns-in_err-place t c =
    let left = state_syntax c.args.left.now in
    let here = subst (λ (q : Bool). AreChecked (variable_faults (scope_of c.args.scope.now q) c.args.at left) c.args.at (length (tokens left))
    (Err c.in_err-place.field-0.0)) c.parity_left_of.ensures c.in_err-place.ensures in
    refused_on _ _ _ _ c.from_residual.ensures.1 (variables-first c.args.sign c.args.scope.now c.args.parity c.args.at left _ _ here)

pub variables_of_both-returns : goal.variables_of_both-returns
variables_of_both-returns t c =
    let left = state_syntax c.args.left.now in
    let none : variable_faults (scope_of c.args.scope.now (left_parity c.args.sign c.args.parity)) c.args.at left ≡ []
    = ap (λ q. variable_faults (scope_of c.args.scope.now q) c.args.at left) (sym c.parity_left_of.ensures) ∙ c.in_ok-place.ensures.1 in
    variables-second c.args.sign c.args.scope.now c.args.parity c.args.at c.in_ok-place.place left _ c.variables-2.result none c.in_ok-place.ensures.0
    c.variables-2.ensures
