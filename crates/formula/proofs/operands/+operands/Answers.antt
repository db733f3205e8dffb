use Rattle.std.proofs.Common.{rules, arith, ◌≡◌, ◌+◌, ◌^◌, ◌<◌, ℕ, false, length, map, subst, sym, ap, ◌∙◌, IsErrAnd}
use Rattle.std.specs.Prelude.{Result, Ok, Err}
use Rattle.std.proofs.lemmas.List.{length-map}
use Rattle.grammar.specs.Syntax.{RegSyntax, reg_tokens, more_names, counts_as_action}
use Rattle.formula.specs.Fault.{reg_faults}
use Rattle.grammar.specs.Written.{reg_syntax, infixed}
use Rattle.formula.specs.Checked.{IsChecked}
use Rattle.formula.proofs.Faults.{operand-first, names-count, actions-first, regulars-first}
use Rattle.formula.proofs.operands.+operands.Goals as goal

pub action_operand-returns-then-not-counts_as_action :
    goal.action_operand-returns-then-not-counts_as_action
action_operand-returns-then-not-counts_as_action t c =
    let uncounted : counts_as_action (reg_syntax c.args.operand.now) ≡ false = grind arith in
    operand-first (reg_syntax c.args.operand.now) c.args.at uncounted

pub regular_operands-overflow_add-result-in-Names :
    goal.regular_operands-overflow_add-result-in-Names
regular_operands-overflow_add-result-in-Names t c =
    let e = names-count (map (λ name. name.now) c.in-Names.others.items) in
    let l = length-map c.in-Names.others.items (λ name. name.now) in
    let room : c.args.at + length (reg_tokens (reg_syntax c.args.regular.now)) < 2 ^ 64 = c.requires in
    let whole : length (reg_tokens (reg_syntax c.args.regular.now)) ≡ length (more_names (map (λ name. name.now) c.in-Names.others.items))
    + 1 = ap (λ w. length (reg_tokens (reg_syntax w))) c.in-Names.is ∙ omega arith in
    let n : c.len.result ≡ length c.in-Names.others.items = c.len.ensures ∙ search rules in
    omega arith

-- what a left operand is refused for, the whole is
left-refused : (s x : RegSyntax) (at place : ℕ) (result : Result ℕ ℕ) → s ≡ x → IsErrAnd result (λ e. e ≡ place)
    → IsChecked (reg_faults at x) at (length (reg_tokens x)) (Err place)
    → IsChecked (reg_faults at s) at (length (reg_tokens s)) result
left-refused s x at place (Ok n) e h k = absurd h
left-refused s x at place (Err p) e h k =
    subst (λ y. IsChecked (reg_faults at y) at (length (reg_tokens y)) (Err p)) (sym e)
    (subst (λ q. IsChecked (reg_faults at x) at (length (reg_tokens x)) (Err q)) (sym h) k)

pub regular_operands-returns-in_err-place-in-Joined : goal.regular_operands-returns-in_err-place-in-Joined
regular_operands-returns-in_err-place-in-Joined t c =
    let left = c.deref-then-joins_actions.result.now in
    let right = c.in-Joined.right.value in
    let mark = c.in-Joined.sign in
    left-refused _ _ _ _ c.from_residual-in_err-place-in-Joined.result
    (ap reg_syntax c.in-Joined.is ∙ ap (λ l. infixed mark (reg_syntax l) (reg_syntax right)) (sym c.deref-then-joins_actions.ensures))
    c.from_residual-in_err-place-in-Joined.ensures.1 (actions-first mark (reg_syntax left) (reg_syntax right) c.args.at _
    (sym c.if-joins_actions.ensures) c.in_err-place-in-Joined.ensures)

pub regular_operands-returns-in_err-place-in-Joined-2 : goal.regular_operands-returns-in_err-place-in-Joined-2
regular_operands-returns-in_err-place-in-Joined-2 t c =
    let left = c.deref-else-joins_actions.result.now in
    let right = c.in-Joined.right.value in
    let mark = c.in-Joined.sign in
    left-refused _ _ _ _ c.from_residual-in_err-place-in-Joined-2.result
    (ap reg_syntax c.in-Joined.is ∙ ap (λ l. infixed mark (reg_syntax l) (reg_syntax right)) (sym c.deref-else-joins_actions.ensures))
    c.from_residual-in_err-place-in-Joined-2.ensures.1 (regulars-first mark (reg_syntax left) (reg_syntax right) c.args.at _
    (sym c.if-joins_actions.ensures) c.in_err-place-in-Joined-2.ensures)

pub regular_operands-returns-in-Names : goal.regular_operands-returns-in-Names
regular_operands-returns-in-Names t c =
    let e = names-count (map (λ name. name.now) c.in-Names.others.items) in
    let l = length-map c.in-Names.others.items (λ name. name.now) in
    let n : c.len.result ≡ length c.in-Names.others.items = c.len.ensures ∙ search rules in
    let whole : length (reg_tokens (reg_syntax c.args.regular.now)) ≡ length (more_names (map (λ name. name.now) c.in-Names.others.items))
    + 1 = ap (λ w. length (reg_tokens (reg_syntax w))) c.in-Names.is ∙ omega arith in
    (omega arith, ap (λ w. reg_faults c.args.at (reg_syntax w)) c.in-Names.is)
