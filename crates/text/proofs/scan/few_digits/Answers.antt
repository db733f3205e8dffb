use Rattle.std.proofs.Common.{ap, sym, ◌∙◌}
use Rattle.std.specs.List.{list_all}
use Rattle.std.proofs.lemmas.List.{take_all}
use Rattle.text.specs.Text.{is_digit}
use Rattle.text.proofs.Scanning.{prefix_all, run_ends}
use Rattle.text.proofs.scan.few_digits.Goals as goal

pub returns-then-not-is_digit-clause-count : goal.returns-then-not-is_digit-clause-count
returns-then-not-is_digit-clause-count c =
    run_ends is_digit c.args.line.now c.loop-count.count c.loop-count-test.true c.loop-count.invariant.1 (sym c.is_digit.ensures ∙ c.if-not-is_digit.true)

pub returns-clause-count : goal.returns-clause-count
returns-clause-count c =
    sym (prefix_all is_digit c.args.line.now
    (ap (list_all is_digit) (sym (take_all c.loop-count.count c.args.line.now c.loop-count-test.false)) ∙ c.loop-count.invariant.1))
