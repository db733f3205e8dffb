-- the digits so far
use Rattle.std.proofs.Common.{◌≡◌, ◌≤◌, take, true}
use Rattle.std.specs.List.{list_all}
use Rattle.text.specs.Text as spec
use Rattle.text.proofs.scan.few_digits.Given as goal

abbrev pub invariant-loop-count : goal.invariant-loop-count
invariant-loop-count l =
    (l.value ≡ spec.value_of (take l.count l.line)) × (list_all spec.is_digit (take l.count l.line) ≡ true) × (l.value ≤ 999999999)
