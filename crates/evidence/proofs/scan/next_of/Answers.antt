use Rattle.std.proofs.Common.{◌≡◌, ◌∙◌, codes, false, refl, sym, true}
use Rattle.std.specs.Prelude.{None}
use Rattle.std.specs.Str.{bytes_eq}
use Rattle.evidence.proofs.Scanning.{dash_move, no_move, some_move}
use Rattle.evidence.proofs.scan.next_of.Goals as goal

pub returns-in_err-whole_number : goal.returns-in_err-whole_number
returns-in_err-whole_number c =
    let other : bytes_eq c.args.bytes.now (codes "-") ≡ false = sym (rw c.as_slice.ensures at c.eq.ensures) ∙ c.if-eq.false in
    rw c.from_residual.ensures (no_move c.args.bytes.now other c.in_err-whole_number.ensures)

pub returns-then-eq : goal.returns-then-eq
returns-then-eq c =
    let same : bytes_eq c.args.bytes.now (codes "-") ≡ true = sym (rw c.as_slice.ensures at c.eq.ensures) ∙ c.if-eq.true in
    (None, dash_move c.args.bytes.now same, refl)

pub returns-in_ok-whole_number : goal.returns-in_ok-whole_number
returns-in_ok-whole_number c =
    let other : bytes_eq c.args.bytes.now (codes "-") ≡ false = sym (rw c.as_slice.ensures at c.eq.ensures) ∙ c.if-eq.false in
    some_move c.args.bytes.now c.in_ok-whole_number.field-0 other c.in_ok-whole_number.ensures
