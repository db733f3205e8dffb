use Rattle.std.proofs.Common.{arith}
use Rattle.systems.proofs.Names.{read_no_names, read_only_tau, read_more_than_tau, read_all_names}
use Rattle.systems.proofs.label.names_of.Goals as goal
use Rattle.systems.proofs.label.names_of.Goals.{then-is_alone, else-is_alone}

pub returns-then-not-are_names : goal.returns-then-not-are_names
returns-then-not-are_names c =
    read_no_names c.args.bytes.now c.in_ok-parts.parts.items c.are_names.result c.in_ok-parts.ensures
    (rw c.deref.ensures.value at c.are_names.ensures) c.if-not-are_names.true

pub returns-then-has_tau : goal.returns-then-has_tau
returns-then-has_tau c =
    let parts = c.in_ok-parts.parts in
    elim c.if-is_alone.branch [
      | then-is_alone w ↦
          rw (w.result-is, w.new.ensures.items)
          (read_only_tau c.args.bytes.now parts.items c.are_names.result c.has_tau.result c.in_ok-parts.ensures
          (rw c.deref.ensures.value at c.are_names.ensures) c.if-not-are_names.false (rw c.deref-2.ensures.value at c.has_tau.ensures)
          c.if-has_tau.true (omega (arith, parts.ok.0)))
      | else-is_alone w ↦
          rw w.result-is
          (read_more_than_tau c.args.bytes.now parts.items c.has_tau.result c.in_ok-parts.ensures
          (rw c.deref-2.ensures.value at c.has_tau.ensures) c.if-has_tau.true (λ e. w.if-is_alone.false (omega (arith, parts.ok.0, e))))
    ]

pub returns : goal.returns
returns c =
    read_all_names c.args.bytes.now c.in_ok-parts.parts.items c.sort_unstable.new.self.items c.are_names.result c.has_tau.result c.in_ok-parts.ensures
    (rw c.deref.ensures.value at c.are_names.ensures) c.if-not-are_names.false
    (rw c.deref-2.ensures.value at c.has_tau.ensures) c.if-has_tau.false c.sort_unstable.ensures.permutation c.sort_unstable.ensures.sorted
