use Rattle.std.proofs.Common.{subst}
use Rattle.text.proofs.Writing.{HasWritten, HasWritten-none, HasWritten-more, HasWritten-stops, HasWritten-all, Wrote-err}
use Rattle.pgsolver.specs.Canon.{successors_text}
use Rattle.pgsolver.proofs.Lines.{numbers_are, next_number, no_numbers}
use Rattle.pgsolver.proofs.writer.put_successors.Goals as goal

pub returns-in_err-put_number : goal.returns-in_err-put_number
returns-in_err-put_number g c =
    let next = next_number c.loop-successor.before.now c.args.successors.now c.loop-successor.successor-index _ c.loop-successor-test.true in
    Wrote-err _ _ _ _ c.from_residual.ensures.0 (HasWritten-stops _ _ _ _ _ _
    (subst (HasWritten _ _ _) next c.loop-successor.invariant) c.in_err-put_number.ensures.wrote)

pub loop-successor-preserved : goal.loop-successor-preserved
loop-successor-preserved g c =
    let next = next_number c.loop-successor.before.now c.args.successors.now c.loop-successor.successor-index _ c.loop-successor-test.true in
    HasWritten-more _ _ _ _ _ _ (subst (HasWritten _ _ _) next c.loop-successor.invariant) c.in_ok-put_number.ensures.wrote

pub returns : goal.returns
returns g c =
    HasWritten-all _ _ _ (subst (HasWritten _ _ _)
    (no_numbers _ c.args.successors.now c.loop-successor.successor-index c.loop-successor-test.false) c.loop-successor.invariant)

pub loop-successor-init : goal.loop-successor-init
loop-successor-init g c = subst (HasWritten _ _ _) (numbers_are c.args.successors.now) (HasWritten-none _ (successors_text c.args.successors.now))
