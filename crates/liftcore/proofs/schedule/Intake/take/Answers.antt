use Rattle.std.proofs.Common.{[], ◌∷◌, refl, subst, sym}
use Rattle.std.proofs.lemmas.Bool.{ne_eqb}
use Rattle.std.proofs.lemmas.Result.{IfErr-weaker}
use Rattle.liftcore.specs.Taken.{TakesBytes, Tells}
use Rattle.liftcore.proofs.Taking.{both_ok, byte_taken, end_taken, end_tells}
use Rattle.liftcore.proofs.schedule.Intake.take.Goals as goal

pub returns-then-byte-eq10-clause-taken : goal.returns-then-byte-eq10-clause-taken
returns-then-byte-eq10-clause-taken c =
    let old = c.args.self.now in
    let new = c.end_line.new.self in
    both_ok c.end_line.result c.end_line.ensures.fresh c.end_line.ensures.event
    (λ fresh ends. subst (λ b. TakesBytes (b ∷ []) old new) (sym c.if-byte-eq10.true) (end_taken old new c.end_line.ensures.bounds fresh ends))

pub returns-then-byte-eq10-clause-fault : goal.returns-then-byte-eq10-clause-fault
returns-then-byte-eq10-clause-fault c =
    let old = c.args.self.now in
    IfErr-weaker c.end_line.result _ _ (λ e fails. subst (λ b. Tells (b ∷ []) old e) (sym c.if-byte-eq10.true) (end_tells old e fails)) c.end_line.ensures.fault

pub returns-clause-taken : goal.returns-clause-taken
returns-clause-taken c =
    let old = c.args.self.now in
    byte_taken old (record old { line = c.take.new.self }) c.args.byte (ne_eqb _ _ c.if-byte-eq10.false) (refl, refl) refl c.take.ensures
