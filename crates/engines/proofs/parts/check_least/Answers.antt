use Rattle.std.proofs.Common.{None, Some, refl, sym}
use Rattle.engines.specs.Prepared.{ArePrepared, Outcome}
use Rattle.engines.specs.declared.prepared.BothEvidence.TheVariants.{Least}
use Rattle.engines.specs.declared.prepared.Prepared.{Prepared}
use Rattle.engines.proofs.Putting.{none_of}
use Rattle.engines.proofs.parts.check_least.Goals as goal

pub returns-clause-answers : goal.returns-clause-answers
returns-clause-answers g c = λ first second spelled.
    let options = c.args.options.now in
    let x : Outcome = record { rule = options.priorities; board = Some options.board; texts = c.args.texts; marks = c.in_ok-marks.marks.items } in
    let p : Prepared = record { wanted = c.args.wanted; game = None; evidence = Least c.args.least; shown = None } in
    let made : ArePrepared x p = record {
      stored = sym c.if-wanted.false;
      game = tt;
      made = sym c.requires.evidence;
      both = (options.board, c.requires.least);
      form = sym (none_of c.args.wanted.witness c.in_default.not-Some);
      shown = tt;
    } in
    c.answer_prepared.ensures.answers x first second refl (sym c.deref.ensures.value) made c.in_ok-marks.ensures.marks spelled
