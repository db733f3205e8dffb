use Rattle.std.proofs.Common.{sym}
use Rattle.engines.proofs.Putting.{drawing_written, system_written}
use Rattle.engines.proofs.outputs.put_witness.Goals as goal

pub returns-in-System : goal.returns-in-System
returns-in-System g c = λ x at shown.
    system_written x c.args.shown.now.form c.args.texts.now c.deref.result.now c.args.shown.now.part.items _ _ c.write_part.result
    c.in-System.is (sym at) c.deref.ensures.value shown c.write_part.ensures.wrote

pub returns-in-Drawing : goal.returns-in-Drawing
returns-in-Drawing g c = λ x at shown.
    drawing_written x c.args.shown.now.form c.args.texts.now c.deref-in-Drawing.result.now c.args.shown.now.part.items _ _
    c.write_drawing.result c.in-Drawing.is (sym at) c.deref-in-Drawing.ensures.value shown c.write_drawing.ensures.wrote
