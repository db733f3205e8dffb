use Rattle.std.proofs.Common.{subst, sym, ◌∙◌}
use Rattle.liftcore.specs.Begun.{IsBegunLine}
use Rattle.liftcore.specs.declared.line.LinePart.TheVariants.{Vertex}
use Rattle.liftcore.proofs.Bytewise.{vertex_absent, vertex_event}
use Rattle.liftcore.proofs.line.event_of_vertex.Goals as goal

pub returns-in_err-vertex : goal.returns-in_err-vertex
returns-in_err-vertex c = λ line begun.
    vertex_absent line c.args.word.now c.args.worker (subst (λ n. IsBegunLine line c.args.word.now (Vertex c.args.worker n)) c.in_err-vertex.was begun)
    ∙ sym c.from_residual.ensures

pub returns : goal.returns
returns c = λ line begun.
    vertex_event line c.args.word.now c.args.worker c.in_ok-vertex.field-0
    (subst (λ n. IsBegunLine line c.args.word.now (Vertex c.args.worker n)) c.in_ok-vertex.was begun) ∙ c.event_with.ensures
