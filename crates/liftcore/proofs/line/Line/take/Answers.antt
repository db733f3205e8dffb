use Rattle.std.proofs.Common.{subst}
use Rattle.liftcore.specs.Begun.{IsBegunLine}
use Rattle.liftcore.proofs.line.Line.take.Goals as goal

pub returns-in-Worker : goal.returns-in-Worker
returns-in-Worker c = λ line begun.
    c.after_worker-self.ensures line c.args.self.now.word.items (subst (IsBegunLine line c.args.self.now.word.items) c.in-Worker.is begun)

pub returns-in-Vertex : goal.returns-in-Vertex
returns-in-Vertex c = λ line begun.
    c.after_vertex-self.ensures line c.args.self.now.word.items (subst (IsBegunLine line c.args.self.now.word.items) c.in-Vertex.is begun)
