use Rattle.std.proofs.Common.{subst}
use Rattle.liftcore.specs.Begun.{IsBegunLine}
use Rattle.liftcore.proofs.Bytewise.{some_faulty, some_vertex, some_worker}
use Rattle.liftcore.proofs.line.Line.is_empty.Goals as goal

pub returns-in-Worker : goal.returns-in-Worker
returns-in-Worker c = λ line begun.
    some_worker line c.args.self.now.word.items c.in-Worker.worker (subst (IsBegunLine line c.args.self.now.word.items) c.in-Worker.is begun)

pub returns-in-Vertex : goal.returns-in-Vertex
returns-in-Vertex c = λ line begun.
    some_vertex line c.args.self.now.word.items c.in-Vertex.worker c.in-Vertex.vertex (subst (IsBegunLine line c.args.self.now.word.items) c.in-Vertex.is begun)

pub returns-in-Faulty : goal.returns-in-Faulty
returns-in-Faulty c = λ line begun. some_faulty line c.args.self.now.word.items (subst (IsBegunLine line c.args.self.now.word.items) c.in-Faulty.is begun)
