use Rattle.liftcore.proofs.Bytewise.{vertex_bad, vertex_more}
use Rattle.liftcore.proofs.line.after_vertex.Goals as goal

pub returns-in-Some : goal.returns-in-Some
returns-in-Some c = λ line word begun. vertex_more line word c.args.worker c.in-Some.number c.args.byte c.args.vertex begun c.in-Some.ensures

pub returns-in-None : goal.returns-in-None
returns-in-None c = λ line word begun. vertex_bad line word c.args.worker c.args.byte c.args.vertex begun c.in-None.ensures
