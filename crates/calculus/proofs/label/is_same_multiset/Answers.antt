use Rattle.calculus.proofs.Multisets.{as_often, same_names}
use Rattle.calculus.proofs.label.is_same_multiset.Goals as goal

pub returns-then-eq : goal.returns-then-eq
returns-then-eq c = same_names c.args.read.now c.args.names.now c.eq.result c.eq.ensures c.if-eq.true

pub returns-then-read-names : goal.returns-then-read-names
returns-then-read-names c = as_often c.args.read.now c.args.names.now c.are_as_often.result c.if-read-names.true c.are_as_often.ensures
