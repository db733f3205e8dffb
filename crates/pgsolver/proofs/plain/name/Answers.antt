use Rattle.pgsolver.proofs.Unspaced.{name_bytes}
use Rattle.pgsolver.proofs.plain.name.Goals as goal

pub returns-clause-bytes : goal.returns-clause-bytes
returns-clause-bytes c = name_bytes c.args.bytes.now c.split_at.result.0.now c.inner.result c.inner.ensures.count c.split_at.ensures.front
