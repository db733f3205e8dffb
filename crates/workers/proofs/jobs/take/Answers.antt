use Rattle.workers.proofs.Moves.{takes, pops}
use Rattle.workers.proofs.jobs.take.Goals as goal

pub pop_as-requires-clause-fifo : goal.pop_as-requires-clause-fifo
pop_as-requires-clause-fifo g c = λ _. takes g.K.GameName.game _ _ 1

pub pop_as-requires-clause-lifo : goal.pop_as-requires-clause-lifo
pop_as-requires-clause-lifo g c = λ _. pops g.K.GameName.game _ _
