use Rattle.workers.proofs.Moves.{takes}
use Rattle.workers.proofs.jobs.steal.Goals as goal

pub steal_as-requires-clause-takes : goal.steal_as-requires-clause-takes
steal_as-requires-clause-takes g c = takes g.K.GameName.game _ _ 1
