use Rattle.std.proofs.Common.{◌+◌, ◌*◌}
use Rattle.rankings.proofs.winners.+spans.Given as goal

abbrev pub decreases-are_ranked_by : goal.decreases-are_ranked_by
decreases-are_ranked_by g l = 2 * l.threads + 1

abbrev pub decreases-see_rest : goal.decreases-see_rest
decreases-see_rest g l = 2 * l.threads
