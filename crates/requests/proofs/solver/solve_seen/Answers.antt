use Rattle.std.specs.Arc.{arc_value}
use Rattle.requests.proofs.solver.solve_seen.Goals as goal

pub returns-in-Err-clause-refusal : goal.returns-in-Err-clause-refusal
returns-in-Err-clause-refusal g c = c.refusal.ensures c.args.options.now.board (arc_value c.args.game.now) c.in-Err.ensures.refused
