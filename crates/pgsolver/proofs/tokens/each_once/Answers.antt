use Rattle.std.proofs.Common.{ap, ◌∙◌}
use Rattle.game.specs.NumberSet.{number_set}
use Rattle.pgsolver.proofs.Same.{set_twice}
use Rattle.pgsolver.proofs.tokens.each_once.Goals as goal

pub returns : goal.returns
returns c = ap number_set c.make_set.ensures ∙ set_twice c.args.numbers.now.items
