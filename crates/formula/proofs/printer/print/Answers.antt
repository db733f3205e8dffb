use Rattle.std.proofs.Math.Logic.{∥∥₁_map}
use Rattle.calculus.specs.Closed.{closed_formula}
use Rattle.formula.proofs.Refusals.{without_limits}
use Rattle.formula.proofs.Spellable.{canon_spells, canon_within}
use Rattle.formula.proofs.printer.print.Goals as goal

pub returns-clause-spells : goal.returns-clause-spells
returns-clause-spells g c = λ some. ∥∥₁_map some (λ told. canon_spells told.0 (closed_formula c.args.formula.now)
    (without_limits told.0 (closed_formula c.args.formula.now) told.1))

pub returns-clause-within : goal.returns-clause-within
returns-clause-within g c = λ some short. ∥∥₁_map some (λ told. canon_within told.0 (closed_formula c.args.formula.now) told.1 short)
