use Rattle.measures.proofs.Common.{subst, sym, Game, IsProgress}
use Rattle.measures.proofs.settle.solve_one_from.Goals as goal

pub into_settled-requires : goal.into_settled-requires
into_settled-requires c = subst (λ (g : Game). IsProgress g c.settle.new.table.values)
    (sym c.settle.ensures.game) c.settle.ensures.least.progress
