use Rattle.measures.proofs.Common.{◌≡◌, sym, ◌∙◌, slice_index_or, subst, get_or_default, Measure, Top, IsBestFor}
use Rattle.measures.proofs.Bests.{demand_of_best}
use Rattle.measures.proofs.progs.demand.Goals as goal

pub returns : goal.returns
returns c =
    let at : c.index-successors-best_place.result ≡ slice_index_or c.args.successors.now c.best_place.result Top =
    c.index-successors-best_place.is ∙ get_or_default c.args.successors.now c.best_place.result _ Top c.best_place.ensures.inside in
    let best = subst (λ (m : Measure). IsBestFor c.owner.result c.args.successors.now m) (sym at) c.best_place.ensures.best in
    demand_of_best c.args.game.now c.args.v c.owner.result c.index-successors-best_place.result c.prog.result c.args.successors.now c.requires.vertex
    c.owner.ensures c.requires.measures best c.prog.ensures
