use Rattle.calculus.specs.Closed.{closed_formula}
use Rattle.calculus.specs.Normal.{normal_nodes}
use Rattle.verdicts.proofs.Ranking.{ranking_found}
use Rattle.verdicts.proofs.ranked.ranked_found.Goals as goal

pub returns-in-Ok : goal.returns-in-Ok
returns-in-Ok g c =
    ranking_found c.args.options.now.priorities c.args.options.now.board c.args.system.now.system (closed_formula c.args.formula.now)
    (normal_nodes c.in-Ok.form) c.ranked_of.result c.chosen_is_admissible.ensures c.even_wins_where_meant.ensures.root c.states-states.ensures.known
    c.args.formula.now.admitted (c.is_named.ensures.fits c.if-is_named.false) c.in-Ok.ensures.count c.in-Ok.ensures.low c.in-Ok.ensures.nodes
    c.ranked_of.ensures.form c.ranked_of.ensures.few c.ranked_of.ensures.wins
