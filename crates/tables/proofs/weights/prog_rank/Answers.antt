use Rattle.std.proofs.Common.{arith}
use Rattle.measures.proofs.Ranks.{size_some}
use Rattle.measures.specs.Measure.{components, kept}
use Rattle.game.specs.Game.{count}
use Rattle.std.proofs.Common.{drop}
use Rattle.tables.proofs.Weighing.{asked_even, asked_odd, weight_here}
use Rattle.measures.specs.Lifting.{of_rank}
use Rattle.measures.proofs.Bests.{prog_at_top}
use Rattle.measures.proofs.Numbers.{of_rank_top}
use Rattle.tables.proofs.weights.prog_rank.Goals as goal

pub returns-then-number-top-clause-prog : goal.returns-then-number-top-clause-prog
returns-then-number-top-clause-prog c =
    let g = c.args.game.now in
    let is = c.requires.top in
    let here = c.if-number-top.true in
    prog_at_top g c.args.v (of_rank g c.args.number) (of_rank g c.args.top) c.requires.vertex (of_rank_top g c.args.number (omega (arith, is, here)))
    (of_rank_top g c.args.top (omega (arith, is)))

pub bounds-weights-from : goal.bounds-weights-from
bounds-weights-from c = (weight_here c.args.game.now c.args.weights.now c.args.v c.priority-priority.result c.from.result c.requires.weights
    c.requires.vertex c.priority-priority.ensures c.from.ensures).0

pub rest_of-requires : goal.rest_of-requires
rest_of-requires c =
    let g = c.args.game.now in
    let p = c.priority-priority.result in
    let is = (weight_here g c.args.weights.now c.args.v p c.from.result c.requires.weights c.requires.vertex c.priority-priority.ensures c.from.ensures).1 in
    let some = size_some (count g) (drop (kept g p) (components g)) in
    omega (arith, is, some)

pub returns-then-priority-eq0-clause-prog : goal.returns-then-priority-eq0-clause-prog
returns-then-priority-eq0-clause-prog c =
    rw c.rest_of.ensures
    (asked_even c.args.game.now c.args.weights.now c.args.v c.priority-priority.result c.from.result c.args.number c.requires.weights c.requires.vertex
    c.priority-priority.ensures c.from.ensures c.if-priority-eq0.true c.requires.number)

pub returns-else-priority-eq0-clause-prog : goal.returns-else-priority-eq0-clause-prog
returns-else-priority-eq0-clause-prog c =
    asked_odd c.args.game.now c.args.weights.now c.args.v c.priority-priority.result c.from.result c.args.number c.min.result c.requires.weights
    c.requires.vertex c.priority-priority.ensures c.from.ensures c.if-priority-eq0.false
    c.requires.number (let rest = c.rest_of.ensures in omega (arith, c.min.ensures, c.requires.top, rest))
