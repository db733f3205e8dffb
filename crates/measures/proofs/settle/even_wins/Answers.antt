use Rattle.measures.proofs.Common.{◌≡◌, Wins, Top, value_at}
use Rattle.measures.proofs.LeastDecides.{least_decides}
use Rattle.measures.proofs.Settling.{not_top_is}
use Rattle.measures.proofs.settle.even_wins.Goals as goal

pub returns : goal.returns
returns c =
    let s = c.args.settled.now in
    let settled = c.is_top.ensures.settled in
    not_top_is c.is_top.result (value_at s.values c.args.v ≡ Top) (Wins s.game c.args.v) c.is_top.ensures.value
    (least_decides s.game settled.game s.values settled.least c.args.v)
