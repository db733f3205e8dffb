use Rattle.std.proofs.Common.{◌∙◌, ℕ, List, ap, ap₂, map}
use Rattle.std.specs.List.{range_with_len}
use Rattle.liftcore.specs.Seats.{worker_of}
use Rattle.game.specs.Game.{Game}
use Rattle.measures.specs.Measure.{Measure}
use Rattle.measures.specs.Tables.{GameTable}
use Rattle.liftcore.specs.Core.{starting_core}
use Rattle.liftcore.specs.Marks.{members}
use Rattle.liftcore.proofs.Marked.{all_members}
use Rattle.liftcore.proofs.Stated.{core, table}
use Rattle.liftcore.proofs.state.CoreParts.new.Goals as goal

pub returns-clause-start : goal.returns-clause-start
returns-clause-start c =
    ap₂ (λ (t : GameTable) (ps : List ℕ). core t ps (map worker_of c.in_ok-idle_seats.field-0.items))
    (ap₂ (λ (g : Game) (vs : List Measure). table g vs) c.in_ok-opening.ensures.game c.in_ok-opening.ensures.values)
    (ap members c.in_ok-all.ensures ∙ (all_members c.vertices.result ∙ ap (range_with_len 0) c.vertices.ensures))
    ∙ ap (core (starting_core c.args.game.now c.args.workers).table (starting_core c.args.game.now c.args.workers).pending) c.in_ok-idle_seats.ensures.idle
