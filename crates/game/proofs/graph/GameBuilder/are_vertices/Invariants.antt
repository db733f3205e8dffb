use Rattle.game.proofs.Common.{◌≡◌, drop, list_all}
use Rattle.game.proofs.Tests.{is_fit}
use Rattle.game.proofs.graph.GameBuilder.are_vertices.Given as goal

abbrev pub invariant-loop-row : goal.invariant-loop-row
invariant-loop-row l = list_all (is_fit l.limit l.self-inside.successors.items) (drop l.row-index l.self-inside.rows.items)
    ≡ list_all (is_fit l.limit l.self-inside.successors.items) l.self-inside.rows.items
