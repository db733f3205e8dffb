use Rattle.game.proofs.Common.{◌≡◌, true, false, length, drop, sym, ◌∙◌, arith, rules, true≢false, common_steps, list_all}
use Rattle.game.proofs.Tests.{is_fit, tested, vertices_from, vertices_to}
use Rattle.game.proofs.graph.GameBuilder.are_vertices.Goals as goal
use Rattle.game.proofs.graph.GameBuilder.are_vertices.Goals.{then-from-ge-PRIORITIES-via-then-from-ge-PRIORITIES}
use Rattle.game.proofs.graph.GameBuilder.are_vertices.Goals.{then-from-ge-PRIORITIES-via-else-from-ge-PRIORITIES+then-is_empty}
use Rattle.game.proofs.graph.GameBuilder.are_vertices.Goals.{then-from-ge-PRIORITIES-via-else-from-ge-PRIORITIES+else-is_empty+then-not-is_ascending}

pub returns-then-from-ge-PRIORITIES : goal.returns-then-from-ge-PRIORITIES
returns-then-from-ge-PRIORITIES c =
    let i = c.self.inside in
    let fails : list_all (is_fit c.len-limit.result i.successors.items) (drop c.loop-row.row-index i.rows.items) ≡ false =
    elim c.then-from-ge-PRIORITIES.branch [
      | then-from-ge-PRIORITIES-via-then-from-ge-PRIORITIES w ↦ grind (arith, common_steps)
      | then-from-ge-PRIORITIES-via-else-from-ge-PRIORITIES+then-is_empty w ↦ grind (arith, common_steps)
      | then-from-ge-PRIORITIES-via-else-from-ge-PRIORITIES+else-is_empty+then-not-is_ascending w ↦ grind (arith, common_steps)
    ]
    in
    let count : c.len-limit.result ≡ length i.rows.items = search rules in
    let test = tested c.len-limit.result i.successors.items i.rows.items c.args.self.now false count c.self.view_is (sym c.loop-row.invariant ∙ fails) in
    (λ e. absurd (true≢false (sym e)), λ g. sym test ∙ vertices_to (length c.args.self.now) c.args.self.now g)

pub returns : goal.returns
returns c =
    let i = c.self.inside in
    let passes : list_all (is_fit c.len-limit.result i.successors.items) (drop c.loop-row.row-index i.rows.items) ≡ true = grind (arith, common_steps) in
    let count : c.len-limit.result ≡ length i.rows.items = search rules in
    let test = tested c.len-limit.result i.successors.items i.rows.items c.args.self.now true count c.self.view_is (sym c.loop-row.invariant ∙ passes) in
    (λ e. vertices_from (length c.args.self.now) c.args.self.now test, λ g. search rules)
