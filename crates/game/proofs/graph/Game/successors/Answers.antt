use Rattle.std.proofs.Common.{◌≡◌, ◌+◌, ◌-◌, ◌∙◌, Some, arith, drop, sym, take}
use Rattle.game.proofs.Rows.{row_within, told}
use Rattle.game.proofs.graph.Game.successors.Goals as goal

pub returns : goal.returns
returns c =
    let row = c.index-row.result.now in
    let count : row.count ≡ row.start + row.count - row.start = omega arith in
    told (λ x. x.successors) c.self.inside c.args.self.now c.args.v row c.self.view_is c.requires c.index-row.ensures
    ∙ (λ i. Some (take (count i) (drop row.start (sym c.deref.ensures.value i))))

pub offset_bounds-deref-row : goal.offset_bounds-deref-row
offset_bounds-deref-row c = omega (
  arith,
  c.self.inside.successors.ok.0,
  row_within c.self.inside c.args.self.now c.args.v c.index-row.result.now c.self.view_is c.requires c.index-row.ensures c.self.invariant.stored.within,
)

pub overflow_add-result : goal.overflow_add-result
overflow_add-result c = omega (
  arith,
  c.self.inside.successors.ok.0,
  row_within c.self.inside c.args.self.now c.args.v c.index-row.result.now c.self.view_is c.requires c.index-row.ensures c.self.invariant.stored.within,
)
