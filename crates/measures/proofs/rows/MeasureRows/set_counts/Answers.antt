use Rattle.measures.proofs.Common.{◌≡◌, ◌∙◌, ◌+◌, ◌*◌, ◌++◌, ap, arith, drop, length, sym, take, false, length-set, with_items_is}
use Rattle.measures.proofs.Stored.{long_is, row_inside, set_counts}
use Rattle.measures.proofs.rows.MeasureRows.set_counts.Goals as goal

pub index_mut-requires : goal.index_mut-requires
index_mut-requires c =
    let i = c.self.inside in
    let long = long_is i.width i.tops.items i.counts.items c.args.self.now c.self.view_is in
    let inside = c.requires.vertex in
    omega arith

pub write_row-requires-clause-inside : goal.write_row-requires-clause-inside
write_row-requires-clause-inside c =
    let i = c.self.inside in
    row_inside i.width i.tops.items i.counts.items c.args.self.now c.self.view_is c.args.v (length c.as_mut_slice.result.now) c.requires.vertex
    (ap length c.as_mut_slice.ensures.value ∙ c.self.invariant)

pub returns : goal.returns
returns c =
    let i = c.self.inside in
    let start = c.args.v * i.width in
    let written : c.write_row.new.numbers ≡ take start i.counts.items
    ++ (c.args.counts.now ++ drop (start + i.width) i.counts.items) = rw c.as_mut_slice.ensures.value at c.write_row.ensures in
    let whole = with_items_is i.counts c.write_row.new.numbers (c.write_row.auto.numbers ∙ c.as_mut_slice.ensures.len) in
    set_counts i.width i.tops.items i.counts.items c.args.self.now c.self.view_is c.args.v c.args.counts.now _ c.requires.vertex c.requires.width
    c.self.invariant (whole ∙ written)

pub invariant_of-self : goal.invariant_of-self
invariant_of-self c =
    let i = c.self.inside in
    let whole = with_items_is i.counts c.write_row.new.numbers (c.write_row.auto.numbers ∙ c.as_mut_slice.ensures.len) in
    ap length whole ∙ (c.write_row.auto.numbers ∙ (ap length c.as_mut_slice.ensures.value
    ∙ (c.self.invariant ∙ ap (λ n. n * i.width) (sym (length-set i.tops.items c.args.v false)))))
