use Rattle.std.proofs.Common.{◌≡◌, ◌∙◌, ◌+◌, ◌*◌, ◌++◌, ap, arith, drop, length, take}
use Rattle.std.proofs.lemmas.List.{with_items_is}
use Rattle.evidence.proofs.Places.{long_is, row_inside, set_entry}
use Rattle.evidence.proofs.entries.Entries.set.Goals as goal

pub index_mut-requires : goal.index_mut-requires
index_mut-requires c =
    let i = c.self.inside in
    let long = long_is i.width i.places.items i.counts.items c.args.self.now c.self.view_is in
    let inside = c.requires.vertex in
    omega arith

pub write_row-requires-clause-inside : goal.write_row-requires-clause-inside
write_row-requires-clause-inside c =
    let i = c.self.inside in
    row_inside i.width i.places.items i.counts.items c.args.self.now c.self.view_is c.args.v (length c.as_mut_slice.result.now) c.requires.vertex
    (ap length c.as_mut_slice.ensures.value ∙ c.self.invariant)

pub returns : goal.returns
returns c =
    let i = c.self.inside in
    let start = c.args.v * i.width in
    let written : c.write_row.new.numbers ≡ take start i.counts.items
    ++ (c.args.rank.now ++ drop (start + i.width) i.counts.items) = rw c.as_mut_slice.ensures.value at c.write_row.ensures in
    let whole = with_items_is i.counts c.write_row.new.numbers (c.write_row.auto.numbers ∙ c.as_mut_slice.ensures.len) in
    set_entry i.width i.places.items i.counts.items c.args.self.now c.self.view_is c.args.v c.place_of.result _ c.args.rank.now _ c.requires.vertex
    (c.place_of.ensures c.args.rank.now) c.requires.width c.self.invariant (whole ∙ written)
