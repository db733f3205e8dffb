use Rattle.std.proofs.Common.{◌≡◌, ◌∙◌, ◌*◌, ap, arith, drop, length, take}
use Rattle.evidence.specs.View.{entry_of}
use Rattle.evidence.proofs.Places.{entry_is, long_is, row_inside}
use Rattle.evidence.proofs.entries.Entries.get.Goals as goal

pub row-rank-requires : goal.row-rank-requires
row-rank-requires c =
    let i = c.self.inside in
    row_inside i.width i.places.items i.counts.items c.args.self.now c.self.view_is c.args.v (length c.as_slice.result.now) c.requires
    (ap length c.as_slice.ensures.value ∙ c.self.invariant)

pub index-requires : goal.index-requires
index-requires c =
    let i = c.self.inside in
    let long = long_is i.width i.places.items i.counts.items c.args.self.now c.self.view_is in
    omega arith

pub returns-in-Outside : goal.returns-in-Outside
returns-in-Outside c =
    let i = c.self.inside in
    let row : c.row-rank.result.now ≡ take i.width (drop (c.args.v * i.width) i.counts.items) = rw c.as_slice.ensures.value at c.row-rank.ensures in
    entry_is i.width i.places.items i.counts.items c.args.self.now c.self.view_is c.args.v c.index.result.now c.index.result.now c.row-rank.result.now
    c.requires c.index.ensures row
    ∙ ap (λ place. entry_of place c.row-rank.result.now) c.in-Outside.is

pub returns-in-Stays : goal.returns-in-Stays
returns-in-Stays c =
    let i = c.self.inside in
    let row : c.row-rank.result.now ≡ take i.width (drop (c.args.v * i.width) i.counts.items) = rw c.as_slice.ensures.value at c.row-rank.ensures in
    entry_is i.width i.places.items i.counts.items c.args.self.now c.self.view_is c.args.v c.index.result.now c.index.result.now c.row-rank.result.now
    c.requires c.index.ensures row
    ∙ ap (λ place. entry_of place c.row-rank.result.now) c.in-Stays.is

pub returns-in-Goes : goal.returns-in-Goes
returns-in-Goes c =
    let i = c.self.inside in
    let row : c.row-rank.result.now ≡ take i.width (drop (c.args.v * i.width) i.counts.items) = rw c.as_slice.ensures.value at c.row-rank.ensures in
    entry_is i.width i.places.items i.counts.items c.args.self.now c.self.view_is c.args.v c.index.result.now c.index.result.now c.row-rank.result.now
    c.requires c.index.ensures row
    ∙ ap (λ place. entry_of place c.row-rank.result.now) c.in-Goes.is
