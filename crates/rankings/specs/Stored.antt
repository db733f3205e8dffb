-- How rankings are stored.
use Rattle.std.specs.Prelude.{map}
use Rattle.rankings.specs.Cells.{AreShifts, Cells}
use Rattle.rankings.specs.declared.sheet.Sheet.TheInside.{Inside}

abbrev pub cells_of : Inside → Cells
cells_of c = record {
  nodes = c.columns.nodes.items;
  marks = c.columns.marks.items;
  counts = map (λ list. list.items) c.columns.counts.items;
  words = map (λ list. list.items) c.columns.words.items;
  evens = c.evens.items;
  odds = c.odds.items;
}

pub record AreColumnsStored (c : Inside) : Type 0 where
  pub evens : AreShifts c.evens.items
  pub odds : AreShifts c.odds.items
