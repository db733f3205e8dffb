use Rattle.game.proofs.Common.{◌≡◌, ◌++◌, map, length, sym, ap, ◌∙◌, arith, rules, length-append, length-map, moved, vertices_of, vertex_of_row}
use Rattle.game.proofs.Rows.{stored_joined, vertices_joined}
use Rattle.game.proofs.graph.GameBuilder.joined.Goals as goal

pub invariant_of-self : goal.invariant_of-self
invariant_of-self c =
    let i = c.self.inside in
    let o = c.other.inside in
    let base : c.len-base.result ≡ length i.successors.items = search rules in
    let longer : c.extend_from_slice.new.self.items ≡ i.successors.items ++ o.successors.items = search rules in
    let rows : c.push_moved.new.rows.items ≡ i.rows.items ++ map (moved (length i.successors.items)) o.rows.items = search rules in
    let before = sym (length-map i.rows.items (vertex_of_row i.successors.items)) ∙ ap length c.self.view_is in
    let more = sym (length-map o.rows.items (vertex_of_row o.successors.items)) ∙ ap length c.other.view_is in
    record {
      limit = rw rows (omega (
        arith,
        before,
        more,
        c.requires,
        length-append i.rows.items (map (moved (length i.successors.items)) o.rows.items),
        length-map o.rows.items (moved (length i.successors.items)),
      ));
      stored = rw (rows, longer)
          (stored_joined i.rows.items o.rows.items i.successors.items o.successors.items i.counts o.counts c.add_counts.new.counts c.self.invariant.stored
          c.other.invariant.stored c.add_counts.ensures);
    }

pub returns : goal.returns
returns c =
    let i = c.self.inside in
    let o = c.other.inside in
    let longer : c.extend_from_slice.new.self.items ≡ i.successors.items ++ o.successors.items = search rules in
    let rows : c.push_moved.new.rows.items ≡ i.rows.items ++ map (moved (length i.successors.items)) o.rows.items = search rules in
    (λ j. vertices_of (rows j) (longer j)) ∙ (vertices_joined i.rows.items o.rows.items i.successors.items o.successors.items c.self.invariant.stored.within
    ∙ (λ j. c.self.view_is j ++ c.other.view_is j))
