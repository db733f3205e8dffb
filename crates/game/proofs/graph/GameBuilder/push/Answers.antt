use Rattle.game.proofs.Common.{◌≡◌, ◌∷◌, [], ◌++◌, List, ℕ, length, subst, sym, ap, ◌∙◌, refl, arith, rules, length-append, length-map, Vertex, AreStored}
use Rattle.game.proofs.Common.{vertices_of, vertex_of_row, VertexRow}
use Rattle.std.proofs.lemmas.Result.{err_from_is_err_and}
use Rattle.game.proofs.Rows.{stored_longer, stored_more, vertices_more, rows_same}
use Rattle.game.proofs.graph.GameBuilder.push.Goals as goal

pub invariant_of-self-in_err-push : goal.invariant_of-self-in_err-push
invariant_of-self-in_err-push c =
    let i = c.self.inside in
    record {
      limit = rw c.in_err-push.ensures.items c.self.invariant.limit;
      stored = rw (c.in_err-push.ensures.items, c.in_ok-extend_from_slice.ensures.items)
          (stored_longer i.rows.items i.successors.items c.args.successors.now i.counts c.self.invariant.stored);
    }

pub returns-in_err-push-clause-err : goal.returns-in_err-push-clause-err
returns-in_err-push-clause-err c =
    let i = c.self.inside in
    let same = rows_same i.rows.items i.successors.items c.args.successors.now c.self.invariant.stored.within in
    let exit = err_from_is_err_and c.from_residual-in_err-push.result c.from_residual-in_err-push.ensures.1 in
    rw exit.1 (rw (c.in_err-push.ensures.items, c.in_ok-extend_from_slice.ensures.items, ← c.self.view_is) same)

pub invariant_of-self-2 : goal.invariant_of-self-2
invariant_of-self-2 c =
    let i = c.self.inside in
    let ys = c.args.successors.now in
    let row : VertexRow = record { start = c.len-start.result; count = length ys; owner = c.args.owner; priority = c.args.priority } in
    let rows : c.push.new.self.items ≡ i.rows.items ++ row ∷ [] = c.in_ok-push.ensures.items in
    let longer : c.extend_from_slice.new.self.items ≡ i.successors.items ++ ys = c.in_ok-extend_from_slice.ensures.items in
    let start : c.len-start.result ≡ length i.successors.items = search rules in
    let before : length i.rows.items ≡ length c.args.self.now = sym (length-map i.rows.items (vertex_of_row i.successors.items)) ∙ ap length c.self.view_is in
    record {
      limit = rw rows (omega (arith, length-append i.rows.items (row ∷ [])));
      stored =
          subst
          (λ (rs : List VertexRow). AreStored rs c.extend_from_slice.new.self.items c.count_one.new.counts)
          (sym rows)
          (subst (λ (xs : List ℕ). AreStored (i.rows.items ++ row ∷ []) xs c.count_one.new.counts) (sym longer)
          (stored_more i.rows.items row i.successors.items ys i.counts c.count_one.new.counts c.self.invariant.stored start refl c.count_one.ensures));
    }

pub returns-clause-ok : goal.returns-clause-ok
returns-clause-ok c =
    let i = c.self.inside in
    let ys = c.args.successors.now in
    let row : VertexRow = record { start = c.len-start.result; count = length ys; owner = c.args.owner; priority = c.args.priority } in
    let rows : c.push.new.self.items ≡ i.rows.items ++ row ∷ [] = c.in_ok-push.ensures.items in
    let longer : c.extend_from_slice.new.self.items ≡ i.successors.items ++ ys = c.in_ok-extend_from_slice.ensures.items in
    let start : c.len-start.result ≡ length i.successors.items = search rules in
    (λ j. vertices_of (rows j) (longer j)) ∙ (vertices_more i.rows.items row i.successors.items ys c.self.invariant.stored.within start refl
    ∙ ap (λ (vs : List Vertex). vs ++ record { owner = c.args.owner; priority = c.args.priority; successors = ys } ∷ []) c.self.view_is)
