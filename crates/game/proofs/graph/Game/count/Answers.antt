use Rattle.game.proofs.Common.{◌≡◌, inl, inr, sym, ap, ◌∙◌, length, slice_index, arith, common_steps, get_or_past, leb_tells, Game, count, vertices_of}
use Rattle.game.proofs.Rows.{count_past}
use Rattle.game.proofs.graph.Game.count.Goals as goal

pub returns : goal.returns
returns c =
    let p = c.args.priority in
    let i = c.self.inside in
    let read : c.unwrap_or.result ≡ slice_index i.counts p = grind (arith, common_steps) in
    let counted : slice_index i.counts p ≡ count (record { vertices = vertices_of i.rows.items i.successors.items; named = i.named }) p =
    elim (leb_tells p 32) [
      | inl few ↦ c.self.invariant.stored.counted p (omega (arith, few.1))
      | inr past ↦ get_or_past i.counts p 0 (omega (arith, past.1))
          ∙ sym (count_past (length (vertices_of i.rows.items i.successors.items)) p (vertices_of i.rows.items i.successors.items)
          (omega (arith, past.1)) c.self.invariant.game.vertices)
    ]
    in
    read ∙ (counted ∙ ap (λ (g : Game). count g p) c.self.view_is)
