use Rattle.std.proofs.Common.{◌≡◌, ℕ, ◌<◌, ◌⊎◌, inl, inr, sym, subst, ◌∙◌, List}
use Rattle.game.specs.Game.{IsGame, Vertex, count}
use Rattle.game.specs.View.{vertices_in}
use Rattle.game.proofs.Greatest.{greatest_is}
use Rattle.game.proofs.graph.GameBuilder.into_named.Goals as goal

pub invariant_of-result : goal.invariant_of-result
invariant_of-result c =
    let inside = c.self.inside in
    let counted = c.self.invariant.stored.counted in
    let p = c.greatest_counted.result in
    let known : IsGame record { vertices = vertices_in inside; named = c.args.named } = subst
    (λ (vs : List Vertex). IsGame record { vertices = vs; named = c.args.named }) (sym c.self.view_is) c.requires in
    let some : (p ≡ 0) ⊎ (0 < count record { vertices = vertices_in inside; named = c.args.named } p) = elim c.greatest_counted.ensures.some [
      | inl z ↦ inl z
      | inr more ↦ inr (subst (λ (n : ℕ). 0 < n) (counted p c.greatest_counted.ensures.low) more)
    ] in
    record {
      game = known;
      stored = c.self.invariant.stored;
      greatest = greatest_is record { vertices = vertices_in inside; named = c.args.named } p known
          (λ q l m. sym (counted q m) ∙ c.greatest_counted.ensures.none q l m) some;
    }
