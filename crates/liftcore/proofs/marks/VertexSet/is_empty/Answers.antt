use Rattle.std.proofs.Common.{◌≡◌, Bool, List, [], eq-eqb, eqb-true, subst, sym, ◌∙◌}
use Rattle.liftcore.specs.Marks.{members}
use Rattle.liftcore.proofs.Marked.{members_none, no_members}
use Rattle.liftcore.proofs.marks.VertexSet.is_empty.Goals as goal

pub returns : goal.returns
returns c = (
  λ e. subst (λ (bs : List Bool). members bs ≡ []) c.self.view_is
      (no_members c.self.inside.marks.items (sym c.self.invariant ∙ eqb-true c.self.inside.count 0 e)),
  λ e. eq-eqb c.self.inside.count 0 (c.self.invariant ∙ members_none c.self.inside.marks.items
      (subst (λ (bs : List Bool). members bs ≡ []) (sym c.self.view_is) e)),
)
