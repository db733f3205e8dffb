-- The targets of a modality, by the transitions of a state and the set of its labels.
use Rattle.std.proofs.Common.{◌≡◌, ℕ, ◌<◌, Bool, true, List, map, refl, sym, ap, subst, ◌∙◌}
use Rattle.std.specs.Prelude.{Contains, ◌==◌}
use Rattle.std.specs.List.{AllByRecursion}
use Rattle.std.proofs.lemmas.Bool.{eqb-true}
use Rattle.std.proofs.lemmas.List.Elements.{All-from_recursion}
use Rattle.systems.specs.System.{Arrow, IsSystem}
use Rattle.systems.specs.Numbered.{IsInside, IsTransitionOf, Numbered, arrow_of, arrows_from, label_at}
use Rattle.systems.specs.declared.system.Transition.{Transition}
use Rattle.calculus.specs.Tree.{Action}
use Rattle.calculus.specs.Holds.{holds}
use Rattle.game.specs.Arena.{targets}
use Rattle.calculus.specs.Taken.{IsSetOf, is_in}
use Rattle.laws.proofs.Flags.{same_true}
use Rattle.laws.proofs.Lists.{filter_gives, gives_filter, in_map, of_map}
use Rattle.laws.proofs.Targets.{leads_target, target_leads}

module _ (l : Numbered) (ok : IsSystem l.system) (a : Action) (s : ℕ) (below : s < l.system.states) (set : List Bool) (row : List Transition)
    (arrows : map (arrow_of l.labels) row ≡ arrows_from l.system s)
    (inside : IsInside l row) (numbers : AllByRecursion (λ t. t.label < 4294967296) row) (exact : IsSetOf a l.labels set) where
  -- what the set says of a transition's label
  says : (t : Transition) → Contains row t → is_in set t ≡ holds a (label_at l.labels t.label)
  says t h =
      let i : IsTransitionOf l t = subst (IsTransitionOf l) h.2 (All-from_recursion (IsTransitionOf l) row inside h.0 t h.1) in
      let n : t.label < 4294967296 =
      subst (λ (u : Transition). u.label < 4294967296) h.2
      (All-from_recursion (λ (u : Transition). u.label < 4294967296) row numbers h.0 t h.1) in
      exact t.label i.label n

  -- each target has a transition with a label in the set
  pub step_of : (t : ℕ) → Contains (targets l.system a s) t → (u : Transition) × Contains row u × (is_in set u ≡ true) × (u.target ≡ t)
  step_of t h =
      let w = target_leads l.system a s t h in
      let arrow : Arrow = record { source = s; label = w.0; target = t } in
      let in_row : Contains (arrows_from l.system s) arrow = gives_filter (λ (x : Arrow). x.source == s) l.system.arrows arrow w.1 (same_true s s refl) in
      let u = of_map (arrow_of l.labels) row arrow (subst (λ xs. Contains xs arrow) (sym arrows) in_row) in
      let same : label_at l.labels u.0.label ≡ w.0 = ap (λ (x : Arrow). x.label) u.2 in
      (u.0, u.1, says u.0 u.1 ∙ (ap (holds a) same ∙ w.2), ap (λ (x : Arrow). x.target) u.2)

  -- and each such transition leads to a target
  pub target_of : (u : Transition) → Contains row u → is_in set u ≡ true → Contains (targets l.system a s) u.target
  target_of u h e =
      let in_arrows = filter_gives (λ (x : Arrow). x.source == s) l.system.arrows (arrow_of l.labels u)
      (subst (λ xs. Contains xs (arrow_of l.labels u)) arrows (in_map (arrow_of l.labels) row u h)) in
      let from : u.source ≡ s = eqb-true u.source s in_arrows.1 in
      let arrow : Contains l.system.arrows (record { source = s; label = label_at l.labels u.label; target = u.target }) =
      subst (λ z. Contains l.system.arrows (record { source = z; label = label_at l.labels u.label; target = u.target })) from in_arrows.0 in
      leads_target l.system ok a s u.target below (label_at l.labels u.label, arrow, sym (says u h) ∙ e)
