-- The states to which steps lead.
use Rattle.std.proofs.Common.{◌≡◌, ℕ, ◌+◌, ◌<◌, List, [], ◌∷◌, ◌++◌, get_or, length, map, take, refl, sym, ap, subst, ◌∙◌}
use Rattle.std.specs.Prelude.{Contains, ◌==◌}
use Rattle.std.proofs.lemmas.Bool.{eqb-true}
use Rattle.std.proofs.lemmas.List.{map-append, take_more}
use Rattle.systems.specs.System.{Arrow}
use Rattle.systems.specs.Numbered.{Numbered, arrow_of, arrows_from}
use Rattle.systems.specs.declared.system.Transition.{Transition}
use Rattle.calculus.specs.Meaning.{Leads}
use Rattle.calculus.specs.Tree.{Anything, Step}
use Rattle.laws.proofs.Flags.{same_true}
use Rattle.laws.proofs.Lists.{filter_gives, gives_filter, in_map, of_map}
use Rattle.witness.specs.Walk.{AreTargets}

-- The targets of the transitions from a state are those of its steps.
pub step_targets : (l : Numbered) (s : ℕ) (row : List Transition) → map (arrow_of l.labels) row ≡ arrows_from l.system s
    → AreTargets (Leads l.system (Step Anything)) s (map (λ t. t.target) row)
step_targets l s row is t = (
  λ go. (
      let arrow : Arrow = record { source = s; label = go.0; target = t } in
      let in_row = gives_filter (λ (a : Arrow). a.source == s) l.system.arrows arrow go.1 (same_true s s refl) in
      let u = of_map (arrow_of l.labels) row arrow (subst (λ xs. Contains xs arrow) (sym is) in_row) in
      subst (λ z. Contains (map (λ (t : Transition). t.target) row) z) (ap (λ (a : Arrow). a.target) u.2)
      (in_map (λ (t : Transition). t.target) row u.0 u.1)),
  λ h. (
      let u = of_map (λ (t : Transition). t.target) row t h in
      let arrow = arrow_of l.labels u.0 in
      let in_arrows = filter_gives (λ (a : Arrow). a.source == s) l.system.arrows arrow
      (subst (λ xs. Contains xs arrow) is (in_map (arrow_of l.labels) row u.0 u.1)) in
      let from : arrow.source ≡ s = eqb-true arrow.source s in_arrows.1 in (
        arrow.label,
        subst (λ z. Contains l.system.arrows (record { source = z; label = arrow.label; target = t })) from
            (subst (λ z. Contains l.system.arrows (record { source = arrow.source; label = arrow.label; target = z })) u.2 in_arrows.0),
        refl,
      )),
)

-- one more of them
pub more_targets : (row : List Transition) (k : ℕ) (d : Transition) → k < length row
    → map (λ t. t.target) (take k row) ++ (get_or row k d).target ∷ [] ≡ map (λ t. t.target) (take (k + 1) row)
more_targets row k d h = sym (ap (map (λ (t : Transition). t.target)) (take_more row k d h) ∙ map-append (λ (t : Transition). t.target) (take k row) (get_or row k d ∷ []))
