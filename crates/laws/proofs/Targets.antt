-- The targets of a step.
use Rattle.std.proofs.Common.{◌≡◌, ℕ, ◌<◌, Bool, ◌&&◌, refl, subst, arith}
use Rattle.std.specs.Prelude.{Contains, ◌==◌}
use Rattle.std.specs.List.{range_with_len}
use Rattle.std.proofs.lemmas.Bool.{eqb-true}
use Rattle.systems.specs.System.{Arrow, System, IsSystem}
use Rattle.calculus.specs.Tree.{Action, Step}
use Rattle.calculus.specs.Holds.{holds}
use Rattle.calculus.specs.Meaning.{Leads}
use Rattle.calculus.proofs.Inside.{leads_inside}
use Rattle.game.specs.Arena.{is_step, targets}
use Rattle.laws.proofs.Flags.{both, and_true, same_true}
use Rattle.laws.proofs.Lists.{any_gives, gives_any, filter_gives, gives_filter, range_gives, gives_range}

abbrev arrow_test : Action → ℕ → ℕ → Arrow → Bool
arrow_test a s t arrow = arrow.source == s && arrow.target == t && holds a arrow.label

-- targets are states
pub target_below : (l : System) (a : Action) (s t : ℕ) → Contains (targets l a s) t → t < l.states
target_below l a s t h = let i = range_gives 0 l.states t (filter_gives (is_step l a s) (range_with_len 0 l.states) t h).0 in omega arith

-- the step leads to each target
pub target_leads : (l : System) (a : Action) (s t : ℕ) → Contains (targets l a s) t → Leads l (Step a) s t
target_leads l a s t h =
    let w = any_gives (arrow_test a s t) l.arrows (filter_gives (is_step l a s) (range_with_len 0 l.states) t h).1 in
    let v = both (w.0.source == s && w.0.target == t) (holds a w.0.label) w.2 in
    let u = both (w.0.source == s) (w.0.target == t) v.0 in
    let e : w.0 ≡ record { source = s; label = w.0.label; target = t } = λ i. record {
      source = (eqb-true w.0.source s u.0) i;
      label = w.0.label;
      target =
          (eqb-true w.0.target t u.1) i;
    } in
    (w.0.label, subst (λ (y : Arrow). Contains l.arrows y) e w.1, v.1)

-- where the step leads is a target
pub leads_target : (l : System) → IsSystem l → (a : Action) (s t : ℕ) → s < l.states → Leads l (Step a) s t → Contains (targets l a s) t
leads_target l ok a s t lt x =
    let below = leads_inside l ok (Step a) s t lt x in
    gives_filter (is_step l a s) (range_with_len 0 l.states) t (gives_range 0 l.states t (omega arith) (omega arith))
    (gives_any (arrow_test a s t) l.arrows (record { source = s; label = x.0; target = t }) x.1
    (and_true (s == s && t == t) (holds a x.0) (and_true (s == s) (t == t) (same_true s s refl) (same_true t t refl)) x.2))
