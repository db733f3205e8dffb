-- The arrows that a part keeps.
use Rattle.std.proofs.Common.{◌≡◌, ℕ, Bool, ◌&&◌, List, [], ◌∷◌, length, filter, refl, sym, ap, subst, ◌∙◌, inl, inr}
use Rattle.std.specs.Prelude.{◌==◌}
use Rattle.std.specs.List.{AllByRecursion}
use Rattle.std.specs.List.Sorted.{IsStrictlySortedBy}
use Rattle.std.proofs.lemmas.List.Kept.{IsStrictlySortedBy-filter}
use Rattle.std.proofs.lemmas.Bool.{eqb-true}
use Rattle.systems.specs.System.{Arrow, IsArrow, System, arrow_cmp}
use Rattle.lts.proofs.Storing.{set_is, strict_set}
use Rattle.calculus.specs.Holds.{holds}
use Rattle.calculus.specs.NormalTree.{Shape, ConstantNode, JunctionNode, ModalityNode, FixpointNode, VariableNode}
use Rattle.game.specs.Arena.{place}
use Rattle.laws.proofs.Flags.{both, cases}
use Rattle.laws.proofs.Lists.{any_gives, filter_gives, gives_any}
use Rattle.evidence.specs.Witness.{HasArrows, KeepsStep}
use Rattle.evidence.specs.Laws.{ArrowsKeepSteps, PartsAreSystems}

filter_all : (P : Arrow → Type 0) (p : Arrow → Bool) (xs : List Arrow) → AllByRecursion P xs → AllByRecursion P (filter p xs)
filter_all P p [] h = tt
filter_all P p (y ∷ xs) h = elim (cases (p y)) [ inl e ↦ rw e (h.0, filter_all P p xs h.1) | inr e ↦ rw e (filter_all P p xs h.1) ]

pub parts_are_systems : PartsAreSystems
parts_are_systems l p is = (
  record {
    some = is.some;
    limit = is.limit;
    initial = is.initial;
    arrows = filter_all (IsArrow l.states) p l.arrows is.arrows;
    set = set_is (filter p l.arrows) (filter p l.arrows) (IsStrictlySortedBy-filter arrow_cmp p l.arrows
        (subst (IsStrictlySortedBy arrow_cmp) (sym is.set) (strict_set l.arrows))) (λ z h. h) (λ z h. h);
  },
  record { states = refl; initial = refl; arrows = λ a c. (filter_gives p l.arrows a c).0 },
)

keeps_step : (l part : System) (n s : ℕ) (sh : Shape) (u : ℕ) → HasArrows l part n s sh u → KeepsStep l part n s sh u
keeps_step l part n s (ConstantNode flag) u h = tt
keeps_step l part n s (JunctionNode flag a b) u h = tt
keeps_step l part n s (ModalityNode flag a child) u h = λ t at step. (
    let w = any_gives (λ (arrow : Arrow). arrow.source == s && arrow.target == t && holds a arrow.label) l.arrows step in
    let first = both (w.0.source == s && w.0.target == t) (holds a w.0.label) w.2 in
    let ends = both (w.0.source == s) (w.0.target == t) first.0 in
    let target : w.0.target ≡ t = eqb-true w.0.target t ends.1 in
    let c = h w.0 w.1 (eqb-true w.0.source s ends.0) (at ∙ ap (λ z. place n z child) (sym target)) first.1 in
    gives_any (λ (arrow : Arrow). arrow.source == s && arrow.target == t && holds a arrow.label) part.arrows w.0 c w.2)
keeps_step l part n s (FixpointNode flag a) u h = tt
keeps_step l part n s (VariableNode b) u h = tt

pub arrows_keep_steps : ArrowsKeepSteps
arrows_keep_steps l part nodes e set has = λ s k node u h at i go. keeps_step l part (length nodes) s node.shape u (has s k node u h at i go)
