-- Which arrows enter a set that a test tells.
use Rattle.std.proofs.Common.{◌≡◌, ℕ, ◌↔◌, Bool, true, ◌&&◌, nat_eq, refl, subst, ap, ◌∙◌}
use Rattle.std.specs.Prelude.{IsTrue, Contains}
use Rattle.std.specs.List.{list_any, Any}
use Rattle.std.proofs.lemmas.Bool.{and_parts, eqb-true, eq-eqb}
use Rattle.std.proofs.lemmas.List.Folds.{Any-from_list_any, list_any-from_Any}
use Rattle.systems.specs.System.{Arrow, System}
use Rattle.calculus.specs.Tree.{Action, Step}
use Rattle.calculus.specs.Holds.{holds}
use Rattle.calculus.specs.Meaning.{Leads}

-- the arrow leads from s by the action into the set
abbrev pub enters : Action → (ℕ → Bool) → ℕ → Arrow → Bool
enters act u s a = nat_eq a.source s && (holds act a.label && u a.target)

-- some arrow enters where the step leads into the set
pub enters_leads : (l : System) (act : Action) (u : ℕ → Bool) (s : ℕ) → IsTrue (list_any (enters act u s) l.arrows)
    ↔ ((t : ℕ) × Leads l (Step act) s t × IsTrue (u t))
enters_leads l act u s = (λ e. there (Any-from_list_any (enters act u s) l.arrows e), λ w. list_any-from_Any (enters act u s) l.arrows (back w))
  where
    there : Any (λ a. enters act u s a ≡ true) l.arrows → (t : ℕ) × Leads l (Step act) s t × IsTrue (u t)
    there (k, a, h, q, e) =
        let one = and_parts (nat_eq a.source s) (holds act a.label && u a.target) e in
        let two = and_parts (holds act a.label) (u a.target) one.1 in (
          a.target,
          (
            a.label,
            subst (λ x. Contains l.arrows (record { source = x; label = a.label; target = a.target })) (eqb-true a.source s one.0)
                (k, h, q),
            two.0,
          ),
          two.1,
        )

    back : ((t : ℕ) × Leads l (Step act) s t × IsTrue (u t)) → Any (λ a. enters act u s a ≡ true) l.arrows
    back (t, (label, (k, h, q), it), m) = (
      k,
      record { source = s; label = label; target = t },
      h,
      q,
      ap (λ b. b && (holds act label && u t)) (eq-eqb s s refl) ∙ ap (λ b. b && u t) it ∙ m,
    )
