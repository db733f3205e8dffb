-- An event comes to one state only.
use Rattle.std.proofs.Common.{◌≡◌, ℕ, Bool, true, false, List, [], ◌∷◌, refl, sym, ◌∙◌, ap, ap₂, subst, Some}
use Rattle.std.specs.List.{AllZip}
use Rattle.std.proofs.lemmas.Option.{same_Some}
use Rattle.game.specs.Game.{Vertex, vertex}
use Rattle.measures.specs.Measure.{Measure}
use Rattle.measures.specs.Progress.{IsLift}
use Rattle.game.specs.NumberSet.{with_number}
use Rattle.liftcore.specs.Core.{with_note, without, Core, Note, Holding, Owing, noted, owing}
use Rattle.liftcore.specs.Step.{Does, LiftsHeld, Step, after_raise, value_in, with_pending, with_worker}
use Rattle.liftcore.specs.declared.event.Event.{Event}
use Rattle.liftcore.specs.declared.event.Event.TheVariants.{Take, Read, Raise, Push}
use Rattle.liftcore.proofs.Notes.{holds_same, noted_or, owes_same, zip_noted}
use Rattle.liftcore.proofs.Raising.{lift_same}

one_read : (notes : List Note) (ts : List ℕ) (values others : List Measure) → AllZip (λ t m. noted notes t ≡ Some m) ts values
    → AllZip (λ t m. noted notes t ≡ Some m) ts others → values ≡ others
one_read notes [] [] [] h i = refl
one_read notes [] [] (n ∷ ns) h i = absurd i
one_read notes [] (m ∷ ms) others h i = absurd h
one_read notes (t ∷ ts) [] others h i = absurd h
one_read notes (t ∷ ts) (m ∷ ms) [] h i = absurd i
one_read notes (t ∷ ts) (m ∷ ms) (n ∷ ns) h i = ap₂ (λ y ys. y ∷ ys) (same_Some m n (sym h.0 ∙ i.0)) (one_read notes ts ms ns h.1 i.1)

-- what a worker lifts from its notes is one measure
one_lifted : (old : Core) (u : ℕ) (notes : List Note) (x y : Vertex) (values others : List Measure) (r s : Measure) → vertex old.table.game u ≡ Some x
    → vertex old.table.game u ≡ Some y
    → AllZip (λ t m. noted notes t ≡ Some m) x.successors values → AllZip (λ t m. noted notes t ≡ Some m) y.successors others
    → IsLift old.table.game x (value_in old u) values r → IsLift old.table.game y (value_in old u) others s → r ≡ s
one_lifted old u notes x y values others r s at is read more lift lifts =
    let e : y ≡ x = same_Some y x (sym is ∙ at) in
    let more' = subst (λ (z : Vertex). AllZip (λ t m. noted notes t ≡ Some m) z.successors others) e more in
    let q = one_read notes x.successors others values more' read in
    let lifts' = subst (λ (z : Vertex). IsLift old.table.game z (value_in old u) others s) e lifts in
    let lifts'' = subst (λ ms. IsLift old.table.game x (value_in old u) ms s) q lifts' in
    lift_same old.table.game x (value_in old u) r s (noted_or notes (value_in old)) values
    (zip_noted notes (value_in old) x.successors values read) lift lifts''

raises_same : (old new other : Core) (w : ℕ) → LiftsHeld old w new → LiftsHeld old w other → new ≡ other
raises_same old new other w d e =
    let same = holds_same e.u d.u e.notes d.notes (same_Some (Holding e.u e.notes) (Holding d.u d.notes) (sym e.holds ∙ d.holds)) in
    let at = subst (λ (k : ℕ). vertex old.table.game k ≡ Some e.x) same.0 e.held in
    let read = subst (λ (ns : List Note). AllZip (λ t m. noted ns t ≡ Some m) e.x.successors e.values) same.1 e.read in
    let lift = subst (λ (k : ℕ). IsLift old.table.game e.x (value_in old k) e.values e.lifted) same.0 e.lift in
    let q = one_lifted old d.u d.notes d.x e.x d.values e.values d.lifted e.lifted d.held at d.read read d.lift lift in
    d.effect ∙ (ap₂ (λ (k : ℕ) (m : Measure). after_raise old w k m) (sym same.0) q ∙ sym e.effect)

does_same : (old new other : Core) (event : Event) → Does old event new → Does old event other → new ≡ other
does_same old new other (Take w v) d e = d.effect ∙ sym e.effect
does_same old new other (Read w v) d e =
    let same = holds_same d.u e.u d.notes e.notes (same_Some (Holding d.u d.notes) (Holding e.u e.notes) (sym d.holds ∙ e.holds)) in
    d.effect ∙ (ap₂ (λ (k : ℕ) (ns : List Note). with_worker old w (Holding k (with_note (record { vertex = v; value = value_in old v }) ns))) same.0 same.1
    ∙ sym e.effect)
does_same old new other (Raise w) d e = raises_same old new other w d e
does_same old new other (Push w v) d e =
    let same = owes_same d.owed e.owed (same_Some (Owing d.owed) (Owing e.owed) (sym d.owes ∙ e.owes)) in
    d.effect ∙ (ap (λ (os : List ℕ). with_worker (with_pending old (with_number v old.pending)) w (owing (without v os))) same ∙ sym e.effect)

pub one_step : (old new other : Core) (event : Event) (done did : Bool) → Step old event done new → Step old event did other → (done ≡ did) × (new ≡ other)
one_step old new other event true true d e = (refl, does_same old new other event d e)
one_step old new other event true false d e = absurd (e.nothing new d)
one_step old new other event false true d e = absurd (d.nothing other e)
one_step old new other event false false d e = (refl, d.same ∙ sym e.same)
