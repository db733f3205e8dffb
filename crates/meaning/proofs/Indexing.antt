-- One more step in the chains.
use Rattle.std.proofs.Common.{◌≡◌, ℕ, suc, ◌<◌, ◌≤◌, ◌⊎◌, ◌↔◌, Bool, true, false, ◌&&◌, ◌||◌, List, [], ◌∷◌, ◌++◌, length, length-append, nat_eq, refl, sym}
use Rattle.std.proofs.Common.{◌∙◌, ap, ap₂, subst, inl, inr, arith, true≢false}
use Rattle.std.specs.Prelude.{IsTrue, slice_set, slice_index_or}
use Rattle.std.proofs.Math.ListN.{length-set}
use Rattle.std.proofs.Math.Bool.{or-false}
use Rattle.std.proofs.lemmas.Bool.{eqb-true, eq-eqb}
use Rattle.std.proofs.lemmas.Bool.Decides.{eqb_tells}
use Rattle.std.proofs.lemmas.List.{get_or-set_other, get_or-set_same}
use Rattle.meaning.specs.declared.arrivals.Arrival.{Arrival}
use Rattle.meaning.specs.Arrivals.{arrival_at, IsOneOf, HasRoom}
use Rattle.meaning.proofs.Elements.{last_or_less}
use Rattle.meaning.proofs.Chains.{first_or_earlier, first, later, on, back, new_one, same_below}

module _ (n : ℕ) (last : List ℕ) (all : List Arrival) (room : HasRoom n last all) (source target : ℕ) (from : source < n) (into : target < n) (a : Arrival)
    (begins : a.source ≡ source) (before : a.earlier ≡ slice_index_or last target 0) where
  abbrev all' : List Arrival
  all' = all ++ a ∷ []

  abbrev last' : List ℕ
  last' = slice_set last target (suc (length all))

  longer : length all' ≡ suc (length all)
  longer = omega (arith, length-append all (a ∷ []))

  -- the chain of each state begins where it did, but for the target's
  begins_at : (t : ℕ) → ((target ≡ t) × (slice_index_or last' t 0 ≡ suc (length all)))
      ⊎ ((target ≡ t → ⊥) × (slice_index_or last' t 0 ≡ slice_index_or last t 0))
  begins_at t = elim (eqb_tells target t) [
    | inl w ↦ inl (
      w.1,
      subst (λ x. slice_index_or last' x 0 ≡ suc (length all)) w.1
          (get_or-set_same last target (suc (length all)) 0 (omega (arith, room.count))),
    )
    | inr w ↦ inr (w.1, get_or-set_other last target t (suc (length all)) 0 (λ q. w.1 (sym q)))
  ]

  pub room_more : HasRoom n last' all'
  room_more = record {
    count = simp length-set room.count;
    within = λ t lt. elim (begins_at t) [
      | inl w ↦ omega (arith, w.1, longer)
      | inr w ↦ omega (arith, w.1, longer, room.within t lt)
    ];
    earlier = λ i lt. elim (last_or_less i (length all) (omega (arith, longer))) [
      | inl m ↦ subst (λ (b : Arrival). b.earlier ≤ i) (sym (same_below all a room.earlier i m)) (room.earlier i m)
      | inr e ↦ subst (λ k. (arrival_at all' k).earlier ≤ k) (sym e)
          (subst (λ (b : Arrival). b.earlier ≤ length all) (sym (new_one all a room.earlier)) (omega (arith, before, room.within target into)))
    ];
    source = λ i lt. elim (last_or_less i (length all) (omega (arith, longer))) [
      | inl m ↦ subst (λ (b : Arrival). b.source < n) (sym (same_below all a room.earlier i m)) (room.source i m)
      | inr e ↦ subst (λ k. (arrival_at all' k).source < n) (sym e)
          (subst (λ (b : Arrival). b.source < n) (sym (new_one all a room.earlier)) (omega (arith, begins)))
    ];
  }

  -- from the new step one comes to it and to those that the target had
  at_target : (s : ℕ) → IsOneOf all' (suc (length all)) s ↔ (IsOneOf all (slice_index_or last target 0) s ⊎ (source ≡ s))
  at_target s = (
    λ h. elim (first_or_earlier all' (length all) s h) [
      | inl e ↦ inr (sym begins ∙ (sym (ap (λ (b : Arrival). b.source) (new_one all a room.earlier)) ∙ e))
      | inr more ↦ inl (back all a room.earlier (slice_index_or last target 0) s (room.within target into)
          (subst (λ k. IsOneOf all' k s) (ap (λ (b : Arrival). b.earlier) (new_one all a room.earlier) ∙ before) more))
    ],
    λ h. elim h [
      | inl more ↦ later all' (length all) s (subst (λ k. IsOneOf all' k s) (sym (ap (λ (b : Arrival). b.earlier) (new_one all a room.earlier) ∙ before))
          (on all a room.earlier (slice_index_or last target 0) s (room.within target into) more))
      | inr e ↦ first all' (length all) s (omega (arith, longer)) (ap (λ (b : Arrival). b.source) (new_one all a room.earlier) ∙ (begins ∙ e))
    ],
  )

  pub steps_more : (t s : ℕ) → t < n → IsOneOf all' (slice_index_or last' t 0) s ↔ (IsOneOf all (slice_index_or last t 0) s ⊎ ((source ≡ s) × (target ≡ t)))
  steps_more t s lt = elim (begins_at t) [
    | inl w ↦ (
      λ h. elim ((at_target s).0 (subst (λ k. IsOneOf all' k s) w.1 h))
          [ inl m ↦ inl (subst (λ x. IsOneOf all (slice_index_or last x 0) s) w.0 m) | inr e ↦ inr (e, w.0) ],
      λ h. subst (λ k. IsOneOf all' k s) (sym w.1) ((at_target s).1
          (elim h [ inl m ↦ inl (subst (λ x. IsOneOf all (slice_index_or last x 0) s) (sym w.0) m) | inr e ↦ inr e.0 ])),
    )
    | inr w ↦ (
      λ h. inl (back all a room.earlier (slice_index_or last t 0) s (room.within t lt) (subst (λ k. IsOneOf all' k s) w.1 h)),
      λ h. elim h [
        | inl m ↦ subst (λ k. IsOneOf all' k s) (sym w.1) (on all a room.earlier (slice_index_or last t 0) s (room.within t lt) m)
        | inr e ↦ absurd (w.0 e.1)
      ],
    )
  ]

-- the test of one more transition
pub told_chosen : (met holds : Bool) (source s target t : ℕ) (P : Type 0) → P ↔ IsTrue met → holds ≡ true → (P ⊎ ((source ≡ s) × (target ≡ t)))
    ↔ IsTrue (met || (nat_eq source s && (holds && nat_eq target t)))
told_chosen met false source s target t P h e = absurd (true≢false (sym e))
told_chosen true true source s target t P h e = (λ w. refl, λ w. inl (h.1 refl))
told_chosen false true source s target t P h e = (
  λ w. elim w [ inl p ↦ absurd (true≢false (sym (h.0 p))) | inr q ↦ ap₂ (λ a b. a && b) (eq-eqb source s q.0) (eq-eqb target t q.1) ],
  λ w. let both = split (nat_eq source s) (nat_eq target t) w in inr (eqb-true source s both.0, eqb-true target t both.1),
)
  where
    split : (a b : Bool) → (a && b) ≡ true → (a ≡ true) × (b ≡ true)
    split true b e = (refl, e)
    split false b e = absurd (true≢false (sym e))

pub told_other : (met holds : Bool) (source s target t : ℕ) → holds ≡ false → (met || (nat_eq source s && (holds && nat_eq target t))) ≡ met
told_other met true source s target t e = absurd (true≢false e)
told_other met false source s target t e = ap (λ b. met || b) (none (nat_eq source s)) ∙ or-false met
  where
    none : (b : Bool) → (b && false) ≡ false
    none true = refl
    none false = refl
