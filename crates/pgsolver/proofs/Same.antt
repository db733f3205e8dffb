-- Lists of numbers with the same set.
use Rattle.std.proofs.Common.{◌≡◌, ℕ, inl, inr, Bool, true, false, cond, ◌==◌, ◌||◌, List, [], ◌∷◌, ◌++◌, length, refl, sym, ap, ◌∙◌}
use Rattle.std.proofs.Common.{subst, arith}
use Rattle.std.specs.Prelude.{nat_lt}
use Rattle.std.proofs.lemmas.Bool.{eqb-true}
use Rattle.systems.proofs.Ordered.{Has}
use Rattle.game.specs.NumberSet.{with_number, number_set}
use Rattle.pgsolver.specs.Left.{has_far}
use Rattle.pgsolver.proofs.Placing.{has_at, has_left, has_end, at_end}
use Rattle.pgsolver.proofs.Sets.{up_unique, up_set, set_up, has_set, set_has, set_some}

-- what stands in both alike makes one set
set_same : (xs ys : List ℕ) → ((z : ℕ) → Has xs z → Has ys z) → ((z : ℕ) → Has ys z → Has xs z) → number_set xs ≡ number_set ys
set_same xs ys to from = up_unique 0 (number_set xs) (number_set ys) (set_up xs) (set_up ys) (λ z h. set_has z ys (to z (has_set z xs h)))
    (λ z h. set_has z xs (from z (has_set z ys h)))

has_same : (xs ys : List ℕ) → number_set xs ≡ number_set ys → (z : ℕ) → Has xs z → Has ys z
has_same xs ys e z h = has_set z ys (subst (λ s. Has s z) e (set_has z xs h))

-- one more number in both
pub set_push : (xs ys : List ℕ) (v : ℕ) → number_set xs ≡ number_set ys → number_set (xs ++ v ∷ []) ≡ number_set (ys ++ v ∷ [])
set_push xs ys v e = set_same (xs ++ v ∷ []) (ys ++ v ∷ []) (pushed xs ys e) (pushed ys xs (sym e))
  where
    pushed : (us ws : List ℕ) → number_set us ≡ number_set ws → (z : ℕ) → Has (us ++ v ∷ []) z → Has (ws ++ v ∷ []) z
    pushed us ws e z h =
        elim (has_end us v z h) [
          | inl k ↦ has_left ws (v ∷ []) z (has_same us ws e z k)
          | inr is ↦ subst (Has (ws ++ v ∷ [])) is (has_at (ws ++ v ∷ []) (length ws) v (at_end ws v))
        ]

-- a set is its own set
pub set_twice : (xs : List ℕ) → number_set (number_set xs) ≡ number_set xs
set_twice xs = up_set 0 (number_set xs) (set_up xs)

-- a set is empty only of nothing
pub set_none : (xs : List ℕ) → number_set xs ≡ [] → xs ≡ []
set_none [] e = refl
set_none (t ∷ ts) e = absurd (omega (arith, set_some t ts, ap length e))

or_twice : (a b : Bool) → (a || (a || b)) ≡ (a || b)
or_twice true b = refl
or_twice false b = refl

or_swap : (a b c : Bool) → (a || (b || c)) ≡ (b || (a || c))
or_swap true true c = refl
or_swap true false c = refl
or_swap false b c = refl

far_with : (n t : ℕ) (xs : List ℕ) → has_far n (with_number t xs) ≡ (nat_lt n t || has_far n xs)
far_with n t [] = refl
far_with n t (u ∷ us) =
    elim (nat_lt t u) as (λ b. has_far n (cond b (t ∷ u ∷ us) (cond (t == u) (u ∷ us) (u ∷ with_number t us))) ≡ (nat_lt n t || has_far n (u ∷ us))) [
      | true ↦ refl
      | false ↦ elim (t == u) as (λ b. (t == u) ≡ b → has_far n (cond b (u ∷ us) (u ∷ with_number t us)) ≡ (nat_lt n t || has_far n (u ∷ us))) [
        | true ↦ λ e. sym (ap (λ v. nat_lt n v || has_far n (u ∷ us)) (eqb-true t u e) ∙ or_twice (nat_lt n u) (has_far n us))
        | false ↦ λ _. ap (λ b. nat_lt n u || b) (far_with n t us) ∙ or_swap (nat_lt n u) (nat_lt n t) (has_far n us)
      ] refl
    ]

-- a number is too great in a set as in the list
pub far_set : (n : ℕ) (xs : List ℕ) → has_far n (number_set xs) ≡ has_far n xs
far_set n [] = refl
far_set n (t ∷ ts) = far_with n t (number_set ts) ∙ ap (λ b. nat_lt n t || b) (far_set n ts)
