-- The arrows so far, and all of them.
use Rattle.std.proofs.Common.{◌≡◌, ℕ, ◌<◌, Bool, false, ◌&&◌, ◌||◌, List, [], ◌∷◌, length, map, nat_eq, refl, subst, sym, ap, ◌∙◌, inl, inr}
use Rattle.std.specs.Prelude.{slice_set}
use Rattle.std.specs.List.{list_any}
use Rattle.std.proofs.lemmas.Bool.Decides.{eqb_tells}
use Rattle.std.proofs.lemmas.List.{get_or-set_other, get_or-set_same}
use Rattle.std.proofs.Math.Bool.{or-false}
use Rattle.meaning.proofs.Marked.{at}

-- one more arrow: its source is marked if it enters
pub one_more : (found : List Bool) (source s : ℕ) (any leads : Bool) → source < length found → at found s ≡ any
    → at (slice_set found source (at found source || leads)) s ≡ (any || (nat_eq source s && leads))
one_more found source s any leads h e =
    elim (eqb_tells source s) [
      | inl w ↦ subst (λ k. at (slice_set found source (at found source || leads)) k ≡ (any || (nat_eq source s && leads))) w.1
          (get_or-set_same found source (at found source || leads) false h ∙ ap (λ b. b || leads) (ap (at found) w.1 ∙ e)
          ∙ ap (λ b. any || (b && leads)) (sym w.0))
      | inr w ↦ get_or-set_other found source s (at found source || leads) false (λ q. w.1 (sym q)) ∙ (e ∙ sym (or-false any))
          ∙ ap (λ b. any || (b && leads)) (sym w.0)
    ]

-- the test of a list whose elements are mapped
pub any_of_map : {X Y : Type 0} (p : Y → Bool) (f : X → Y) (xs : List X) → list_any (λ x. p (f x)) xs ≡ list_any p (map f xs)
any_of_map p f [] = refl
any_of_map p f (x ∷ xs) = ap (λ b. p (f x) || b) (any_of_map p f xs)
