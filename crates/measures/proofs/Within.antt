-- Counts within their bounds.
use Rattle.measures.proofs.Common.{◌≡◌, ◌↔◌, ◌<◌, ◌≤◌, ℕ, suc, false, Bool, IsTrue, List, [], ◌∷◌, length, map, ◌∙◌, arith, refl, subst, sym, slice_index}
use Rattle.measures.proofs.Common.{true≢false, AllZip, Game, count, Measure, Top, Counts, IsMeasure, components, bounds, counts_of}

abbrev AreWithin : List ℕ → List ℕ → Type 0
AreWithin cs bs = AllZip (λ count bound. count ≤ bound) cs bs

pub within_from : (cs bs : List ℕ) → length cs ≡ length bs → ((i : ℕ) → i < length cs → slice_index cs i ≤ slice_index bs i)
    → AllZip (λ count bound. count ≤ bound) cs bs
within_from [] [] e h = tt
within_from [] (b ∷ bs) e h = absurd (omega arith)
within_from (c ∷ cs) [] e h = absurd (omega arith)
within_from (c ∷ cs) (b ∷ bs) e h = (h 0 (omega arith), within_from cs bs (omega arith) (λ i l. h (suc i) (omega arith)))

pub to_bounds : (f : ℕ → ℕ) (cs ps : List ℕ) → AllZip (λ k p. k ≤ f p) cs ps → AreWithin cs (map f ps)
to_bounds f [] [] h = tt
to_bounds f [] (p ∷ ps) h = absurd h
to_bounds f (c ∷ cs) [] h = absurd h
to_bounds f (c ∷ cs) (p ∷ ps) h = (h.0, to_bounds f cs ps h.1)

from_bounds : (f : ℕ → ℕ) (cs ps : List ℕ) → AreWithin cs (map f ps) → AllZip (λ k p. k ≤ f p) cs ps
from_bounds f [] [] h = tt
from_bounds f [] (p ∷ ps) h = absurd h
from_bounds f (c ∷ cs) [] h = absurd h
from_bounds f (c ∷ cs) (p ∷ ps) h = (h.0, from_bounds f cs ps h.1)

-- a measure is one of the game's where its counts are within the bounds
pub measure_within : (g : Game) (m : Measure) (cs limits : List ℕ) (b top : Bool) → top ≡ false → (m ≡ Top → IsTrue top) → cs ≡ counts_of m → limits ≡ bounds g
    → (IsTrue b ↔ AllZip (λ count bound. count ≤ bound) cs limits) → IsTrue b ↔ IsMeasure g m
measure_within g Top cs limits b top e n c l h = absurd (true≢false (sym (n refl) ∙ e))
measure_within g (Counts ds) cs limits b top e n c l h = (
  (λ i. from_bounds (count g) ds (components g) (subst (λ (xs : List ℕ). AreWithin ds xs) l (subst (λ (xs : List ℕ). AreWithin xs limits) c (h.0 i)))),
  (λ i. h.1 (subst (λ (xs : List ℕ). AreWithin xs limits) (sym c)
      (subst (λ (xs : List ℕ). AreWithin ds xs) (sym l) (to_bounds (count g) ds (components g) i)))),
)
