-- Vertices that are read one after another.
use Rattle.std.proofs.Common.{◌≡◌, ℕ, ◌+◌, ◌<◌, List, [], ◌∷◌, ◌++◌, ap, arith, below_more, length, refl, subst, sym, ◌∙◌}
use Rattle.std.proofs.Math.ListN.{get_or-append}
use Rattle.std.proofs.Math.Seq.{get_or-append_seam}
use Rattle.std.proofs.lemmas.List.{map-id}
use Rattle.std.proofs.lemmas.List.FromFn.{map-range_with_len_more, length-range_with_len}
use Rattle.std.specs.List.{range_with_len}
use Rattle.measures.specs.Measure.{IsAtMost, Measure, Top}
use Rattle.measures.specs.Progress.{LiesUnder, value_at}
use Rattle.measures.proofs.Measures.{at_most_trans}
use Rattle.tables.specs.Turns.{reads}
use Rattle.tables.specs.declared.access.Access.{Access}
use Rattle.tables.specs.declared.access.Access.TheVariants.{Read}

-- one more is read
pub reads_next : (ts : List ℕ) (ms : List Measure) (t : ℕ) (m : Measure) → length ms ≡ length ts
    → reads (ts ++ t ∷ []) (ms ++ m ∷ []) ≡ reads ts ms ++ Read t m ∷ []
reads_next [] [] t m e = refl
reads_next [] (n ∷ ms) t m e = absurd (omega (arith, e))
reads_next (u ∷ ts) [] t m e = absurd (omega (arith, e))
reads_next (u ∷ ts) (n ∷ ms) t m e = ap (λ (xs : List Access). Read u n ∷ xs) (reads_next ts ms t m (omega (arith, e)))

pub range_next : (a n b : ℕ) → a + n ≡ b → range_with_len a (n + 1) ≡ range_with_len a n ++ b ∷ []
range_next a n b e =
    sym (map-id (range_with_len a (n + 1))) ∙ (map-range_with_len_more (λ (k : ℕ). k) a n b e ∙ ap (λ (ks : List ℕ). ks ++ b ∷ []) (map-id (range_with_len a n)))

-- the first vertices were read, and one more
pub first_reads_next : (v : ℕ) (values : List Measure) (m : Measure) → length values ≡ v
    → reads (range_with_len 0 v) values ++ Read v m ∷ [] ≡ reads (range_with_len 0 (v + 1)) (values ++ m ∷ [])
first_reads_next v values m long =
    sym (ap (λ (ts : List ℕ). reads ts (values ++ m ∷ [])) (range_next 0 v v (omega arith))
    ∙ reads_next (range_with_len 0 v) values v m (long ∙ sym (length-range_with_len 0 v)))

-- a table that has at least the first values that were read, and rose since, has at least one more
pub over_next : (values old new : List Measure) (v : ℕ) (m : Measure) → length values ≡ v → ((u : ℕ) → u < v → IsAtMost (value_at values u) (value_at old u))
    → LiesUnder old new → IsAtMost m (value_at new v)
    → (u : ℕ) → u < v + 1 → IsAtMost (value_at (values ++ m ∷ []) u) (value_at new u)
over_next values old new v m long over kept here = below_more (λ u. IsAtMost (value_at (values ++ m ∷ []) u) (value_at new u)) v
    (λ u lt. subst (λ (n : Measure). IsAtMost n (value_at new u)) (sym (get_or-append values (m ∷ []) Top u (omega (arith, lt, long))))
    (at_most_trans (value_at values u) (value_at old u) (value_at new u) (over u lt) (kept u)))
    (subst (λ (n : Measure). IsAtMost n (value_at new v)) (sym last) here)
  where
    last : value_at (values ++ m ∷ []) v ≡ m
    last = ap (value_at (values ++ m ∷ [])) (sym long) ∙ get_or-append_seam values m [] Top
