-- What lines are made of.
use Rattle.std.proofs.Common.{◌≡◌, ℕ, zero, suc, ◌≤◌, ◌<◌, List, [], ◌∷◌, ◌++◌, length, map, refl, ◌∙◌, arith, append_assoc, codes}
use Rattle.std.proofs.Common.{Some, get_or}
use Rattle.std.specs.Prelude.{◌==◌, decimal, filter, slice_get}
use Rattle.std.specs.List.{AllByRecursion}
use Rattle.std.proofs.lemmas.Bool.Decides.{nat_tests}
use Rattle.text.specs.Pieces.{line_end}
use Rattle.systems.specs.System.{Arrow, IsArrow, System}
use Rattle.calculus.specs.Nodes.{Node}
use Rattle.why.specs.Everywhere.{state_of}
use Rattle.why.specs.Story.{blanks_before, reason_text, stop_text}
use Rattle.why.specs.declared.visit.Continuation.{Continuation}

-- From a number that is no state no transition leads.
pub none_from : (n s : ℕ) (arrows : List Arrow) → AllByRecursion (IsArrow n) arrows → n ≤ s → filter (λ (a : Arrow). a.source == s) arrows ≡ []
none_from n s [] all le = refl
none_from n s (a ∷ arrows) all le = let lt = all.0.source in let rest = none_from n s arrows all.1 le in grind (arith, nat_tests)

-- Two lists have the same values at each place.
pub same_maps : {X Y Z : Type 0} (f : X → Z) (g : Y → Z) (xs : List X) (ys : List Y) (i : ℕ) (x : X) → map f xs ≡ map g ys → i < length ys
    → (y : Y) × (slice_get ys i ≡ Some y) × (f (get_or xs i x) ≡ g y)
same_maps f g xs [] i x same lt = absurd (omega arith)
same_maps f g [] (y ∷ ys) i x same lt = absurd cc
same_maps f g (z ∷ xs) (y ∷ ys) zero x same lt = (y, refl, cc)
same_maps f g (z ∷ xs) (y ∷ ys) (suc i) x same lt = (let e : map f xs ≡ map g ys = cc in same_maps f g xs ys i x e (omega arith))

-- the line of a run that ends
pub stop_is : (l : System) (nodes : List Node) (v blanks number : ℕ) (space : List ℕ) (kind : Continuation) → space ≡ blanks_before blanks
    → number ≡ state_of (length nodes) v
    → (space ++ (decimal number ++ codes ": ")) ++ (reason_text l nodes v kind ++ line_end) ≡ stop_text l nodes v blanks kind
stop_is l nodes v blanks number space kind e_space e_number =
    (λ j. (e_space j ++ (decimal (e_number j) ++ codes ": ")) ++ (reason_text l nodes v kind ++ line_end))
    ∙ joined (blanks_before blanks) (decimal (state_of (length nodes) v)) (codes ": ") (reason_text l nodes v kind ++ line_end)
  where
    joined : (a b c d : List ℕ) → (a ++ (b ++ c)) ++ d ≡ a ++ (b ++ (c ++ d))
    joined a b c d = simp append_assoc
