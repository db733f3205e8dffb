-- The table that lifting begins with.
use Rattle.measures.proofs.Common.{◌≡◌, ℕ, zero, suc, ◌+◌, ◌≤◌, Bool, true, false, ◌&&◌, if◌then◌else◌, List, [], ◌∷◌, length, map, refl, sym, ap, subst, ◌∙◌}
use Rattle.measures.proofs.Common.{inl, inr, arith, Contains, Some, nat_eq, slice_get, slice_index_or, AllByRecursion, same_text, get_or_past, length-map}
use Rattle.measures.proofs.Common.{AllZip-long, slice_get_cases, Player, Even, Odd, Vertex, Game, vertex, IsGame, count, Measure, Top, Counts, components}
use Rattle.measures.proofs.Common.{IsMeasure, IsAtMost, Reaches, is_odd, kept, IsProgress, IsTable, value_at, zeros, opening, opening_value, opening_from}
use Rattle.measures.proofs.Common.{and_parts}
use lib.Pointwise.{pointwise}
use Rattle.measures.proofs.Lists.{contains_first, contains_none, contains_cases}
use Rattle.measures.proofs.Order.{Over, not_over_itself, whole_to}
use Rattle.measures.proofs.Measures.{none_bounded, none_least, over_reaches, at_most_itself, at_most_top}
use Rattle.measures.proofs.Lifts.{even_reaches, odd_reaches, value_measure}
use Rattle.measures.proofs.Monotone.{LiesUnder}

pub zeros_least : (g : Game) (m : Measure) → IsMeasure g m → IsAtMost (zeros g) m
zeros_least g Top h = refl
zeros_least g (Counts c) h =
    let ps = components g in
    whole_to false (length ps) (map (λ p. 0) ps) c (let l = length-map {B = ℕ} ps (λ p. 0) in omega (arith, l))
    (omega (arith, AllZip-long (λ k q. k ≤ count g q) c ps h)) (none_least (count g) ps c h)

opening_measure : (g : Game) (v : ℕ) (x : Vertex) → IsMeasure g (opening_value g v x)
opening_measure g v x = by (is_odd x.priority && pointwise nat_eq x.successors (v ∷ []))
  where
    by : (b : Bool) → IsMeasure g (if b then Top else zeros g)
    by true = tt
    by false = none_bounded (count g) (components g)

opening_long : (g : Game) (v : ℕ) (xs : List Vertex) → length (opening_from g v xs) ≡ length xs
opening_long g v [] = refl
opening_long g v (x ∷ xs) = ap suc (opening_long g (v + 1) xs)

opening_all : (g : Game) (v : ℕ) (xs : List Vertex) → AllByRecursion (IsMeasure g) (opening_from g v xs)
opening_all g v [] = tt
opening_all g v (x ∷ xs) = (opening_measure g v x, opening_all g (v + 1) xs)

pub opening_table : (g : Game) → IsTable g (opening g)
opening_table g = (opening_long g 0 g.vertices, opening_all g 0 g.vertices)

pub opening_at : (g : Game) (n : ℕ) (xs : List Vertex) (i : ℕ) (x : Vertex) → slice_get xs i ≡ Some x
    → slice_index_or (opening_from g n xs) i Top ≡ opening_value g (n + i) x
opening_at g n [] i x e = absurd cc
opening_at g n (y ∷ ys) zero x e = let q : y ≡ x = cc in let m : n ≡ n + 0 = omega arith in ap (opening_value g n) q ∙ ap (λ k. opening_value g k x) m
opening_at g n (y ∷ ys) (suc i) x e = let m : (n + 1) + i ≡ n + suc i = omega arith in opening_at g (n + 1) ys i x e ∙ ap (λ k. opening_value g k x) m

-- a measure doesn't reach itself at an odd priority, unless it is top
itself_top : (g : Game) (p : ℕ) (m : Measure) → is_odd p ≡ true → Reaches g p m m → m ≡ Top
itself_top g p Top odd r = refl
itself_top g p (Counts c) odd r = absurd (not_over_itself (kept g p) c (subst (λ b. Over b (kept g p) c c) odd (over_reaches g p c c r)))

module _ (g : Game) (game : IsGame g) (table : List Measure) (is : IsProgress g table) where
  loops : (v : ℕ) (x : Vertex) → vertex g v ≡ Some x → x.successors ≡ v ∷ [] → (o : Player) → x.owner ≡ o
      → Reaches g x.priority (value_at table v) (value_at table v)
  loops v x at only Even own =
      let r = even_reaches g table game is v x at own in
      let t : v ≡ r.0 = elim (contains_cases v r.0 [] (subst (λ ts. Contains ts r.0) only r.1.successor))
      [ inl e ↦ e | inr d ↦ absurd (contains_none r.0 d) ] in
      subst (λ u. Reaches g x.priority (value_at table u) (value_at table v)) (sym t) r.2
  loops v x at only Odd own = odd_reaches g table game is v x at own v (subst (λ ts. Contains ts v) (sym only) (contains_first v []))

  under_value : (v : ℕ) (x : Vertex) → vertex g v ≡ Some x → IsAtMost (opening_value g v x) (value_at table v)
  under_value v x at = by (is_odd x.priority && pointwise nat_eq x.successors (v ∷ [])) refl
    where
      by : (b : Bool) → (is_odd x.priority && pointwise nat_eq x.successors (v ∷ [])) ≡ b → IsAtMost (if b then Top else zeros g) (value_at table v)
      by true e =
          let w = and_parts (is_odd x.priority) (pointwise nat_eq x.successors (v ∷ [])) e in
          let top = itself_top g x.priority (value_at table v) w.0 (loops v x at (same_text x.successors (v ∷ []) (sym w.1)) x.owner refl) in
          subst (λ m. IsAtMost Top m) (sym top) (at_most_itself Top)
      by false e = zeros_least g (value_at table v) (value_measure g table is.0.1 v)

  -- the opening table lies under each progress table
  pub opening_under : LiesUnder (opening g) table
  opening_under v = elim ((slice_get_cases g.vertices v).1) [
    | inl w ↦ subst (λ m. IsAtMost m (value_at table v)) (sym (opening_at g 0 g.vertices v w.0 w.2) ∙ refl) (shift w.0 w.2)
    | inr w ↦ subst (λ m. IsAtMost (value_at (opening g) v) m) (sym (get_or_past table v Top (let l = w.0 in omega (arith, l, is.0.0))))
        (at_most_top (value_at (opening g) v))
  ]
    where
      shift : (x : Vertex) → vertex g v ≡ Some x → IsAtMost (opening_value g (0 + v) x) (value_at table v)
      shift x at = let q : v ≡ 0 + v = omega arith in subst (λ k. IsAtMost (opening_value g k x) (value_at table v)) q (under_value v x at)
