-- No vertex is won by both: both strategies together run into a cycle.
use Rattle.measures.proofs.Common.{◌≡◌, ◌≢◌, ℕ, zero, suc, ◌+◌, ◌%◌, ◌<◌, ◌≤◌, ◌⊎◌, true, List, [], ◌∷◌, ◌++◌, length, refl, sym, subst, ◌∙◌, inl, inr, arith}
use Rattle.measures.proofs.Common.{IsTrue, Some, get_or, AllByRecursion, range_with_len, eqb_tells, count_by-le-length, slice_get_cases, slice_get-get_or}
use Rattle.measures.proofs.Common.{length-range_with_len, IsPath, Player, Even, Odd, Vertex, Game, vertex, Edge, Wins, OddWins, greatest_met}
use Rattle.measures.proofs.Lists.{all_weaker}
use Rattle.measures.proofs.Distinct.{Apart, PassesAt, apart_count}

-- a path with a weaker relation
pub path_weaker : (R S : ℕ → ℕ → Type 0) → ((u t : ℕ) → R u t → S u t) → (u : ℕ) (others : List ℕ) (t : ℕ) → IsPath R u others t → IsPath S u others t
path_weaker R S f u [] t p = p
path_weaker R S f u (m ∷ others) t p = (f u m p.0, path_weaker R S f m others t p.1)

-- one step more
pub path_on : (R : ℕ → ℕ → Type 0) (u : ℕ) (others : List ℕ) (m t : ℕ) → IsPath R u others m → R m t → IsPath R u (others ++ t ∷ []) t
path_on R u [] m t p r = (subst (λ x. R x t) (sym p) r, refl)
path_on R u (n ∷ others) m t p r = (p.0, path_on R n others m t p.1 r)

not_empty : (xs : List ℕ) (x : ℕ) → xs ++ x ∷ [] ≢ []
not_empty [] x e = cc
not_empty (y ∷ ys) x e = cc

-- it is new, or has what all of these have
new_or : (P : ℕ → Type 0) (u : ℕ) (xs : List ℕ) → AllByRecursion P xs → AllByRecursion (λ y. u ≢ y) xs ⊎ P u
new_or P u [] h = inl tt
new_or P u (x ∷ xs) h = elim (eqb_tells u x) [
  | inl w ↦ inr (subst P (sym w.1) h.0)
  | inr w ↦ elim (new_or P u xs h.1) [ inl n ↦ inl (w.1, n) | inr p ↦ inr p ]
]

-- A relation by which one can always go on, on numbers below n, has a cycle.
module _ (R : ℕ → ℕ → Type 0) (In : ℕ → Type 0) (n : ℕ) (below : (u : ℕ) → In u → u < n) (on : (u : ℕ) → In u → (t : ℕ) × R u t × In t) where
  pub record Cycle : Type 0 where
    pub at : ℕ
    pub is_in : In at
    pub others : List ℕ
    pub some : others ≢ []
    pub path : IsPath R at others at

  -- one came from x to u by a step at least
  record From (u x : ℕ) : Type 0 where
    is_in : In x
    others : List ℕ
    some : others ≢ []
    path : IsPath R x others u

  further : (u t x : ℕ) → R u t → From u x → From t x
  further u t x r f = record { is_in = f.is_in; others = f.others ++ t ∷ []; some = not_empty f.others t; path = path_on R x f.others u t f.path r }

  few : (seen : List ℕ) → Apart seen → AllByRecursion (λ x. x < n) seen → length seen ≤ n
  few seen a h =
      let ns = range_with_len 0 n in
      let long : length ns ≡ n = length-range_with_len 0 n in
      let c = apart_count (λ x. true) ns seen a (all_weaker (λ x. x < n) (PassesAt (λ x. true) ns) seen
      (λ x l. (get_or ns x 0, slice_get-get_or ns x 0 (omega (arith, l, long)), refl)) h) in
      omega (arith, c, long, count_by-le-length (λ x. true) ns)

  walk : (fuel u : ℕ) (seen : List ℕ) → n < fuel + length seen → In u → Apart seen → AllByRecursion (From u) seen → Cycle
  walk zero u seen h i a f = (let l = few seen a (all_weaker (From u) (λ x. x < n) seen (λ x w. below x w.is_in) f) in absurd (omega arith))
  walk (suc fuel) u seen h i a f = elim (new_or (From u) u seen f) [
    | inl new ↦ (
        let step = on u i in
        walk fuel step.0 (u ∷ seen) (omega arith) step.2 (new, a) (
          record { is_in = i; others = step.0 ∷ []; some = (λ e. cc); path = (step.1, refl) },
          all_weaker (From u) (From step.0) seen (λ x. further u step.0 x step.1) f,
        ))
    | inr c ↦ record { at = u; is_in = i; others = c.others; some = c.some; path = c.path }
  ]

  pub cycle : (u : ℕ) → In u → Cycle
  cycle u i = walk (suc n) u [] (omega arith) i tt tt

module _ (g : Game) (v : ℕ) (w : Wins g v) (o : OddWins g v) where
  abbrev In : ℕ → Type 0
  In u = IsTrue (w.set u) × IsTrue (o.set u)

  abbrev Both : ℕ → ℕ → Type 0
  Both u t = Edge Even g w.choice u t × Edge Odd g o.choice u t

  go : (u : ℕ) (x : Vertex) (p : Player) → In u → vertex g u ≡ Some x → x.owner ≡ p → (t : ℕ) × Both u t × In t
  go u x Even i at own =
      let c = w.strategy.own u x i.0 at own in
      let even : Edge Even g w.choice u (w.choice u) = (x, at, inl (own, refl)) in
      let odd : Edge Odd g o.choice u (w.choice u) = (x, at, inr ((λ q. let e : Even ≡ Odd = sym own ∙ q in absurd cc), c)) in
      (w.choice u, (even, odd), (w.strategy.closed u (w.choice u) i.0 even, o.strategy.closed u (w.choice u) i.1 odd))
  go u x Odd i at own =
      let c = o.strategy.own u x i.1 at own in
      let odd : Edge Odd g o.choice u (o.choice u) = (x, at, inl (own, refl)) in
      let even : Edge Even g w.choice u (o.choice u) = (x, at, inr ((λ q. let e : Odd ≡ Even = sym own ∙ q in absurd cc), c)) in
      (o.choice u, (even, odd), (w.strategy.closed u (o.choice u) i.0 even, o.strategy.closed u (o.choice u) i.1 odd))

  on : (u : ℕ) → In u → (t : ℕ) × Both u t × In t
  on u i = elim ((slice_get_cases g.vertices u).1) [
    | inl y ↦ go u y.0 y.0.owner i y.2 refl
    | inr z ↦ (let l = z.0 in let h = w.strategy.inside u i.0 in absurd (omega arith))
  ]

  pub not_both_win : ⊥
  not_both_win =
      let c = cycle Both In (length g.vertices) (λ u i. w.strategy.inside u i.0) on v (w.has, o.has) in
      let even : greatest_met g c.others % 2 ≡ 0 = w.strategy.cycles c.at c.others c.is_in.0 c.some
      (path_weaker Both (Edge Even g w.choice) (λ u t b. b.0) c.at c.others c.at c.path) in
      let odd : greatest_met g c.others % 2 ≡ 1 = o.strategy.cycles c.at c.others c.is_in.1 c.some
      (path_weaker Both (Edge Odd g o.choice) (λ u t b. b.1) c.at c.others c.at c.path) in
      omega (arith, even, odd)
