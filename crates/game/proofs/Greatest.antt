-- The greatest priority of a game.
use Rattle.std.proofs.Common.{◌≡◌, ℕ, ◌<◌, ◌≤◌, ◌+◌, ◌⊎◌, max, Bool, true, false, cond, List, [], ◌∷◌, length, refl, sym, ap, subst, inl, inr, arith}
use Rattle.std.proofs.Common.{count_by, ◌==◌, eq-eqb}
use Rattle.std.specs.List.{AllByRecursion}
use Rattle.std.proofs.lemmas.Bool.Decides.{eqb_tells, leb_tells}
use Rattle.std.proofs.lemmas.List.Sums.{sum_by-cons}
use Rattle.game.specs.Game.{Vertex, Game, IsVertex, IsGame, count, greatest, greatest_of}

module _ (p : ℕ) (x : Vertex) (xs : List Vertex) where
  abbrev counted : List Vertex → ℕ
  counted vs = count_by (λ y. y.priority == p) vs

  counted_one : (b : Bool) → (x.priority == p) ≡ b → counted (x ∷ xs) ≡ cond {A = ℕ} b 1 0 + counted xs
  counted_one b e = let s : counted (x ∷ xs) ≡ cond {A = ℕ} (x.priority == p) 1 0
      + counted xs = sum_by-cons (λ (y : Vertex). cond {A = ℕ} (y.priority == p) 1 0) x xs in let t = ap (λ c. cond {A = ℕ} c 1 0) e in omega (arith, s, t)

-- a priority that is counted is at most the greatest
counted_low : (p : ℕ) (xs : List Vertex) → 0 < count_by (λ x. x.priority == p) xs → p ≤ greatest_of xs
counted_low p [] h = absurd (omega arith)
counted_low p (x ∷ xs) h = elim (eqb_tells x.priority p) [
  | inl w ↦ (let e = w.1 in omega arith)
  | inr w ↦ (let r = counted_low p xs (let c = counted_one p x xs false w.0 in omega arith) in omega arith)
]

-- the greatest one is counted, if it isn't 0
greatest_counted : (xs : List Vertex) → (greatest_of xs ≡ 0) ⊎ (0 < count_by (λ x. x.priority == greatest_of xs) xs)
greatest_counted [] = inl refl
greatest_counted (x ∷ xs) = elim (leb_tells (greatest_of xs) x.priority) [
  | inl w ↦ (
      let l = w.1 in
      let e : max x.priority (greatest_of xs) ≡ x.priority = omega arith in
      let c = counted_one x.priority x xs true (eq-eqb x.priority x.priority refl) in
      inr (subst (λ p. 0 < count_by (λ (y : Vertex). y.priority == p) (x ∷ xs)) (sym e) (omega arith)))
  | inr w ↦ (
      let l = w.1 in
      let e : max x.priority (greatest_of xs) ≡ greatest_of xs = omega arith in
      elim (greatest_counted xs) [
        | inl z ↦ absurd (omega arith)
        | inr c ↦ inr (subst (λ p. 0 < count_by (λ (y : Vertex). y.priority == p) (x ∷ xs)) (sym e) (later (greatest_of xs) c))
      ])
]
  where
    later : (p : ℕ) → 0 < count_by (λ (y : Vertex). y.priority == p) xs → 0 < count_by (λ (y : Vertex). y.priority == p) (x ∷ xs)
    later p c = elim (eqb_tells x.priority p) [
      | inl w ↦ (let d = counted_one p x xs true w.0 in omega arith)
      | inr w ↦ (let d = counted_one p x xs false w.0 in omega arith)
    ]

greatest_few : (n : ℕ) (xs : List Vertex) → AllByRecursion (IsVertex n) xs → greatest_of xs ≤ 32
greatest_few n [] h = omega arith
greatest_few n (x ∷ xs) h = let r = greatest_few n xs h.1 in let p = h.0.priority in omega arith

pub greatest_limit : (g : Game) → IsGame g → greatest g ≤ 32
greatest_limit g game = greatest_few (length g.vertices) g.vertices game.vertices

-- a priority above which none is counted, and which is counted itself
pub greatest_is : (g : Game) (p : ℕ) → IsGame g → ((q : ℕ) → p < q → q ≤ 32 → count g q ≡ 0) → (p ≡ 0) ⊎ (0 < count g p) → p ≡ greatest g
greatest_is g p game none some = le_antisymmetric low high
  where
    low : p ≤ greatest g
    low = elim some [ inl e ↦ omega arith | inr c ↦ counted_low p g.vertices c ]

    high : greatest g ≤ p
    high = elim (leb_tells (greatest g) p) [
      | inl w ↦ w.1
      | inr w ↦ elim (greatest_counted g.vertices) [
        | inl z ↦ (let l = w.1 in absurd (omega arith))
        | inr c ↦ (let e = none (greatest g) w.1 (greatest_limit g game) in absurd (omega arith))
      ]
    ]

    le_antisymmetric : p ≤ greatest g → greatest g ≤ p → p ≡ greatest g
    le_antisymmetric l h = omega arith
