-- What is asked for at a vertex, by ranks and weights: the counts that are kept are a rank's quotient by a weight.
use Rattle.measures.proofs.Common.{◌≡◌, ℕ, zero, suc, ◌+◌, ◌-◌, ◌*◌, ◌/◌, ◌%◌, ◌<◌, ◌≤◌, true, false, List, [], ◌∷◌, length, take, drop, refl, sym, ap, subst}
use Rattle.measures.proofs.Common.{◌∙◌, inl, inr, arith, true≢false, mul-le-mul_right, leb_tells, eqb_tells, if◌then◌else◌, Game, count, greatest, Measure}
use Rattle.measures.proofs.Common.{Top, Counts, components, IsMeasure, IsAtMost, IsProg, Reaches, kept, is_odd, odd_down, Some, option_map, slice_index}
use Rattle.measures.proofs.Common.{vertex, priority_at, IsProgAt, code, decode, height, lists_up_to}
use Rattle.std.specs.Prelude.{min}
use Rattle.std.proofs.lemmas.Nat.{div-add-mod', div-mul-add}
use Rattle.measures.specs.Lifting.{of_rank}
use Rattle.measures.proofs.Bests.{vertex_here}
use Rattle.measures.proofs.Components.{below_greatest, kept_is, odd_down_long}
use Rattle.measures.proofs.Cycles.{odd_or_even, priority}
use Rattle.measures.proofs.Measures.{Bounded, NoneOver, at_most_or_below, none_prog, over_reaches, reaches_over, top_prog}
use Rattle.measures.proofs.Numbers.{of_rank_counts, of_rank_top}
use Rattle.measures.proofs.Order.{Over, over_either}
use Rattle.measures.proofs.Ranks.{code_bounded, code_decode, decode_bounded, rank_rises, size_some}
use Rattle.tables.specs.Weights.{AreWeights, weight}

-- ------------------------------------------------------------------ the first counts as a number

abbrev front : (ℕ → ℕ) → ℕ → List ℕ → List ℕ → ℕ
front f k ps c = code f (take k ps) (take k c)

abbrev back : (ℕ → ℕ) → ℕ → List ℕ → List ℕ → ℕ
back f k ps c = code f (drop k ps) (drop k c)

take_bounded : (f : ℕ → ℕ) (k : ℕ) (ps c : List ℕ) → Bounded f ps c → Bounded f (take k ps) (take k c)
take_bounded f zero ps c h = tt
take_bounded f (suc k) [] [] h = tt
take_bounded f (suc k) [] (y ∷ ys) h = absurd h
take_bounded f (suc k) (p ∷ ps) [] h = absurd h
take_bounded f (suc k) (p ∷ ps) (y ∷ ys) h = (h.0, take_bounded f k ps ys h.1)

drop_bounded : (f : ℕ → ℕ) (k : ℕ) (ps c : List ℕ) → Bounded f ps c → Bounded f (drop k ps) (drop k c)
drop_bounded f zero ps c h = h
drop_bounded f (suc k) [] [] h = tt
drop_bounded f (suc k) [] (y ∷ ys) h = absurd h
drop_bounded f (suc k) (p ∷ ps) [] h = absurd h
drop_bounded f (suc k) (p ∷ ps) (y ∷ ys) h = drop_bounded f k ps ys h.1

size_split : (f : ℕ → ℕ) (k : ℕ) (ps : List ℕ) → lists_up_to f ps ≡ lists_up_to f (take k ps) * lists_up_to f (drop k ps)
size_split f zero ps = omega arith
size_split f (suc k) [] = refl
size_split f (suc k) (p ∷ ps) =
    let q : suc (f p) * lists_up_to f ps ≡ suc (f p) * (lists_up_to f (take k ps) * lists_up_to f (drop k ps)) = ap (λ n. suc (f p) * n) (size_split f k ps) in
    omega (arith, q)

code_split : (f : ℕ → ℕ) (k : ℕ) (ps c : List ℕ) → Bounded f ps c → code f ps c ≡ front f k ps c * lists_up_to f (drop k ps) + back f k ps c
code_split f zero ps c h = omega arith
code_split f (suc k) [] [] h = refl
code_split f (suc k) [] (y ∷ ys) h = absurd h
code_split f (suc k) (p ∷ ps) [] h = absurd h
code_split f (suc k) (p ∷ ps) (y ∷ ys) h =
    let e = code_split f k ps ys h.1 in
    let q : y * lists_up_to f ps ≡ y * (lists_up_to f (take k ps) * lists_up_to f (drop k ps)) = ap (λ n. y * n) (size_split f k ps) in
    omega (arith, e, q)

front_rises : (f : ℕ → ℕ) (k : ℕ) (ps c d : List ℕ) → Bounded f ps c → Bounded f ps d → Over true k c d → front f k ps c < front f k ps d
front_rises f zero ps c d h i o = absurd (true≢false o)
front_rises f (suc k) [] [] [] h i o = absurd (true≢false o)
front_rises f (suc k) [] [] (y ∷ ys) h i o = absurd i
front_rises f (suc k) [] (x ∷ xs) d h i o = absurd h
front_rises f (suc k) (p ∷ ps) [] d h i o = absurd h
front_rises f (suc k) (p ∷ ps) (x ∷ xs) [] h i o = absurd o
front_rises f (suc k) (p ∷ ps) (x ∷ xs) (y ∷ ys) h i (inl o) =
    let low = code_bounded f (take k ps) (take k xs) (take_bounded f k ps xs h.1) in
    let m : suc x * lists_up_to f (take k ps) ≤ y * lists_up_to f (take k ps) = mul-le-mul_right (lists_up_to f (take k ps)) o in
    omega (arith, low, m)
front_rises f (suc k) (p ∷ ps) (x ∷ xs) (y ∷ ys) h i (inr o) =
    let r = front_rises f k ps xs ys h.1 i.1 o.1 in
    let e : x * lists_up_to f (take k ps) ≡ y * lists_up_to f (take k ps) = ap (λ n. n * lists_up_to f (take k ps)) o.0 in
    omega (arith, r, e)

front_more : (f : ℕ → ℕ) (k : ℕ) (ps c d : List ℕ) → Bounded f ps c → Bounded f ps d → Over false k c d → front f k ps c ≤ front f k ps d
front_more f zero ps c d h i o = omega arith
front_more f (suc k) [] [] [] h i o = omega arith
front_more f (suc k) [] [] (y ∷ ys) h i o = absurd i
front_more f (suc k) [] (x ∷ xs) d h i o = absurd h
front_more f (suc k) (p ∷ ps) [] d h i o = absurd h
front_more f (suc k) (p ∷ ps) (x ∷ xs) [] h i o = absurd o
front_more f (suc k) (p ∷ ps) (x ∷ xs) (y ∷ ys) h i (inl o) =
    let low = code_bounded f (take k ps) (take k xs) (take_bounded f k ps xs h.1) in
    let m : suc x * lists_up_to f (take k ps) ≤ y * lists_up_to f (take k ps) = mul-le-mul_right (lists_up_to f (take k ps)) o in
    omega (arith, low, m)
front_more f (suc k) (p ∷ ps) (x ∷ xs) (y ∷ ys) h i (inr o) =
    let r = front_more f k ps xs ys h.1 i.1 o.1 in
    let e : x * lists_up_to f (take k ps) ≡ y * lists_up_to f (take k ps) = ap (λ n. n * lists_up_to f (take k ps)) o.0 in
    omega (arith, r, e)

over_more : (f : ℕ → ℕ) (k : ℕ) (ps c d : List ℕ) → Bounded f ps c → Bounded f ps d → front f k ps c ≤ front f k ps d → Over false k c d
over_more f k ps c d h i l = elim (over_either k d c) [
  | inl o ↦ (let r = front_rises f k ps d c i h o in absurd (omega (arith, r, l)))
  | inr o ↦ o
]

over_rises : (f : ℕ → ℕ) (k : ℕ) (ps c d : List ℕ) → Bounded f ps c → Bounded f ps d → front f k ps c < front f k ps d → Over true k c d
over_rises f k ps c d h i l = elim (over_either k c d) [
  | inl o ↦ o
  | inr o ↦ (let r = front_more f k ps d c i h o in absurd (omega (arith, r, l)))
]

-- ------------------------------------------------------------------ of a rank

-- the first counts are the quotient
code_front : (f : ℕ → ℕ) (k : ℕ) (ps c : List ℕ) (n w : ℕ) → Bounded f ps c → code f ps c ≡ n → w ≡ lists_up_to f (drop k ps) → front f k ps c ≡ n / w
code_front f k ps c n w h e is =
    let low = code_bounded f (drop k ps) (drop k c) (drop_bounded f k ps c h) in
    sym (div-mul-add (front f k ps c) (lists_up_to f (drop k ps)) (back f k ps c) low)
    ∙ (ap (λ m. m / lists_up_to f (drop k ps)) (sym (code_split f k ps c h) ∙ e) ∙ ap (λ v. n / v) (sym is))

front_decode : (f : ℕ → ℕ) (k : ℕ) (ps : List ℕ) (n w : ℕ) → n < lists_up_to f ps → w ≡ lists_up_to f (drop k ps) → front f k ps (decode f ps n) ≡ n / w
front_decode f k ps n w h is = code_front f k ps (decode f ps n) n w (decode_bounded f ps n h) (code_decode f ps n h) is

-- a greater quotient comes with a greater rank
code_least : (f : ℕ → ℕ) (k : ℕ) (ps c : List ℕ) (q w : ℕ) → Bounded f ps c → w ≡ lists_up_to f (drop k ps) → q ≤ front f k ps c → q * w ≤ code f ps c
code_least f k ps c q w h is l =
    let m : q * lists_up_to f (drop k ps) ≤ front f k ps c * lists_up_to f (drop k ps) = mul-le-mul_right (lists_up_to f (drop k ps)) l in
    let e : q * w ≡ q * lists_up_to f (drop k ps) = ap (λ v. q * v) is in
    omega (arith, m, e, code_split f k ps c h)

-- ------------------------------------------------------------------ what is asked for

module _ (g : Game) (p n w : ℕ) (is : w ≡ lists_up_to (count g) (drop (kept g p) (components g))) where
  abbrev f : ℕ → ℕ
  f = count g

  abbrev ps : List ℕ
  ps = components g

  abbrev k : ℕ
  k = kept g p

  some : 1 ≤ w
  some = let s = size_some f (drop k ps) in omega (arith, s, is)

  quotient : (q : ℕ) → (q * w) / w ≡ q
  quotient q = ap (λ m. m / w) (omega arith) ∙ div-mul-add q w 0 some

  -- a rank below top's that reaches, and is the least that does
  lower_prog : (r : ℕ) → n < height g → r < height g → Over (is_odd p) k (decode f ps n) (decode f ps r)
      → ((e : List ℕ) → Bounded f ps e → Over (is_odd p) k (decode f ps n) e → r ≤ code f ps e) → IsProg g p (of_rank g n) (of_rank g r)
  lower_prog r small low over below =
      subst (λ (m : Measure). IsProg g p m (of_rank g r)) (sym (of_rank_counts g n small))
      (subst (λ (m : Measure). IsProg g p (Counts (decode f ps n)) m) (sym (of_rank_counts g r low)) (record {
        measure = bounded;
        reaches = reaches_over g p (decode f ps n) (decode f ps r) over;
        least = least;
      }))
    where
      bounded : Bounded f ps (decode f ps r)
      bounded = decode_bounded f ps r low

      least : (x : Measure) → IsMeasure g x → Reaches g p (Counts (decode f ps n)) x → IsAtMost (Counts (decode f ps r)) x
      least Top h i = refl
      least (Counts e) h i = elim (at_most_or_below (Counts e) (Counts (decode f ps r))) [
        | inl b ↦ (
            let rises = rank_rises g (Counts e) (Counts (decode f ps r)) h bounded b in
            let same = code_decode f ps r low in
            let all = below e h (over_reaches g p (decode f ps n) e i) in
            absurd (omega (arith, rises, same, all)))
        | inr a ↦ a
      ]

  -- or top, where none below it reaches
  top_is_prog : n < height g → NoneOver f ps (is_odd p) k (decode f ps n) → IsProg g p (of_rank g n) (of_rank g (height g))
  top_is_prog small never =
      subst (λ (m : Measure). IsProg g p m (of_rank g (height g))) (sym (of_rank_counts g n small))
      (subst (λ (m : Measure). IsProg g p (Counts (decode f ps n)) m) (sym (of_rank_top g (height g) (omega arith))) (none_prog g p (decode f ps n) never))

  of_top : (r : ℕ) → height g ≤ n → height g ≤ r → IsProg g p (of_rank g n) (of_rank g r)
  of_top r h i =
      subst (λ (m : Measure). IsProg g p m (of_rank g r)) (sym (of_rank_top g n h))
      (subst (λ (m : Measure). IsProg g p Top m) (sym (of_rank_top g r i)) (top_prog g p))

  -- top's rank has no rest
  whole : height g ≡ lists_up_to f (take k ps) * w
  whole = size_split f k ps ∙ ap (λ v. lists_up_to f (take k ps) * v) (sym is)

  floor_is : n - n % w ≡ n / w * w
  floor_is = let e = div-add-mod' n w in omega (arith, e)

  pub even_prog : is_odd p ≡ false → n ≤ height g → IsProg g p (of_rank g n) (of_rank g (n - n % w))
  even_prog even h = elim (leb_tells (height g) n) [
    | inl top ↦ (
        let l = top.1 in
        let e : n ≡ lists_up_to f (take k ps) * w = omega (arith, l, h, whole) in
        let q : n / w ≡ lists_up_to f (take k ps) = ap (λ m. m / w) e ∙ quotient (lists_up_to f (take k ps)) in
        let all : n / w * w ≡ lists_up_to f (take k ps) * w = ap (λ m. m * w) q in
        of_top (n - n % w) l (omega (arith, all, floor_is, whole)))
    | inr low ↦ (
        let l = low.1 in
        let r = n / w * w in
        let less : r < height g = omega (arith, l, floor_is) in
        let from : front f k ps (decode f ps n) ≡ n / w = front_decode f k ps n w l is in
        let to : front f k ps (decode f ps r) ≡ n / w = front_decode f k ps r w less is ∙ quotient (n / w) in
        subst (λ (m : ℕ). IsProg g p (of_rank g n) (of_rank g m)) (sym floor_is)
        (lower_prog r l less
        (subst (λ s. Over s k (decode f ps n) (decode f ps r)) (sym even)
        (over_more f k ps (decode f ps n) (decode f ps r) (decode_bounded f ps n l) (decode_bounded f ps r less) (omega (arith, from, to))))
        (λ e b o.
        let more = front_more f k ps (decode f ps n) e (decode_bounded f ps n l) b (subst (λ s. Over s k (decode f ps n) e) even o) in
        code_least f k ps e (n / w) w b is (omega (arith, more, from)))))
  ]

  pub odd_prog : (r : ℕ) → is_odd p ≡ true → n ≤ height g → r ≡ n - n % w + w → ((height g ≤ r) → IsProg g p (of_rank g n) (of_rank g (height g)))
      × (r < height g → IsProg g p (of_rank g n) (of_rank g r))
  odd_prog r odd h at = (past, within)
    where
      next : r ≡ suc (n / w) * w
      next = omega (arith, at, floor_is)

      least : (l : n < height g) (e : List ℕ) → Bounded f ps e → Over (is_odd p) k (decode f ps n) e → r ≤ code f ps e
      least l e b o =
          let from : front f k ps (decode f ps n) ≡ n / w = front_decode f k ps n w l is in
          let more = front_rises f k ps (decode f ps n) e (decode_bounded f ps n l) b (subst (λ s. Over s k (decode f ps n) e) odd o) in
          let m = code_least f k ps e (suc (n / w)) w b is (omega (arith, more, from)) in
          omega (arith, m, next)

      past : height g ≤ r → IsProg g p (of_rank g n) (of_rank g (height g))
      past i = elim (leb_tells (height g) n) [
        | inl top ↦ of_top (height g) top.1 (omega arith)
        | inr low ↦ top_is_prog low.1 (λ e b o. let m = least low.1 e b o in let c = code_bounded f ps e b in omega (arith, m, c, i))
      ]

      within : r < height g → IsProg g p (of_rank g n) (of_rank g r)
      within less =
          let l : n < height g = let s = some in let m = div-add-mod' n w in omega (arith, less, at, s) in
          let from : front f k ps (decode f ps n) ≡ n / w = front_decode f k ps n w l is in
          let to : front f k ps (decode f ps r) ≡ suc (n / w) = front_decode f k ps r w less is ∙ (ap (λ m. m / w) next ∙ quotient (suc (n / w))) in
          lower_prog r l less
          (subst (λ s. Over s k (decode f ps n) (decode f ps r)) (sym odd)
          (over_rises f k ps (decode f ps n) (decode f ps r) (decode_bounded f ps n l) (decode_bounded f ps r less) (omega (arith, from, to))))
          (least l)

-- ------------------------------------------------------------------ the weights

drop_down : (n half : ℕ) → 2 * half ≤ n → drop ((n + 1) / 2 - half) (odd_down n) ≡ odd_down (2 * half)
drop_down zero half h = let z : half ≡ 0 = omega arith in rw z refl
drop_down (suc n) half h = elim (eqb_tells (2 * half) (suc n)) [
  | inl w ↦ (
      let e = w.1 in
      let none : (suc n + 1) / 2 - half ≡ 0 = omega (arith, e) in
      ap (λ i. drop i (odd_down (suc n))) none ∙ ap odd_down (sym e))
  | inr w ↦ (
      let m = w.1 in
      let rest = drop_down n half (omega (arith, m, h)) in
      elim (odd_or_even (suc n)) [
        | inl o ↦ (
            let odd = o.1 in
            let more : (suc n + 1) / 2 - half ≡ suc ((n + 1) / 2 - half) = omega (arith, odd, m, h) in
            ap (λ i. drop i (odd_down (suc n))) more ∙ (ap (λ b. drop (suc ((n + 1) / 2 - half)) (if b then suc n ∷ odd_down n else odd_down n)) o.0 ∙ rest))
        | inr o ↦ (
            let even = o.1 in
            let same : (suc n + 1) / 2 - half ≡ (n + 1) / 2 - half = omega (arith, even, m, h) in
            ap (λ i. drop i (odd_down (suc n))) same ∙ (ap (λ b. drop ((n + 1) / 2 - half) (if b then suc n ∷ odd_down n else odd_down n)) o.0 ∙ rest))
      ])
]

pub weight_kept : (g : Game) (p : ℕ) → p ≤ greatest g → weight g (p / 2) ≡ lists_up_to (count g) (drop (kept g p) (components g))
weight_kept g p h =
    let long : kept g p ≡ (greatest g + 1) / 2 - p / 2 = kept_is g p ∙ ap (λ l. l - p / 2) (odd_down_long (greatest g)) in
    ap (lists_up_to (count g)) (sym (drop_down (greatest g) (p / 2) (omega (arith, h))) ∙ ap (λ i. drop i (components g)) (sym long))

-- one more
pub weight_next : (g : Game) (half : ℕ) → weight g (half + 1) ≡ weight g half * (count g (2 * half + 1) + 1)
weight_next g half =
    let twice : 2 * (half + 1) ≡ suc (suc (2 * half)) = omega arith in
    let down : odd_down (2 * (half + 1)) ≡ (2 * half + 1) ∷ odd_down (2 * half) = ap odd_down twice ∙ two in
    ap (lists_up_to (count g)) down ∙ omega arith
  where
    two : odd_down (suc (suc (2 * half))) ≡ (2 * half + 1) ∷ odd_down (2 * half)
    two = elim (odd_or_even (suc (suc (2 * half)))) [
      | inl o ↦ (let odd = o.1 in absurd (omega (arith, odd)))
      | inr o ↦ ap (λ b. if b then suc (suc (2 * half)) ∷ odd_down (suc (2 * half)) else odd_down (suc (2 * half))) o.0 ∙ one
    ]
      where
        one : odd_down (suc (2 * half)) ≡ (2 * half + 1) ∷ odd_down (2 * half)
        one = elim (odd_or_even (suc (2 * half))) [
          | inl o ↦ ap (λ b. if b then suc (2 * half) ∷ odd_down (2 * half) else odd_down (2 * half)) o.0 ∙ ap (λ m. m ∷ odd_down (2 * half)) (omega arith)
          | inr o ↦ (let even = o.1 in absurd (omega (arith, even)))
        ]

-- none is above top's rank
pub weight_low : (g : Game) (half : ℕ) → 2 * half ≤ greatest g → weight g half ≤ height g
weight_low g half h =
    let w = weight_kept g (2 * half) h in
    let same : (2 * half) / 2 ≡ half = omega arith in
    let e : weight g half ≡ lists_up_to (count g) (drop (kept g (2 * half)) (components g)) = ap (weight g) (sym same) ∙ w in
    let all = size_split (count g) (kept g (2 * half)) (components g) in
    let m : 1 * lists_up_to (count g) (drop (kept g (2 * half)) (components g)) ≤ lists_up_to (count g) (take (kept g (2 * half)) (components g)) * lists_up_to (count g)
    (drop (kept g (2 * half)) (components g))
    = mul-le-mul_right (lists_up_to (count g) (drop (kept g (2 * half)) (components g))) (size_some (count g) (take (kept g (2 * half)) (components g))) in
    omega (arith, e, all, m)

-- ------------------------------------------------------------------ at a vertex

is_even : (p : ℕ) → p % 2 ≡ 0 → is_odd p ≡ false
is_even p even = elim (odd_or_even p) [ inl o ↦ (let odd = o.1 in absurd (omega (arith, odd, even))) | inr o ↦ o.0 ]

is_not_even : (p : ℕ) → (p % 2 ≡ 0 → ⊥) → is_odd p ≡ true
is_not_even p odd = elim (odd_or_even p) [ inl o ↦ o.0 | inr o ↦ absurd (odd o.1) ]

pub weight_here : (g : Game) (ws : List ℕ) (v p half : ℕ) → AreWeights g ws → v < length g.vertices → option_map (λ x. x.priority) (vertex g v) ≡ Some p
    → half ≡ p / 2
    → (half < length ws) × (slice_index ws half ≡ lists_up_to (count g) (drop (kept g p) (components g)))
weight_here g ws v p half are h told at = (found.0, found.1 ∙ (ap (weight g) at ∙ weight_kept g p low))
  where
    low : p ≤ greatest g
    low =
        let x = vertex_here g v h in
        let same : p ≡ x.0.priority = cc (x.1, told) in
        let bound = below_greatest g v in
        let here : priority g v ≡ x.0.priority = ap priority_at x.1 in
        omega (arith, same, bound, here)

    found : (half < length ws) × (slice_index ws half ≡ weight g half)
    found = are half (omega (arith, at, low))

pub asked_even : (g : Game) (ws : List ℕ) (v p half n : ℕ) → AreWeights g ws → v < length g.vertices → option_map (λ x. x.priority) (vertex g v) ≡ Some p
    → half ≡ p / 2
    → p % 2 ≡ 0 → n ≤ height g → IsProgAt g v (of_rank g n) (of_rank g (n - n % slice_index ws half))
asked_even g ws v p half n are h told at even low =
    let x = vertex_here g v h in
    let same : p ≡ x.0.priority = cc (x.1, told) in
    let is = (weight_here g ws v p half are h told at).1 in (
      x.0,
      x.1,
      subst (λ q. IsProg g q (of_rank g n) (of_rank g (n - n % slice_index ws half))) same (even_prog g p n (slice_index ws half) is (is_even p even) low),
    )

pub asked_odd : (g : Game) (ws : List ℕ) (v p half n r : ℕ) → AreWeights g ws → v < length g.vertices → option_map (λ x. x.priority) (vertex g v) ≡ Some p
    → half ≡ p / 2
    → (p % 2 ≡ 0 → ⊥) → n ≤ height g → r ≡ min (height g) (n - n % slice_index ws half + slice_index ws half) → IsProgAt g v (of_rank g n) (of_rank g r)
asked_odd g ws v p half n r are h told at odd low e =
    let x = vertex_here g v h in
    let same : p ≡ x.0.priority = cc (x.1, told) in
    let w = slice_index ws half in
    let is = (weight_here g ws v p half are h told at).1 in
    let told = odd_prog g p n w is (n - n % w + w) (is_not_even p odd) low refl in (
      x.0,
      x.1,
      subst (λ q. IsProg g q (of_rank g n) (of_rank g r)) same (elim (leb_tells (height g) (n - n % w + w)) [
        | inl past ↦ (
            let l = past.1 in
            let top : height g ≡ r = omega (arith, e, l) in
            subst (λ m. IsProg g p (of_rank g n) (of_rank g m)) top (told.0 l))
        | inr here ↦ (
            let l = here.1 in
            let its : n - n % w + w ≡ r = omega (arith, e, l) in
            subst (λ m. IsProg g p (of_rank g n) (of_rank g m)) its (told.1 l))
      ]),
    )
