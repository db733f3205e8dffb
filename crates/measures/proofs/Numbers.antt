-- Ranks, read and written in mixed radix, one place after another.
use Rattle.measures.proofs.Common.{◌≡◌, ℕ, Bool, true, false, zero, suc, ◌+◌, ◌*◌, ◌/◌, ◌%◌, ◌<◌, ◌≤◌, ◌↔◌, ◌++◌, List, [], ◌∷◌, length, map, drop, refl, sym}
use Rattle.measures.proofs.Common.{ap, ap₂, subst, ◌∙◌, inl, inr, arith, slice_index, nat_lt, if◌then◌else◌, lt-ltb, ltb-true, mul-le-mul_right, append_assoc}
use Rattle.measures.proofs.Common.{leb_tells, max, zeros, Game, count, Measure, Top, Counts, components, IsMeasure, IsAtMost, IsBelow, IsRank, AllZip, bounds}
use Rattle.measures.proofs.Common.{counts_of, code, decode, height, rank, lists_up_to}
use Rattle.measures.specs.Lifting.{of_rank}
use Rattle.std.proofs.Math.Nat.{mul-div_cancel_left}
use Rattle.measures.proofs.Measures.{Bounded, at_most_or_below, at_most_top, none, none_bounded}
use Rattle.measures.proofs.Within.{to_bounds}
use Rattle.measures.proofs.Ranks.{below_rank, code_bounded, code_decode, decode_bounded, front_low, rank_bounded, rank_is, rank_rises, same_rank, size_some}

abbrev own : ℕ → ℕ
own b = b

-- ------------------------------------------------------------------ by the bounds

pub size_bounds : (f : ℕ → ℕ) (ps : List ℕ) → lists_up_to (λ b. b) (map f ps) ≡ lists_up_to f ps
size_bounds f [] = refl
size_bounds f (p ∷ ps) = ap (λ n. suc (f p) * n) (size_bounds f ps)

pub code_bounds : (f : ℕ → ℕ) (ps c : List ℕ) → code (λ b. b) (map f ps) c ≡ code f ps c
code_bounds f [] c = refl
code_bounds f (p ∷ ps) [] = refl
code_bounds f (p ∷ ps) (y ∷ ys) = ap₂ (λ m n. y * m + n) (size_bounds f ps) (code_bounds f ps ys)

pub decode_bounds : (f : ℕ → ℕ) (ps : List ℕ) (n : ℕ) → decode (λ b. b) (map f ps) n ≡ decode f ps n
decode_bounds f [] n = refl
decode_bounds f (p ∷ ps) n = ap (λ s. n / s ∷ decode (λ b. b) (map f ps) (n % s)) (size_bounds f ps)
    ∙ ap (λ ds. n / lists_up_to f ps ∷ ds) (decode_bounds f ps (n % lists_up_to f ps))

-- ------------------------------------------------------------------ place after place

pub size_at : (bs : List ℕ) (i : ℕ) → i < length bs → lists_up_to (λ b. b) (drop i bs) ≡ (slice_index bs i + 1) * lists_up_to (λ b. b) (drop (suc i) bs)
size_at [] i h = absurd (omega arith)
size_at (b ∷ bs) zero h = omega arith
size_at (b ∷ bs) (suc i) h = size_at bs i (omega arith)

pub size_over : (bs : List ℕ) (i number : ℕ) → i < length bs → number * lists_up_to (λ b. b) (drop i bs) ≡ lists_up_to (λ b. b) bs
    → (slice_index bs i + 1) * number ≤ lists_up_to (λ b. b) bs
size_over bs i number h e =
    let s = size_some (λ b. b) (drop (suc i) bs) in
    let at = size_at bs i h in
    let m : 1 * ((slice_index bs i + 1) * number) ≤ lists_up_to (λ b. b) (drop (suc i) bs) * ((slice_index bs i + 1) * number) = mul-le-mul_right
    ((slice_index bs i + 1) * number) s in
    let q : number * lists_up_to (λ b. b) (drop i bs) ≡ number * ((slice_index bs i + 1) * lists_up_to (λ b. b) (drop (suc i) bs)) = ap (λ n. number * n) at in
    omega (arith, m, q, e)

-- what has grown too great already is only a part
pub size_great : (bs : List ℕ) (i number b limit : ℕ) → i < length bs → number * lists_up_to (λ b. b) (drop i bs) ≡ lists_up_to (λ b. b) bs → b ≡ slice_index bs i
    → limit ≤ number * (b + 1) → lists_up_to (λ b. b) bs < limit → ⊥
size_great bs i number b limit h e q great few =
    let s = size_over bs i number h e in
    let m : number * (b + 1) ≡ number * (slice_index bs i + 1) = ap (λ k. number * (k + 1)) q in
    omega (arith, s, m, great, few)

pub size_next : (bs : List ℕ) (i number : ℕ) → i < length bs → number * lists_up_to (λ b. b) (drop i bs) ≡ lists_up_to (λ b. b) bs
    → (number * (slice_index bs i + 1)) * lists_up_to (λ b. b) (drop (suc i) bs) ≡ lists_up_to (λ b. b) bs
size_next bs i number h e =
    let q : number * lists_up_to (λ b. b) (drop i bs) ≡ number * ((slice_index bs i + 1) * lists_up_to (λ b. b) (drop (suc i) bs)) = ap (λ n. number * n) (size_at bs i h) in
    omega (arith, q, e)

pub code_at : (bs cs : List ℕ) (i : ℕ) → i < length bs → i < length cs
    → code (λ b. b) (drop i bs) (drop i cs) ≡ slice_index cs i * lists_up_to (λ b. b) (drop (suc i) bs) + code (λ b. b) (drop (suc i) bs) (drop (suc i) cs)
code_at [] cs i h k = absurd (omega arith)
code_at (b ∷ bs) [] i h k = absurd (omega arith)
code_at (b ∷ bs) (c ∷ cs) zero h k = refl
code_at (b ∷ bs) (c ∷ cs) (suc i) h k = code_at bs cs i (omega arith) (omega arith)

-- the number so far, with the places that are left, is the whole
abbrev pub IsReadTo : List ℕ → List ℕ → ℕ → ℕ → Type 0
IsReadTo bs cs i number = number * lists_up_to (λ b. b) (drop i bs) + code (λ b. b) (drop i bs) (drop i cs) ≡ code (λ b. b) bs cs

pub read_next : (bs cs : List ℕ) (i number : ℕ) → i < length bs → i < length cs → IsReadTo bs cs i number
    → IsReadTo bs cs (suc i) (number * (slice_index bs i + 1) + slice_index cs i)
read_next bs cs i number h k e =
    let q : number * lists_up_to (λ b. b) (drop i bs) ≡ number * ((slice_index bs i + 1) * lists_up_to (λ b. b) (drop (suc i) bs)) = ap (λ n. number * n) (size_at bs i h) in
    omega (arith, q, e, code_at bs cs i h k)

read_small : (bs cs : List ℕ) (i number : ℕ) → IsReadTo bs cs i number → number ≤ code (λ b. b) bs cs
read_small bs cs i number e =
    let m : 1 * number ≤ lists_up_to (λ b. b) (drop i bs) * number = mul-le-mul_right number (size_some (λ b. b) (drop i bs)) in
    omega (arith, m, e)

-- the number with one place more is within the limit
pub read_within : (bs cs : List ℕ) (i number b k limit : ℕ) → i < length bs → i < length cs → Bounded (λ b. b) bs cs → lists_up_to (λ b. b) bs < limit
    → b ≡ slice_index bs i → k ≡ slice_index cs i
    → IsReadTo bs cs i number → number * (b + 1) + k < limit
read_within bs cs i number b k limit h l within few q r e =
    let low = code_bounded (λ b. b) bs cs within in
    let s = read_small bs cs (suc i) (number * (slice_index bs i + 1) + slice_index cs i) (read_next bs cs i number h l e) in
    let m : number * (b + 1) ≡ number * (slice_index bs i + 1) = ap (λ n. number * (n + 1)) q in
    omega (arith, low, s, m, r, few)

-- ------------------------------------------------------------------ and back

pub weight_next : (bs : List ℕ) (i : ℕ) → i < length bs → lists_up_to (λ b. b) (drop i bs) / (slice_index bs i + 1) ≡ lists_up_to (λ b. b) (drop (suc i) bs)
weight_next bs i h =
    let some : 0 < slice_index bs i + 1 = omega arith in
    ap (λ n. n / (slice_index bs i + 1)) (size_at bs i h) ∙ mul-div_cancel_left (lists_up_to (λ b. b) (drop (suc i) bs)) some

pub place_small : (bs : List ℕ) (i rest : ℕ) → i < length bs → rest < lists_up_to (λ b. b) (drop i bs) → rest / lists_up_to (λ b. b) (drop (suc i) bs) ≤ slice_index bs i
place_small bs i rest h l = front_low rest (slice_index bs i) (lists_up_to (λ b. b) (drop (suc i) bs)) (size_some (λ b. b) (drop (suc i) bs))
    (omega (arith, l, size_at bs i h))

pub decode_at : (bs : List ℕ) (i rest : ℕ) → i < length bs
    → decode (λ b. b) (drop i bs) rest ≡ rest / lists_up_to (λ b. b) (drop (suc i) bs) ∷ decode (λ b. b) (drop (suc i) bs) (rest % lists_up_to (λ b. b) (drop (suc i) bs))
decode_at [] i rest h = absurd (omega arith)
decode_at (b ∷ bs) zero rest h = refl
decode_at (b ∷ bs) (suc i) rest h = decode_at bs i rest (omega arith)

pub decode_next : (bs done : List ℕ) (i rest number : ℕ) → i < length bs → done ++ decode (λ b. b) (drop i bs) rest ≡ decode (λ b. b) bs number
    → (done ++ (rest / lists_up_to (λ b. b) (drop (suc i) bs)) ∷ []) ++ decode (λ b. b) (drop (suc i) bs) (rest % lists_up_to (λ b. b) (drop (suc i) bs))
    ≡ decode (λ b. b) bs number
decode_next bs done i rest number h e =
    let w = lists_up_to (λ b. b) (drop (suc i) bs) in
    append_assoc done ((rest / w) ∷ []) (decode (λ b. b) (drop (suc i) bs) (rest % w)) ∙ (ap (λ ds. done ++ ds) (sym (decode_at bs i rest h)) ∙ e)

-- ------------------------------------------------------------------ measures

pub of_rank_counts : (g : Game) (n : ℕ) → n < height g → of_rank g n ≡ Counts (decode (count g) (components g) n)
unfolding of_rank
of_rank_counts g n h = elim (leb_tells (height g) n) [
  | inl w ↦ (let l = w.1 in absurd (omega (arith, l, h)))
  | inr w ↦ ap (λ b. if b then Counts (decode (count g) (components g) n) else Top) (lt-ltb n (height g) w.1)
]

pub of_rank_top : (g : Game) (n : ℕ) → height g ≤ n → of_rank g n ≡ Top
unfolding of_rank
of_rank_top g n h = by (nat_lt n (height g)) refl
  where
    by : (b : Bool) → nat_lt n (height g) ≡ b → (if b then Counts (decode (count g) (components g) n) else Top) ≡ Top
    by true e = let l = ltb-true n (height g) e in absurd (omega (arith, l, h))
    by false e = refl

pub of_rank_measure : (g : Game) (n : ℕ) → IsMeasure g (of_rank g n)
of_rank_measure g n = elim (leb_tells (height g) n) [
  | inl w ↦ subst (IsMeasure g) (sym (of_rank_top g n w.1)) tt
  | inr w ↦ subst (IsMeasure g) (sym (of_rank_counts g n w.1)) (decode_bounded (count g) (components g) n w.1)
]

pub rank_of_rank : (g : Game) (n : ℕ) → n ≤ height g → rank g (of_rank g n) ≡ n
rank_of_rank g n h = elim (leb_tells (height g) n) [
  | inl w ↦ (let e : height g ≡ n = omega (arith, h, w.1) in ap (rank g) (of_rank_top g n w.1) ∙ e)
  | inr w ↦ ap (rank g) (of_rank_counts g n w.1) ∙ code_decode (count g) (components g) n w.1
]

-- a lesser measure has a lesser rank, and no other
pub rank_order : (g : Game) (m r : Measure) (n : ℕ) → IsMeasure g m → n ≡ rank g m → IsMeasure g r → IsBelow m r ↔ (n < rank g r)
rank_order g m r n h e i = (
  (λ b. let l = rank_rises g m r h i b in omega (arith, l, e)),
  (λ l. below_rank g m r h i (omega (arith, l, e))),
)

pub rank_tells : (g : Game) (m : Measure) (n : ℕ) → IsMeasure g m → n ≡ rank g m → IsRank g m n
rank_tells g m n h e = subst (IsRank g m) (sym e) (rank_is g m h)

-- counts that are numbered by the bounds
module _ (g : Game) (limits : List ℕ) (same : limits ≡ bounds g) where
  pub size_is : lists_up_to (λ b. b) limits ≡ height g
  size_is = ap (lists_up_to (λ b. b)) same ∙ size_bounds (count g) (components g)

  pub measure_of_number : (n : ℕ) (c : List ℕ) (m : Measure) → n < height g → c ≡ decode (λ b. b) limits n → m ≡ Counts c → m ≡ of_rank g n
  measure_of_number n c m h e is =
      is ∙ (ap Counts (e ∙ (ap (λ bs. decode (λ b. b) bs n) same ∙ decode_bounds (count g) (components g) n)) ∙ sym (of_rank_counts g n h))

  pub counts_within : (m : Measure) (c : List ℕ) → IsMeasure g m → (m ≡ Top → ⊥) → c ≡ counts_of m → AllZip (λ count bound. count ≤ bound) c limits
  counts_within Top c h n e = absurd (n refl)
  counts_within (Counts d) c h n e = subst (AllZip (λ count bound. count ≤ bound) c) (sym same)
      (subst (λ (k : List ℕ). AllZip (λ count bound. count ≤ bound) k (bounds g)) (sym e) (to_bounds (count g) d (components g) h))

  pub number_is : (m : Measure) (c : List ℕ) → (m ≡ Top → ⊥) → c ≡ counts_of m → code (λ b. b) limits c ≡ rank g m
  number_is Top c n e = absurd (n refl)
  number_is (Counts d) c n e = ap (λ bs. code (λ b. b) bs c) same ∙ (code_bounds (count g) (components g) c ∙ ap (code (count g) (components g)) e)

-- ------------------------------------------------------------------ in their order

pub of_rank_up : (g : Game) (n k : ℕ) → n ≤ k → IsAtMost (of_rank g n) (of_rank g k)
of_rank_up g n k h = elim (leb_tells (height g) k) [
  | inl w ↦ subst (λ (m : Measure). IsAtMost (of_rank g n) m) (sym (of_rank_top g k w.1)) (at_most_top (of_rank g n))
  | inr w ↦ (
      let low = rank_of_rank g n (let l = w.1 in omega (arith, h, l)) in
      let high = rank_of_rank g k (let l = w.1 in omega (arith, l)) in
      elim (at_most_or_below (of_rank g k) (of_rank g n)) [
        | inl b ↦ (let d = rank_rises g (of_rank g k) (of_rank g n) (of_rank_measure g k) (of_rank_measure g n) b in absurd (omega (arith, d, low, high, h)))
        | inr a ↦ a
      ])
]

pub of_rank_rank : (g : Game) (m : Measure) → IsMeasure g m → of_rank g (rank g m) ≡ m
of_rank_rank g m h = same_rank g (of_rank g (rank g m)) m (of_rank_measure g (rank g m)) h (rank_of_rank g (rank g m) (rank_bounded g m h))

-- what holds of either of two holds of the greater
pub of_rank_max : (P : Measure → Type 0) (g : Game) (n k : ℕ) → P (of_rank g n) → P (of_rank g k) → P (of_rank g (max n k))
of_rank_max P g n k h i = elim (leb_tells n k) [
  | inl w ↦ (let l = w.1 in let e : k ≡ max n k = omega (arith, l) in subst (λ (j : ℕ). P (of_rank g j)) e i)
  | inr w ↦ (let l = w.1 in let e : n ≡ max n k = omega (arith, l) in subst (λ (j : ℕ). P (of_rank g j)) e h)
]

code_none : (f : ℕ → ℕ) (ps : List ℕ) → code f ps (none ps) ≡ 0
code_none f [] = refl
code_none f (p ∷ ps) = let r = code_none f ps in omega (arith, r)

-- no measure is less than that of zeros
pub of_rank_zero : (g : Game) → of_rank g 0 ≡ zeros g
of_rank_zero g = ap (of_rank g) (sym (code_none (count g) (components g))) ∙ of_rank_rank g (zeros g) (none_bounded (count g) (components g))
