-- Measures as numbers, in their order.
use Rattle.measures.proofs.Common.{◌≡◌, ℕ, suc, ◌+◌, ◌*◌, ◌/◌, ◌%◌, ◌<◌, ◌≤◌, map, subst, ◌∙◌, AllPairs, Contains, slice_index_or, true, List, [], ◌∷◌}
use Rattle.measures.proofs.Common.{length, sym, ap, inl, inr, arith, true≢false, mul-le-mul_right, range_with_len, leb_tells, length-map-range_with_len}
use Rattle.measures.proofs.Common.{get_or-map-range_with_len, AllZip-long, Game, count, Measure, Top, Counts, components, IsMeasure, IsAtMost, IsBelow}
use Rattle.measures.proofs.Common.{IsRank, code, decode, height, rank, lists_up_to}
use Rattle.measures.proofs.Order.{Over, whole_from}
use Rattle.measures.proofs.Measures.{Bounded, at_most_both, at_most_or_below}

digit : (y z s r q : ℕ) → y < z → r < s → y * s + r < z * s + q
digit y z s r q h i = let m : suc y * s ≤ z * s = mul-le-mul_right s h in omega (arith, m)

pub code_bounded : (f : ℕ → ℕ) (ps c : List ℕ) → Bounded f ps c → code f ps c < lists_up_to f ps
code_bounded f [] c h = omega arith
code_bounded f (p ∷ ps) [] h = absurd h
code_bounded f (p ∷ ps) (y ∷ ys) h = let d = digit y (suc (f p)) (lists_up_to f ps) (code f ps ys) 0 (omega (arith, h.0)) (code_bounded f ps ys h.1)
    in omega (arith, d)

pub code_rises : (f : ℕ → ℕ) (ps c d : List ℕ) → Bounded f ps c → Bounded f ps d → Over true (length ps) c d → code f ps c < code f ps d
code_rises f [] c d h i o = absurd (true≢false o)
code_rises f (p ∷ ps) [] d h i o = absurd h
code_rises f (p ∷ ps) (x ∷ xs) [] h i o = absurd o
code_rises f (p ∷ ps) (x ∷ xs) (y ∷ ys) h i (inl o) = digit x y (lists_up_to f ps) (code f ps xs) (code f ps ys) o (code_bounded f ps xs h.1)
code_rises f (p ∷ ps) (x ∷ xs) (y ∷ ys) h i (inr o) =
    let r = code_rises f ps xs ys h.1 i.1 o.1 in
    let e : x * lists_up_to f ps ≡ y * lists_up_to f ps = ap (λ n. n * lists_up_to f ps) o.0 in
    omega (arith, r, e)

pub rank_bounded : (g : Game) (m : Measure) → IsMeasure g m → rank g m ≤ height g
rank_bounded g Top h = omega arith
rank_bounded g (Counts c) h = let d = code_bounded (count g) (components g) c h in omega (arith, d)

pub rank_rises : (g : Game) (m r : Measure) → IsMeasure g m → IsMeasure g r → IsBelow m r → rank g m < rank g r
rank_rises g Top Top h i b = absurd (true≢false (sym b))
rank_rises g Top (Counts d) h i b = absurd (true≢false (sym b))
rank_rises g (Counts c) Top h i b = code_bounded (count g) (components g) c h
rank_rises g (Counts c) (Counts d) h i b =
    let n = length (components g) in
    code_rises (count g) (components g) c d h i (whole_from true n c d (omega (arith, AllZip-long (λ k q. k ≤ count g q) c (components g) h))
    (omega (arith, AllZip-long (λ k q. k ≤ count g q) d (components g) i)) b)

pub rank_more : (g : Game) (m r : Measure) → IsMeasure g m → IsMeasure g r → IsAtMost m r → rank g m ≤ rank g r
rank_more g m r h i l = elim (at_most_or_below m r) [
  | inl b ↦ (let d = rank_rises g m r h i b in omega (arith, d))
  | inr e ↦ (let q : rank g m ≡ rank g r = ap (rank g) (at_most_both m r l e) in omega (arith, q))
]

-- what rises no more is the same
pub rank_same : (g : Game) (m r : Measure) → IsMeasure g m → IsMeasure g r → IsAtMost m r → rank g r ≤ rank g m → m ≡ r
rank_same g m r h i l e = elim (at_most_or_below m r) [
  | inl b ↦ (let d = rank_rises g m r h i b in absurd (omega (arith, d, e)))
  | inr q ↦ at_most_both m r l q
]

pub size_some : (f : ℕ → ℕ) (ps : List ℕ) → 1 ≤ lists_up_to f ps
size_some f [] = omega arith
size_some f (p ∷ ps) = let s = size_some f ps in omega (arith, s)

pub rest_low : (n s : ℕ) → 1 ≤ s → n % s < s
rest_low n s h = omega arith

pub front_low : (n k s : ℕ) → 1 ≤ s → n < suc k * s → n / s ≤ k
front_low n k s h l = elim (leb_tells (n / s) k) [
  | inl w ↦ w.1
  | inr w ↦ (let m : suc k * s ≤ (n / s) * s = mul-le-mul_right s w.1 in absurd (omega (arith, m, l, h)))
]

pub decode_bounded : (f : ℕ → ℕ) (ps : List ℕ) (n : ℕ) → n < lists_up_to f ps → Bounded f ps (decode f ps n)
decode_bounded f [] n h = tt
decode_bounded f (p ∷ ps) n h = (
  front_low n (f p) (lists_up_to f ps) (size_some f ps) h,
  decode_bounded f ps (n % lists_up_to f ps) (rest_low n (lists_up_to f ps) (size_some f ps)),
)

pub code_decode : (f : ℕ → ℕ) (ps : List ℕ) (n : ℕ) → n < lists_up_to f ps → code f ps (decode f ps n) ≡ n
code_decode f [] n h = omega arith
code_decode f (p ∷ ps) n h =
    let s = size_some f ps in
    let r = code_decode f ps (n % lists_up_to f ps) (rest_low n (lists_up_to f ps) s) in
    omega (arith, r, s)

-- measures of one rank are one
pub same_rank : (g : Game) (m r : Measure) → IsMeasure g m → IsMeasure g r → rank g m ≡ rank g r → m ≡ r
same_rank g m r h i e = elim (at_most_or_below m r) [
  | inl b ↦ (let d = rank_rises g m r h i b in absurd (omega (arith, d, e)))
  | inr l ↦ sym (rank_same g r m i h l (omega (arith, e)))
]

pub below_rank : (g : Game) (m r : Measure) → IsMeasure g m → IsMeasure g r → rank g m < rank g r → IsBelow m r
below_rank g m r h i l = elim (at_most_or_below m r) [
  | inl b ↦ b
  | inr a ↦ (let d = rank_more g r m i h a in absurd (omega (arith, d, l)))
]

abbrev numbered : Game → ℕ → Measure
numbered g n = Counts (decode (count g) (components g) n)

module _ (g : Game) (m : Measure) (h : IsMeasure g m) where
  low : (n : ℕ) → n < rank g m → n < lists_up_to (count g) (components g)
  low n l = let b = rank_bounded g m h in omega (arith, b, l)

  measured : (n : ℕ) → n < rank g m → IsMeasure g (numbered g n)
  measured n l = decode_bounded (count g) (components g) n (low n l)

  ranked : (n : ℕ) → n < rank g m → rank g (numbered g n) ≡ n
  ranked n l = code_decode (count g) (components g) n (low n l)

  abbrev all : List Measure
  all = map (numbered g) (range_with_len 0 (rank g m))

  got : (n : ℕ) (d : Measure) → n < rank g m → slice_index_or all n d ≡ numbered g n
  got n d l = get_or-map-range_with_len (numbered g) 0 (rank g m) n n d l (omega arith)

  long : length all ≡ rank g m
  long = length-map-range_with_len (numbered g) 0 (rank g m)

  rises : AllPairs (λ x y. IsBelow x y) all
  rises i j d l k =
      let n : j < rank g m = omega (arith, k, long) in
      subst (λ x. IsBelow x (slice_index_or all j d)) (sym (got i d (omega arith)))
      (subst (λ y. IsBelow (numbered g i) y) (sym (got j d n))
      (below_rank g (numbered g i) (numbered g j) (measured i (omega arith)) (measured j n) (omega (arith, l, ranked i (omega arith), ranked j n))))

  there : (x : Measure) → Contains all x → IsMeasure g x × IsBelow x m
  there x (k, l, e) =
      let n : k < rank g m = omega (arith, l, long) in
      let q : numbered g k ≡ x = sym (got k x n) ∙ e in
      subst (λ y. IsMeasure g y × IsBelow y m) q (measured k n, below_rank g (numbered g k) m (measured k n) h (omega (arith, n, ranked k n)))

  back : (x : Measure) → IsMeasure g x × IsBelow x m → Contains all x
  back x (i, b) =
      let l = rank_rises g x m i h b in
      (rank g x, omega (arith, l, long), got (rank g x) x l ∙ same_rank g (numbered g (rank g x)) x (measured (rank g x) l) i (ranked (rank g x) l))

  pub rank_is : IsRank g m (rank g m)
  rank_is = (all, long, rises, λ x. (there x, back x))
