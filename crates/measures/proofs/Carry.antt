-- The least counts over others: the last component with room takes one more, and those below it nothing.
use Rattle.measures.proofs.Common.{◌≡◌, ℕ, zero, suc, ◌+◌, ◌-◌, ◌/◌, ◌%◌, ◌≢◌, ◌<◌, ◌≤◌, true, false, List, [], ◌∷◌, ◌++◌, length, map, take, drop, replicate}
use Rattle.measures.proofs.Common.{refl, sym, ap, subst, ◌∙◌, inl, inr, arith, true≢false, slice_index, append_assoc, length-append, length-take-le}
use Rattle.measures.proofs.Common.{length-map, AllZip-long, Game, count, Top, Counts, components, kept, is_odd, IsMeasure, IsProg, AreAtBounds, bounds}
use Rattle.measures.proofs.Cycles.{odd_or_even}
use Rattle.measures.proofs.Components.{kept_is}
use Rattle.measures.proofs.Measures.{Bounded, IsLeastOver, NoneOver, none, none_bounded, none_least, raised, deeper, full, no_counts, least_prog, none_prog}

-- where no component has room, nothing is over the counts
pub full_none : (f : ℕ → ℕ) (ps c : List ℕ) (k : ℕ) → Bounded f ps c → AreAtBounds (map f ps) c 0 k → NoneOver f ps true k c
full_none f ps c zero b h = λ x bound o. true≢false o
full_none f [] [] (suc k) b h = no_counts f k
full_none f [] (y ∷ ys) (suc k) b h = absurd b
full_none f (p ∷ ps) [] (suc k) b h = absurd b
full_none f (p ∷ ps) (y ∷ ys) (suc k) b h = full f p ps true k y ys (h 0 (omega arith) (omega arith))
    (full_none f ps ys k b.1 (λ i l m. h (suc i) (omega arith) (omega arith)))

-- the last component with room takes one more
pub room_least : (f : ℕ → ℕ) (ps c : List ℕ) (k j : ℕ) → Bounded f ps c → j < k → slice_index c j < slice_index (map f ps) j → AreAtBounds (map f ps) c (suc j) k
    → IsLeastOver f ps true k c (take j c ++ suc (slice_index c j) ∷ none (drop (suc j) ps))
room_least f ps c zero j b l r h = absurd (omega arith)
room_least f [] c (suc k) j b l r h = absurd (omega arith)
room_least f (p ∷ ps) [] (suc k) j b l r h = absurd b
room_least f (p ∷ ps) (y ∷ ys) (suc k) zero b l r h = raised f p ps true k y ys r (full_none f ps ys k b.1 (λ i m n. h (suc i) (omega arith) (omega arith)))
room_least f (p ∷ ps) (y ∷ ys) (suc k) (suc j) b l r h =
    deeper f p ps true k y ys (take j ys ++ suc (slice_index ys j) ∷ none (drop (suc j) ps)) b.0
    (room_least f ps ys k j b.1 (omega arith) r (λ i m n. h (suc i) (omega arith) (omega arith)))

-- the first counts stay, and the others are nothing
pub kept_least : (f : ℕ → ℕ) (ps c : List ℕ) (k : ℕ) → Bounded f ps c → k ≤ length ps → IsLeastOver f ps false k c (take k c ++ none (drop k ps))
kept_least f ps c zero b l = record { bounded = none_bounded f ps; over = refl; least = λ x bound o. none_least f ps x bound }
kept_least f [] c (suc k) b l = absurd (omega arith)
kept_least f (p ∷ ps) [] (suc k) b l = absurd b
kept_least f (p ∷ ps) (y ∷ ys) (suc k) b l = deeper f p ps false k y ys (take k ys ++ none (drop k ps)) b.0 (kept_least f ps ys k b.1 (omega arith))

pub none_is : (ps : List ℕ) (j : ℕ) → none (drop j ps) ≡ replicate (length ps - j) 0
none_is [] zero = refl
none_is [] (suc j) = let e : 0 ≡ 0 - suc j = omega arith in ap (λ n. replicate n 0) e
none_is (p ∷ ps) zero = let e : suc (length ps - 0) ≡ suc (length ps) - 0 = omega arith in ap (λ xs. 0 ∷ xs) (none_is ps 0) ∙ ap (λ n. replicate n 0) e
none_is (p ∷ ps) (suc j) = let e : length ps - j ≡ suc (length ps) - suc j = omega arith in none_is ps j ∙ ap (λ n. replicate n 0) e

pub even_is : (p : ℕ) → p % 2 ≡ 0 → is_odd p ≡ false
even_is p e = elim (odd_or_even p) [ inl w ↦ (let odd = w.1 in absurd (omega arith)) | inr w ↦ w.0 ]

pub odd_is : (p : ℕ) → p % 2 ≢ 0 → is_odd p ≡ true
odd_is p n = elim (odd_or_even p) [ inl w ↦ w.0 | inr w ↦ absurd (n w.1) ]

module _ (g : Game) (p : ℕ) (c limits : List ℕ) (k : ℕ) (is : bounds g ≡ limits) (measure : IsMeasure g (Counts c)) (kept_at : k ≡ length limits - p / 2) where
  long : length (components g) ≡ length limits
  long = sym (length-map {B = ℕ} (components g) (count g)) ∙ ap length is

  keeps : k ≡ kept g p
  keeps = let e = kept_is g p in let l = long in omega arith

  zeros_are : (j : ℕ) → none (drop j (components g)) ≡ replicate (length limits - j) 0
  zeros_are j = none_is (components g) j ∙ ap (λ n. replicate (n - j) 0) long

  counts_long : length c ≡ length limits
  counts_long = let l = AllZip-long (λ n q. n ≤ count g q) c (components g) measure in omega (arith, l, long)

  -- at an even priority the counts that are kept stay
  pub even_prog : p % 2 ≡ 0 → (d : List ℕ) → d ≡ take k c → IsProg g p (Counts c) (Counts (d ++ replicate (length limits - length d) 0))
  even_prog even d e =
      let least = kept_least (count g) (components g) c k measure (let l = long in omega arith) in
      let cut : length d ≡ k = ap length e ∙ length-take-le k c (let l = counts_long in omega arith) in
      let is_even : is_odd p ≡ false = even_is p even in
      least_prog g p c (d ++ replicate (length limits - length d) 0)
      (subst (λ b. IsLeastOver (count g) (components g) b (kept g p) c (d ++ replicate (length limits - length d) 0)) (sym is_even)
      (subst (λ n. IsLeastOver (count g) (components g) false n c (d ++ replicate (length limits - length d) 0)) keeps
      (subst (λ n. IsLeastOver (count g) (components g) false k c (d ++ replicate (length limits - n) 0)) (sym cut)
      (subst (λ xs. IsLeastOver (count g) (components g) false k c (xs ++ replicate (length limits - k) 0)) (sym e)
      (subst (λ xs. IsLeastOver (count g) (components g) false k c (take k c ++ xs)) (zeros_are k) least)))))

  -- at an odd one the last of them that has room takes one more
  pub odd_prog : (p % 2 ≢ 0) → (j : ℕ) → j < k → slice_index c j < slice_index limits j → AreAtBounds limits c (j + 1) k → (d : List ℕ)
      → d ≡ take j c ++ (slice_index c j + 1) ∷ []
      → IsProg g p (Counts c) (Counts (d ++ replicate (length limits - length d) 0))
  odd_prog odd j low room filled d e =
      let y = suc (slice_index c j) in
      let one : slice_index c j + 1 ≡ y = omega arith in
      let least = room_least (count g) (components g) c k j measure low (subst (λ xs. slice_index c j < slice_index xs j) (sym is) room)
      (λ i l m. subst (λ xs. slice_index xs i ≤ slice_index c i) (sym is) (filled i (omega arith) m)) in
      let cut : length d ≡ suc j = ap length e ∙ (length-append (take j c) ((slice_index c j + 1) ∷ [])
      ∙ (let t = length-take-le j c (let l = counts_long in omega arith) in omega arith)) in
      let is_d : take j c ++ y ∷ replicate (length limits - suc j) 0 ≡ d ++ replicate (length limits - length d) 0 =
      (ap (λ z. take j c ++ z ∷ replicate (length limits - suc j) 0) (sym one)
      ∙ sym (append_assoc (take j c) ((slice_index c j + 1) ∷ []) (replicate (length limits - suc j) 0)))
      ∙ (ap (λ xs. xs ++ replicate (length limits - suc j) 0) (sym e) ∙ ap (λ n. d ++ replicate (length limits - n) 0) (sym cut)) in
      least_prog g p c (d ++ replicate (length limits - length d) 0)
      (subst (λ b. IsLeastOver (count g) (components g) b (kept g p) c (d ++ replicate (length limits - length d) 0)) (sym (odd_is p odd))
      (subst (λ n. IsLeastOver (count g) (components g) true n c (d ++ replicate (length limits - length d) 0)) keeps
      (subst (λ xs. IsLeastOver (count g) (components g) true k c xs) is_d
      (subst (λ xs. IsLeastOver (count g) (components g) true k c (take j c ++ y ∷ xs)) (zeros_are (suc j)) least))))

  -- and where none has room it is top
  pub full_prog : (p % 2 ≢ 0) → AreAtBounds limits c 0 k → IsProg g p (Counts c) Top
  full_prog odd filled =
      none_prog g p c
      (subst (λ b. NoneOver (count g) (components g) b (kept g p) c) (sym (odd_is p odd))
      (subst (λ n. NoneOver (count g) (components g) true n c) keeps
      (full_none (count g) (components g) c k measure (subst (λ xs. AreAtBounds xs c 0 k) (sym is) filled))))
