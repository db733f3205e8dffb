-- Measures: their order, and the least one that reaches another.
use Rattle.measures.proofs.Common.{◌≡◌, ℕ, zero, suc, ◌+◌, ◌≤◌, ◌⊎◌, Bool, true, false, List, [], ◌∷◌, length, map, take, refl, sym, ap, subst, ◌∙◌, inl, inr}
use Rattle.measures.proofs.Common.{arith, IsTrue, true≢false, MatchBool, if◌then◌else◌, AllZip, Ordering, nat_cmp, is_lt, is_le, slice_cmp, leb_tells}
use Rattle.measures.proofs.Common.{AllZip-long, Game, count, Measure, Top, Counts, components, IsMeasure, measure_cmp, IsAtMost, IsBelow, kept, Reaches}
use Rattle.measures.proofs.Common.{IsProg, is_odd, greater_of}
use Rattle.measures.proofs.Order.{Over, Passes, over_from, over_to, over_trans, over_fewer, over_itself, not_over_itself, over_either, over_same, whole_to}
use Rattle.measures.proofs.Order.{whole_from, whole_fewer}

-- every measure is at most itself
pub at_most_itself : (m : Measure) → IsAtMost m m
at_most_itself Top = refl
at_most_itself (Counts c) = whole_to false (length c) c c (omega arith) (omega arith) (over_itself (length c) c)

pub at_most_trans : (a b c : Measure) → IsAtMost a b → IsAtMost b c → IsAtMost a c
at_most_trans Top b Top h i = refl
at_most_trans (Counts x) b Top h i = refl
at_most_trans Top Top (Counts z) h i = i
at_most_trans Top (Counts y) (Counts z) h i = absurd (true≢false (sym h))
at_most_trans (Counts x) Top (Counts z) h i = absurd (true≢false (sym i))
at_most_trans (Counts x) (Counts y) (Counts z) h i =
    let k = length x + length z in
    whole_to false k x z (omega arith) (omega arith) (over_trans false false k x y z (whole_fewer k x y h) (whole_fewer k y z i))

pub at_most_or_below : (a b : Measure) → IsBelow a b ⊎ IsAtMost b a
at_most_or_below Top Top = inr refl
at_most_or_below Top (Counts y) = inr refl
at_most_or_below (Counts x) Top = inl refl
at_most_or_below (Counts x) (Counts y) =
    let k = length x + length y in
    elim (over_either k x y) [
      | inl o ↦ inl (whole_to true k x y (omega arith) (omega arith) o)
      | inr o ↦ inr
          (whole_to false k y x (omega arith) (omega arith) o)
    ]

pub below_at_most : (a b : Measure) → IsBelow a b → IsAtMost a b
below_at_most Top Top h = absurd (true≢false (sym h))
below_at_most Top (Counts y) h = absurd (true≢false (sym h))
below_at_most (Counts x) Top h = refl
below_at_most (Counts x) (Counts y) h =
    let k = length x + length y in
    whole_to false k x y (omega arith) (omega arith) (over_fewer true k k x y (omega arith) (whole_from true k x y (omega arith) (omega arith) h))

pub at_most_either : (a b : Measure) → IsAtMost a b ⊎ IsAtMost b a
at_most_either a b = elim (at_most_or_below a b) [ inl h ↦ inl (below_at_most a b h) | inr h ↦ inr h ]

pub not_below : (a b : Measure) → IsBelow a b → IsAtMost b a → ⊥
not_below Top Top h i = true≢false (sym h)
not_below Top (Counts y) h i = true≢false (sym h)
not_below (Counts x) Top h i = true≢false (sym i)
not_below (Counts x) (Counts y) h i =
    let k = length x + length y in
    not_over_itself k x (over_trans true false k x y x (whole_from true k x y (omega arith) (omega arith) h) (whole_fewer k y x i))

pub at_most_both : (a b : Measure) → IsAtMost a b → IsAtMost b a → a ≡ b
at_most_both Top Top h i = refl
at_most_both Top (Counts d) h i = absurd (true≢false (sym h))
at_most_both (Counts c) Top h i = absurd (true≢false (sym i))
at_most_both (Counts c) (Counts d) h i =
    let k = length c + length d in
    ap Counts (over_same k c d (omega arith) (omega arith) (whole_fewer k c d h) (whole_fewer k d c i))

pub at_most_top : (m : Measure) → IsAtMost m Top
at_most_top Top = refl
at_most_top (Counts c) = refl

pub top_last : (m : Measure) → IsAtMost Top m → m ≡ Top
top_last Top h = refl
top_last (Counts c) h = absurd (true≢false (sym h))

-- the greater of two is the first exactly where the second is at most it
pub greater_own : (own best : Measure) → greater_of own best ≡ own → IsAtMost best own
greater_own own best e = elim (at_most_or_below own best) [
  | inl b ↦ subst (λ m. IsAtMost best m) (ap (λ t. if t then best else own) (sym b) ∙ e) (at_most_itself best)
  | inr a ↦ a
]

pub own_greater : (own best : Measure) → IsAtMost best own → greater_of own best ≡ own
own_greater own best h = by (is_lt (measure_cmp own best)) refl
  where
    by : (b : Bool) → is_lt (measure_cmp own best) ≡ b → greater_of own best ≡ own
    by true e = absurd (not_below own best e h)
    by false e = rw e refl

-- the greater of two is the second where the first is less
pub greater_taken : (own best : Measure) → IsBelow own best → best ≡ greater_of own best
greater_taken own best h = ap (λ b. if b then best else own) (sym h)

pub greater_left : (own best : Measure) → (IsBelow own best → ⊥) → own ≡ greater_of own best
greater_left own best n = elim (at_most_or_below own best) [ inl b ↦ absurd (n b) | inr a ↦ sym (own_greater own best a) ]

-- ------------------------------------------------------------------ the least list of counts that is over another

abbrev pub Bounded : (ℕ → ℕ) → List ℕ → List ℕ → Type 0
Bounded f ps c = AllZip (λ k p. k ≤ f p) c ps

pub record IsLeastOver (f : ℕ → ℕ) (ps : List ℕ) (s : Bool) (k : ℕ) (c d : List ℕ) : Type 0 where
  pub bounded : Bounded f ps d
  pub over : Over s k c d
  pub least : (x : List ℕ) → Bounded f ps x → Over s k c x → Over false (length ps) d x

abbrev pub NoneOver : (ℕ → ℕ) → List ℕ → Bool → ℕ → List ℕ → Type 0
NoneOver f ps s k c = (x : List ℕ) → Bounded f ps x → Over s k c x → ⊥

abbrev pub none : List ℕ → List ℕ
none ps = map (λ p. 0) ps

pub none_bounded : (f : ℕ → ℕ) (ps : List ℕ) → Bounded f ps (none ps)
none_bounded f [] = tt
none_bounded f (p ∷ ps) = (omega arith, none_bounded f ps)

pub none_least : (f : ℕ → ℕ) (ps x : List ℕ) → Bounded f ps x → Over false (length ps) (none ps) x
none_least f [] [] h = refl
none_least f [] (y ∷ ys) h = absurd h
none_least f (p ∷ ps) [] h = absurd h
none_least f (p ∷ ps) (zero ∷ ys) h = inr (refl, none_least f ps ys h.1)
none_least f (p ∷ ps) (suc y ∷ ys) h = inl (omega arith)

-- the rest can't be over: the first count rises, and the rest is nothing
pub raised : (f : ℕ → ℕ) (p : ℕ) (ps : List ℕ) (s : Bool) (k y : ℕ) (ys : List ℕ) → suc y ≤ f p → NoneOver f ps s k ys
    → IsLeastOver f (p ∷ ps) s (suc k) (y ∷ ys) (suc y ∷ none ps)
raised f p ps s k y ys h never = record { bounded = (h, none_bounded f ps); over = inl (omega arith); least = least }
  where
    least : (x : List ℕ) → Bounded f (p ∷ ps) x → Over s (suc k) (y ∷ ys) x → Over false (suc (length ps)) (suc y ∷ none ps) x
    least [] b o = absurd b
    least (z ∷ zs) b (inl o) = elim (leb_tells z (suc y)) [
      | inl w ↦ inr (omega (arith, w.1), none_least f ps zs b.1)
      | inr w ↦ inl w.1
    ]
    least (z ∷ zs) b (inr o) = absurd (never zs b.1 o.1)

-- the rest is over by itself
pub deeper : (f : ℕ → ℕ) (p : ℕ) (ps : List ℕ) (s : Bool) (k y : ℕ) (ys ds : List ℕ) → y ≤ f p → IsLeastOver f ps s k ys ds
    → IsLeastOver f (p ∷ ps) s (suc k) (y ∷ ys) (y ∷ ds)
deeper f p ps s k y ys ds h is = record { bounded = (h, is.bounded); over = inr (refl, is.over); least = least }
  where
    least : (x : List ℕ) → Bounded f (p ∷ ps) x → Over s (suc k) (y ∷ ys) x → Over false (suc (length ps)) (y ∷ ds) x
    least [] b o = absurd b
    least (z ∷ zs) b (inl o) = inl o
    least (z ∷ zs) b (inr o) = inr (o.0, is.least zs b.1 o.1)

pub full : (f : ℕ → ℕ) (p : ℕ) (ps : List ℕ) (s : Bool) (k y : ℕ) (ys : List ℕ) → f p ≤ y → NoneOver f ps s k ys → NoneOver f (p ∷ ps) s (suc k) (y ∷ ys)
full f p ps s k y ys h never [] b o = b
full f p ps s k y ys h never (z ∷ zs) b (inl o) = omega (arith, b.0)
full f p ps s k y ys h never (z ∷ zs) b (inr o) = never zs b.1 o.1

pub no_counts : (f : ℕ → ℕ) (k : ℕ) → NoneOver f [] true (suc k) []
no_counts f k [] b o = true≢false o
no_counts f k (z ∷ zs) b o = b

past : (f : ℕ → ℕ) (k : ℕ) → IsLeastOver f [] false (suc k) [] []
past f k = record { bounded = tt; over = refl; least = λ x b o. refl }

next : (f : ℕ → ℕ) (ps : List ℕ) (s : Bool) (k : ℕ) (c : List ℕ) → Bounded f ps c → ((d : List ℕ) × IsLeastOver f ps s k c d) ⊎ NoneOver f ps s k c
next f ps true zero c h = inr (λ x b o. true≢false o)
next f ps false zero c h = inl (none ps, record { bounded = none_bounded f ps; over = refl; least = λ x b o. none_least f ps x b })
next f [] true (suc k) [] h = inr (no_counts f k)
next f [] false (suc k) [] h = inl ([], past f k)
next f [] s (suc k) (y ∷ ys) h = absurd h
next f (p ∷ ps) s (suc k) [] h = absurd h
next f (p ∷ ps) s (suc k) (y ∷ ys) h = elim (next f ps s k ys h.1) [
  | inl w ↦ inl (y ∷ w.0, deeper f p ps s k y ys w.0 h.0 w.1)
  | inr never ↦ elim (leb_tells (suc y) (f p)) [
    | inl w ↦ inl (suc y ∷ none ps, raised f p ps s k y ys w.1 never)
    | inr w ↦ inr (full f p ps s k y ys (omega (arith, w.1)) never)
  ]
]

-- ------------------------------------------------------------------ as measures

matched : (b : Bool) (o : Ordering) → Passes b o → MatchBool b (IsTrue (is_lt o)) (IsTrue (is_le o))
matched true o h = h
matched false o h = h

unmatched : (b : Bool) (o : Ordering) → MatchBool b (IsTrue (is_lt o)) (IsTrue (is_le o)) → Passes b o
unmatched true o h = h
unmatched false o h = h

pub reaches_over : (g : Game) (p : ℕ) (c d : List ℕ) → Over (is_odd p) (kept g p) c d → Reaches g p (Counts c) (Counts d)
reaches_over g p c d o = matched (is_odd p) (slice_cmp nat_cmp (take (kept g p) c) (take (kept g p) d)) (over_to (is_odd p) (kept g p) c d o)

pub over_reaches : (g : Game) (p : ℕ) (c d : List ℕ) → Reaches g p (Counts c) (Counts d) → Over (is_odd p) (kept g p) c d
over_reaches g p c d r = over_from (is_odd p) (kept g p) c d (unmatched (is_odd p) (slice_cmp nat_cmp (take (kept g p) c) (take (kept g p) d)) r)

-- what is above what reaches also does
pub reaches_up : (g : Game) (p : ℕ) (m r s : Measure) → Reaches g p m r → IsAtMost r s → Reaches g p m s
reaches_up g p m r Top h i = tt
reaches_up g p m Top (Counts d) h i = absurd (true≢false (sym i))
reaches_up g p Top (Counts e) (Counts d) h i = h
reaches_up g p (Counts c) (Counts e) (Counts d) h i =
    reaches_over g p c d (more (is_odd p) (over_reaches g p c e h))
  where
    more : (b : Bool) → Over b (kept g p) c e → Over b (kept g p) c d
    more true o = over_trans true false (kept g p) c e d o (whole_fewer (kept g p) e d i)
    more false o = over_trans false false (kept g p) c e d o (whole_fewer (kept g p) e d i)

-- what reaches a measure also reaches those at most it
pub reaches_down : (g : Game) (p : ℕ) (m n r : Measure) → IsAtMost m n → Reaches g p n r → Reaches g p m r
reaches_down g p m n Top h i = tt
reaches_down g p m Top (Counts d) h i = absurd i
reaches_down g p Top (Counts e) (Counts d) h i = absurd (true≢false (sym h))
reaches_down g p (Counts c) (Counts e) (Counts d) h i = reaches_over g p c d
    (over_trans false (is_odd p) (kept g p) c e d (whole_fewer (kept g p) c e h) (over_reaches g p e d i))

pub prog_more : (g : Game) (p : ℕ) (m n r s : Measure) → IsAtMost m n → IsProg g p m r → IsProg g p n s → IsAtMost r s
prog_more g p m n r s h i j = i.least s j.measure (reaches_down g p m n s h j.reaches)

-- the least counts that are over these are their prog
pub least_prog : (g : Game) (p : ℕ) (c d : List ℕ) → IsLeastOver (count g) (components g) (is_odd p) (kept g p) c d → IsProg g p (Counts c) (Counts d)
least_prog g p c d is = record { measure = is.bounded; reaches = reaches_over g p c d is.over; least = least }
  where
    least : (x : Measure) → IsMeasure g x → Reaches g p (Counts c) x → IsAtMost (Counts d) x
    least Top b r = refl
    least (Counts e) b r =
        whole_to false (length (components g)) d e (omega (arith, AllZip-long (λ k q. k ≤ count g q) d (components g) is.bounded))
        (omega (arith, AllZip-long (λ k q. k ≤ count g q) e (components g) b)) (is.least e b (over_reaches g p c e r))

-- where no counts are over these, top is
pub none_prog : (g : Game) (p : ℕ) (c : List ℕ) → NoneOver (count g) (components g) (is_odd p) (kept g p) c → IsProg g p (Counts c) Top
none_prog g p c never = record { measure = tt; reaches = tt; least = least }
  where
    least : (x : Measure) → IsMeasure g x → Reaches g p (Counts c) x → IsAtMost Top x
    least Top b r = refl
    least (Counts d) b r = absurd (never d b (over_reaches g p c d r))

-- what is above all is the prog of top
pub top_prog : (g : Game) (p : ℕ) → IsProg g p Top Top
top_prog g p = record { measure = tt; reaches = tt; least = least }
  where
    least : (x : Measure) → IsMeasure g x → Reaches g p Top x → IsAtMost Top x
    least Top b r = refl
    least (Counts d) b r = absurd r

-- each measure has one
pub prog : (g : Game) (p : ℕ) (m : Measure) → IsMeasure g m → (r : Measure) × IsProg g p m r
prog g p Top h = (Top, top_prog g p)
prog g p (Counts c) h = elim (next (count g) (components g) (is_odd p) (kept g p) c h) [
  | inl w ↦ (Counts w.0, least_prog g p c w.0 w.1)
  | inr never ↦ (Top, none_prog g p c never)
]
