-- Proposals that are stored in packed numbers.
use Rattle.measures.proofs.Common.{◌≡◌, ◌≢◌, ℕ, zero, suc, slice_index, get_or_default, ◌<◌, ◌≤◌, List, [], ◌∷◌, length, refl, ap, ap₂}
use Rattle.measures.proofs.Common.{get_or-map-range_with_len, length-map-range_with_len, ◌∙◌, ◌⊎◌, subst, inl, inr, arith, leb_tells, get_or_past}
use Rattle.measures.proofs.Common.{AllZip, AllZip-long, Some, Ordering, Less, Equal, nat_cmp, opponent, Player, Even, Odd}
use Rattle.measures.proofs.Common.{Vertex, Game, count, vertex, components, Measure, Top, Counts, IsMeasure, measure_cmp, value_at, counts_of}
use Rattle.measures.specs.Measure.{counted_at, cut, digit_of}
use Rattle.measures.specs.declared.proposal.PlayerLayout.{PlayerLayout}
use Rattle.measures.specs.Proposal.{AreEnough, HasAllButOne, HasAsMuch, HasReasonsFor, HeightFalls, IsFirstMoveBy, IsReason, MatchUpTo, Proposal}
use Rattle.measures.specs.StoredProposal.{AreBoundsIn, height_in, layout_of, shift_in, value_of, values_of}
use Rattle.measures.specs.declared.proposal.Proposals.{Proposals}
use Rattle.measures.proofs.Places.{place_contained}

-- ------------------------------------------------------------------ shifts

pub risen : (layout : PlayerLayout) (n : ℕ) → length layout.shifts ≤ n → ((p : ℕ) → p < n → shift_in layout p ≤ shift_in layout (suc p)) → (p : ℕ)
    → shift_in layout p ≤ shift_in layout (suc p)
risen layout n long below p = elim (leb_tells n p) [
  | inl w ↦ (let l = w.1 in let past = get_or_past layout.shifts (suc p) 63 (omega arith) in omega (arith, past))
  | inr w ↦ below p w.1
]

-- ------------------------------------------------------------------ values

pub value_there : (player : Player) (c : Proposals) (v : ℕ) → v < c.vertices
    → value_at (values_of player c) v ≡ value_of player (layout_of player c) (height_in c 0 v)
value_there player c v h = get_or-map-range_with_len (λ u. value_of player (layout_of player c) (height_in c 0 u)) 0 c.vertices v v Top h (omega arith)

pub values_long : (player : Player) (c : Proposals) → length (values_of player c) ≡ c.vertices
values_long player c = length-map-range_with_len (λ v. value_of player (layout_of player c) (height_in c 0 v)) 0 c.vertices

pub value_past : (player : Player) (c : Proposals) (v : ℕ) → c.vertices ≤ v → value_at (values_of player c) v ≡ Top
value_past player c v h = get_or_past (values_of player c) v Top (let long = values_long player c in omega arith)

-- ------------------------------------------------------------------ an edge

pub as_much : (c : Proposal) (digit p v t at : ℕ) (own other : Measure) → at ≡ counted_at c.game digit → Less ≡ nat_cmp p at → own ≡ value_at c.values v
    → other ≡ value_at c.values t → Equal ≡ measure_cmp (cut digit own) (cut digit other) → HeightFalls c digit p v t → IsReason c digit p v t
unfolding IsReason
as_much c digit p v t at own other e less o r equal falls =
    subst (λ (z : Ordering). MatchUpTo z (HasAsMuch c digit p v t) (HasAllButOne c.values digit v t)) (less ∙ ap (nat_cmp p) e)
    (subst (λ (z : Ordering). MatchUpTo z (Unit {0}) (HeightFalls c digit p v t))
    (equal ∙ ap₂ (λ (a b : Measure). measure_cmp (cut digit a) (cut digit b)) o r) falls)

-- ------------------------------------------------------------------ the edges of a vertex

-- what a loop over successors that hasn't ended found of each
abbrev pub Undecided : Player → (ℕ → Type 0) → ℕ → Type 0
Undecided Even P t = P t
Undecided Odd P t = Unit {0}

-- where the loop has ended
pub none_decides : (asker : Player) (P : ℕ → Type 0) (ts : List ℕ) (n : ℕ) → length ts ≤ n → ((i : ℕ) → i < n → Undecided asker P (slice_index ts i))
    → asker ≢ Odd → AreEnough asker P ts
none_decides Even P ts n past all differs = λ t has.
    let inside = has.1 in subst P (get_or_default ts has.0 0 t inside ∙ has.2) (all has.0 (omega arith))
none_decides Odd P ts n past all differs = absurd (differs refl)

-- A move's owner reaches enough.
pub enough_for : (o : Player) (P : ℕ → Type 0) (ts : List ℕ) (next : ℕ) → IsFirstMoveBy o P ts next → AreEnough (opponent o) P ts
enough_for Even P ts next m = (next, place_contained ts m.place next m.inside m.there, m.holds)
enough_for Odd P ts next m = m.1

-- ------------------------------------------------------------------ a vertex

pub reasons_for : (c : Proposal) (x : Vertex) (v digit : ℕ) → vertex c.game v ≡ Some x
    → (digit_of (value_at c.values v) digit ≡ 0) ⊎ AreEnough x.owner (IsReason c digit x.priority v) x.successors → HasReasonsFor c digit v
reasons_for c x v digit at (inl none) = λ some. absurd (some none)
reasons_for c x v digit at (inr enough) = λ some. (x, at, enough)

within_bounds : (f : ℕ → ℕ) (cs bs ps : List ℕ) → AllZip (λ count bound. count ≤ bound) cs bs → AllZip (λ bound p. bound ≤ f p) bs ps
    → AllZip (λ count p. count ≤ f p) cs ps
within_bounds f [] [] [] h b = tt
within_bounds f [] [] (p ∷ ps) h b = absurd b
within_bounds f [] (x ∷ bs) ps h b = absurd h
within_bounds f (c ∷ cs) [] ps h b = absurd h
within_bounds f (c ∷ cs) (x ∷ bs) [] h b = absurd b
within_bounds f (c ∷ cs) (x ∷ bs) (p ∷ ps) h b = (omega (arith, h.0, b.0), within_bounds f cs bs ps h.1 b.1)

pub all_within : (cs bs : List ℕ) (n : ℕ) → length cs ≡ length bs → length cs ≤ n → ((i : ℕ) → i < n → slice_index cs i ≤ slice_index bs i)
    → AllZip (λ count bound. count ≤ bound) cs bs
all_within [] [] n same past h = tt
all_within [] (b ∷ bs) n same past h = absurd (omega arith)
all_within (c ∷ cs) [] n same past h = absurd (omega arith)
all_within (c ∷ cs) (b ∷ bs) zero same past h = absurd (omega arith)
all_within (c ∷ cs) (b ∷ bs) (suc n) same past h =
    (h 0 (omega arith), all_within cs bs n (omega arith) (omega arith) (λ i below. h (suc i) (omega arith)))

pub measure_bounded : (g : Game) (m : Measure) (bounds : List ℕ) → AreBoundsIn g bounds
    → (m ≢ Top → AllZip (λ count bound. count ≤ bound) (counts_of m) bounds) → IsMeasure g m
measure_bounded g Top bounds b h = tt
measure_bounded g (Counts cs) bounds b h = within_bounds (count g) cs bounds (components g) (h (λ e. absurd cc)) b

pub bounds_wide : (g : Game) (bounds : List ℕ) → AreBoundsIn g bounds → length (components g) ≡ length bounds
bounds_wide g bounds b = let l = AllZip-long (λ bound p. bound ≤ count g p) bounds (components g) b in omega (arith, l)
