-- Lifts of greater tables are greater.
use Rattle.measures.proofs.Common.{◌≡◌, ℕ, ◌≤◌, Bool, true, false, if◌then◌else◌, List, [], ◌∷◌, length, map, refl, sym, ap, subst, ◌∙◌, arith, Contains}
use Rattle.measures.proofs.Common.{Some, AllZip, AllByRecursion, is_lt, length-map, AllZip-long, Player, Even, Odd, Vertex, Game, vertex, IsVertex, IsGame}
use Rattle.measures.proofs.Common.{Measure, IsMeasure, measure_cmp, IsAtMost, IsProg, greater_of, IsBestFor, IsLiftAt, IsProgress, IsTable, value_at}
pub use Rattle.measures.specs.Progress.{LiesUnder}
use Rattle.measures.proofs.Lists.{all_got, all_contained, zip_back, zip_on, zip_made}
use Rattle.measures.proofs.Measures.{at_most_both, at_most_itself, at_most_trans, below_at_most, prog, prog_more}
use Rattle.measures.proofs.Lifts.{best_for, settled, value_measure}

pub best_more : (g : Game) (p : ℕ) (f h : ℕ → Measure) → ((t : ℕ) → IsAtMost (f t) (h t))
    → (ts : List ℕ) (o : Player) (progs rises : List Measure) (best more : Measure)
    → AllZip (IsProg g p) (map f ts) progs → AllZip (IsProg g p) (map h ts) rises → IsBestFor o progs best → IsBestFor o rises more → IsAtMost best more
best_more g p f h l ts Even progs rises best more z w b c =
    let t = zip_back (IsProg g p) h ts rises more w c.0 in
    let r = zip_on (IsProg g p) (λ m. IsAtMost best m) f ts progs t.0 z b.1 t.1 in
    at_most_trans best r.0 more r.2 (prog_more g p (f t.0) (h t.0) r.0 more (l t.0) r.1 t.2)
best_more g p f h l ts Odd progs rises best more z w b c =
    let t = zip_back (IsProg g p) f ts progs best z b.0 in
    let r = zip_on (IsProg g p) (λ m. IsAtMost m more) h ts rises t.0 w c.1 t.1 in
    at_most_trans best r.0 more (prog_more g p (f t.0) (h t.0) best r.0 (l t.0) t.2 r.1) r.2

-- either of two has it, and so has the greater
pub greater_has : (P : Measure → Type 0) (own best : Measure) → P own → P best → P (greater_of own best)
greater_has P own best h i = by (is_lt (measure_cmp own best))
  where
    by : (b : Bool) → P (if b then best else own)
    by true = i
    by false = h

pub greater_rises : (own best : Measure) → IsAtMost own (greater_of own best)
greater_rises own best = by (is_lt (measure_cmp own best)) refl
  where
    by : (b : Bool) → is_lt (measure_cmp own best) ≡ b → IsAtMost own (if b then best else own)
    by true e = below_at_most own best e
    by false e = at_most_itself own

-- a lift doesn't lower a value
pub lift_rises : (g : Game) (table : List Measure) (v : ℕ) (r : Measure) → IsLiftAt g table v r → IsAtMost (value_at table v) r
lift_rises g table v r (x, at, (progs, best, zipped, b, e)) = subst (λ m. IsAtMost (value_at table v) m) (sym e) (greater_rises (value_at table v) best)

-- a lift of a table under a progress table stays under it
pub lift_under : (g : Game) (table other : List Measure) → IsGame g → IsProgress g other → LiesUnder table other → (v : ℕ) (r : Measure)
    → IsLiftAt g table v r → IsAtMost r (value_at other v)
lift_under g table other game is under v r (x, at, (progs, best, zipped, b, e)) =
    let s = settled g other game is v x at in
    let low = best_more g x.priority (value_at table) (value_at other) under x.successors x.owner progs s.progs best s.best zipped s.zipped b s.best_is in
    subst (λ m. IsAtMost m (value_at other v)) (sym e)
    (greater_has (λ m. IsAtMost m (value_at other v)) (value_at table v) best (under v) (at_most_trans best s.best (value_at other v) low s.under))

-- a table has one lift at a vertex
pub lift_one : (g : Game) (table : List Measure) (v : ℕ) (r s : Measure) → IsLiftAt g table v r → IsLiftAt g table v s → r ≡ s
lift_one g table v r s (x, at, (progs, best, zipped, b, e)) (y, is, (rises, more, zips, c, d)) =
    let q : y ≡ x = cc (at, is) in
    let zips' = subst (λ z. AllZip (IsProg g z.priority) (map (value_at table) z.successors) rises) q zips in
    let c' = subst (λ z. IsBestFor z.owner rises more) q c in
    let same = λ (t : ℕ). at_most_itself (value_at table t) in
    let low = best_more g x.priority (value_at table) (value_at table) same x.successors x.owner progs rises best more zipped zips' b c' in
    let high = best_more g x.priority (value_at table) (value_at table) same x.successors x.owner rises progs more best zips' zipped c' b in
    e ∙ (ap (greater_of (value_at table v)) (at_most_both best more low high) ∙ sym d)

pub right_all : (g : Game) (p : ℕ) (ms progs : List Measure) → AllZip (IsProg g p) ms progs → AllByRecursion (IsMeasure g) progs
right_all g p [] [] h = tt
right_all g p [] (r ∷ rs) h = absurd h
right_all g p (m ∷ ms) [] h = absurd h
right_all g p (m ∷ ms) (r ∷ rs) h = (h.0.measure, right_all g p ms rs h.1)

pub best_one_of : (o : Player) (ms : List Measure) (b : Measure) → IsBestFor o ms b → Contains ms b
best_one_of Even ms b h = h.0
best_one_of Odd ms b h = h.0

pub lift_measure : (g : Game) (table : List Measure) → IsTable g table → (v : ℕ) (r : Measure) → IsLiftAt g table v r → IsMeasure g r
lift_measure g table is v r (x, at, (progs, best, zipped, b, e)) =
    subst (IsMeasure g) (sym e) (greater_has (IsMeasure g) (value_at table v) best (value_measure g table is.1 v)
    (all_contained (IsMeasure g) progs best (right_all g x.priority (map (value_at table) x.successors) progs zipped) (best_one_of x.owner progs best b)))

-- and it has one at each vertex
pub lift_at : (g : Game) → IsGame g → (table : List Measure) → IsTable g table → (v : ℕ) (x : Vertex) → vertex g v ≡ Some x → (r : Measure)
    × IsLiftAt g table v r
lift_at g game table is v x at =
    let some : 1 ≤ length x.successors = (all_got (IsVertex (length g.vertices)) g.vertices v x game.vertices at).some in
    let made = zip_made (IsProg g x.priority) (value_at table) x.successors (λ t. prog g x.priority (value_at table t) (value_measure g table is.1 t)) in
    let long : length made.0 ≡ length x.successors = AllZip-long (IsProg g x.priority) (map (value_at table) x.successors) made.0 made.1
    ∙ length-map x.successors (value_at table) in
    let best = best_for x.owner made.0 (omega (arith, some, long)) in
    (greater_of (value_at table v) best.0, (x, at, (made.0, best.0, made.1, best.1, refl)))
