-- Tables whose values are at most those of every progress table.
use Rattle.measures.proofs.Common.{AllByRecursion, Some, option_map, ◌≡◌, ◌≢◌, ℕ, ◌+◌, ◌-◌, ◌<◌, ◌≤◌, Bool, true, false, List, [], ◌++◌, length, replicate}
use Rattle.measures.proofs.Common.{refl, sym, ap, subst, ◌∙◌, inl, inr, arith, if◌then◌else◌, slice_set, eqb_tells, ext_get_or, get_or-set_other}
use Rattle.measures.proofs.Common.{get_or-set_same, get_or-replicate, length-map, length-replicate, length-set, AllZip-long, Game, IsGame, count, greatest}
use Rattle.measures.proofs.Common.{vertex, Measure, Top, Counts, components, IsMeasure, IsProgress, opening, opening_value, value_at, zeros, bounds}
use Rattle.measures.proofs.Common.{IsOpening, IsPlain, IsSettled, IsTableStored, LiesBelow, GameTable, HasWidth, Rows}
use Rattle.measures.proofs.Bests.{its_successors}
use Rattle.measures.proofs.Carry.{none_is}
use Rattle.measures.proofs.Components.{odd_down_long}
use Rattle.game.proofs.Greatest.{greatest_limit}
use Rattle.measures.proofs.Lifts.{value_measure}
use Rattle.measures.proofs.Opening.{opening_at, opening_table, opening_under}

pub bounds_long : (g : Game) → length (bounds g) ≡ length (components g)
bounds_long g = length-map {B = ℕ} (components g) (count g)

-- a game has so many components at most
pub bounds_few : (g : Game) → IsGame g → length (bounds g) ≤ 16
bounds_few g game = let l = greatest_limit g game in let o = odd_down_long (greatest g) in let b = bounds_long g in omega arith

pub measure_width : (g : Game) (w : ℕ) (m : Measure) → w ≡ length (bounds g) → IsMeasure g m → HasWidth w m
measure_width g w Top e h = tt
measure_width g w (Counts c) e h = let a = AllZip-long (λ k q. k ≤ count g q) c (components g) h in let b = bounds_long g in omega arith

pub zeros_are : (g : Game) (w : ℕ) → w ≡ length (bounds g) → Counts (replicate w 0) ≡ zeros g
zeros_are g w e =
    let long : w ≡ length (components g) - 0 = let b = bounds_long g in omega arith in
    ap Counts (ap (λ n. replicate n 0) long ∙ sym (none_is (components g) 0))

pub padded_zeros : (g : Game) (counts : List ℕ) (w : ℕ) (m : Measure) → counts ≡ [] → w ≡ length (bounds g)
    → m ≡ Counts (counts ++ replicate (w - length counts) 0) → m ≡ zeros g
padded_zeros g counts w m none wide e =
    let whole : w - 0 ≡ w = omega arith in
    e ∙ (ap (λ cs. Counts (cs ++ replicate (w - length cs) 0)) none ∙ (ap (λ n. Counts (replicate n 0)) whole ∙ zeros_are g w wide))

-- ------------------------------------------------------------------ the opening table

pub opening_is : (g : Game) (v : ℕ) (top : Bool) → IsOpening g v top → value_at (opening g) v ≡ (if top then Top else zeros g)
opening_is g v top (x, at, e) = let z : 0 + v ≡ v = omega arith in opening_at g 0 g.vertices v x at
    ∙ subst (λ (u : ℕ). opening_value g u x ≡ (if top then Top else zeros g)) (sym z) e

pub opening_plain : (g : Game) (values : List Measure) → IsGame g → values ≡ opening g → IsPlain (record { game = g; values = values })
opening_plain g values game e = subst (λ (ms : List Measure). IsPlain (record { game = g; values = ms })) (sym e) (record {
  game = game;
  long = (opening_table g).0;
  below = λ v h. record { measure = value_measure g (opening g) (opening_table g).1 v; under = λ table is. opening_under g game table is v };
})

pub opening_below : (g : Game) (v : ℕ) → IsGame g → v < length g.vertices → LiesBelow g v (value_at (opening g) v)
opening_below g v game h = (opening_plain g (opening g) game refl).below v h

-- a value for each vertex, told one by one
pub same_values : (n : ℕ) (s t : List Measure) → length s ≡ n → length t ≡ n → ((v : ℕ) → v < n → value_at s v ≡ value_at t v) → s ≡ t
same_values n s t a b h = ext_get_or Top s t (omega arith) (λ v l. h v (omega arith))

-- ------------------------------------------------------------------ writing and settling

pub value_set_same : (values : List Measure) (v : ℕ) (m : Measure) → v < length values → value_at (slice_set values v m) v ≡ m
value_set_same values v m h = get_or-set_same values v m Top h

pub value_set_other : (values : List Measure) (v u : ℕ) (m : Measure) → u ≢ v → value_at (slice_set values v m) u ≡ value_at values u
value_set_other values v u m n = get_or-set_other values v u m Top n

pub set_plain : (t : GameTable) (v : ℕ) (m : Measure) → IsPlain t → v < length t.game.vertices → LiesBelow t.game v m
    → IsPlain (record { game = t.game; values = slice_set t.values v m })
set_plain t v m is h below = record {
  game = is.game;
  long = length-set t.values v m ∙ is.long;
  below = at;
}
  where
    at : (u : ℕ) → u < length t.game.vertices → LiesBelow t.game u (value_at (slice_set t.values v m) u)
    at u l = elim (eqb_tells u v) [
      | inl w ↦ subst (λ (k : ℕ). LiesBelow t.game k (value_at (slice_set t.values v m) k)) (sym w.1)
          (subst (LiesBelow t.game v) (sym (value_set_same t.values v m (let e = is.long in omega arith))) below)
      | inr w ↦ subst (LiesBelow t.game u) (sym (value_set_other t.values v u m w.1)) (is.below u l)
    ]

pub plain_settled : (t : GameTable) → IsPlain t → IsProgress t.game t.values → IsSettled t
plain_settled t is progress = record { game = is.game; least = record { progress = progress; under = λ v h. (is.below v h).under } }

-- ------------------------------------------------------------------ making the opening table

-- the values of the first vertices are those of the opening table, and the others are zeros
pub record IsOpened (g : Game) (v : ℕ) (r : Rows) : Type 0 where
  pub width : r.width ≡ length (bounds g)
  pub long : length r.values ≡ length g.vertices
  pub done : (u : ℕ) → u < v → value_at r.values u ≡ value_at (opening g) u
  pub rest : (u : ℕ) → v ≤ u → u < length g.vertices → value_at r.values u ≡ zeros g

pub opened_first : (g : Game) (n w : ℕ) (r : Rows) → n ≡ length g.vertices → w ≡ length (bounds g) → r.width ≡ w
    → r.values ≡ replicate n (Counts (replicate w 0)) → IsOpened g 0 r
opened_first g n w r many wide width values = record {
  width = width ∙ wide;
  long = ap length values ∙ (length-replicate n (Counts (replicate w 0)) ∙ many);
  done = λ u l. absurd (omega arith);
  rest = λ u l m. ap (λ ms. value_at ms u) values ∙ (get_or-replicate n u (Counts (replicate w 0)) Top (omega arith) ∙ zeros_are g w wide);
}

pub opened_left : (g : Game) (v : ℕ) (r : Rows) → IsOpened g v r → v < length g.vertices → IsOpening g v false → IsOpened g (v + 1) r
opened_left g v r is h left = record {
  width = is.width;
  long = is.long;
  done = λ u l. elim (eqb_tells u v) [
    | inl w ↦ subst (λ (k : ℕ). value_at r.values k ≡ value_at (opening g) k) (sym w.1) (is.rest v (omega arith) h ∙ sym (opening_is g v false left))
    | inr w ↦ (let n = w.1 in is.done u (omega arith))
  ];
  rest = λ u l m. is.rest u (omega arith) m;
}

pub opened_top : (g : Game) (v : ℕ) (r new : Rows) (m : Measure) → IsOpened g v r → v < length g.vertices → IsOpening g v true → m ≡ Top
    → new ≡ record { width = r.width; values = slice_set r.values v m } → IsOpened g (v + 1) new
opened_top g v r new m is h top e set = record {
  width = ap (λ (s : Rows). s.width) set ∙ is.width;
  long = ap (λ (s : Rows). length s.values) set ∙ (length-set r.values v m ∙ is.long);
  done = λ u l. ap (λ (s : Rows). value_at s.values u) set ∙ done u l;
  rest = λ u l k. ap (λ (s : Rows). value_at s.values u) set ∙ (value_set_other r.values v u m (λ q. omega arith) ∙ is.rest u (omega arith) k);
}
  where
    done : (u : ℕ) → u < v + 1 → value_at (slice_set r.values v m) u ≡ value_at (opening g) u
    done u l = elim (eqb_tells u v) [
      | inl w ↦ subst (λ (k : ℕ). value_at (slice_set r.values v m) k ≡ value_at (opening g) k) (sym w.1)
          (value_set_same r.values v m (let long = is.long in omega arith) ∙ (e ∙ sym (opening_is g v true top)))
      | inr w ↦ (let n = w.1 in value_set_other r.values v u m n ∙ is.done u (omega arith))
    ]

pub opened_whole : (g : Game) (v : ℕ) (r : Rows) → IsOpened g v r → length g.vertices ≤ v → r.values ≡ opening g
opened_whole g v r is h = same_values (length g.vertices) r.values (opening g) is.long (opening_table g).0 (λ u l. is.done u (omega arith))

-- ------------------------------------------------------------------ as they are stored

pub stored_width : (g edges : Game) (limits : List ℕ) (w : ℕ) (values : List Measure) → IsTableStored (record { game = g; values = values }) limits w edges
    → w ≡ length (bounds g)
stored_width g edges limits w values is = is.wide ∙ ap length is.bounded

-- a stored table under the name that a call gives its game
pub stored_as : (of g edges : Game) (limits : List ℕ) (w : ℕ) (values : List Measure) → of ≡ g → IsTableStored (record { game = of; values = values }) limits w edges
    → IsPlain (record { game = g; values = values }) × (length (components g) ≡ w)
stored_as of g edges limits w values same is = (
  subst (λ (h : Game). IsPlain (record { game = h; values = values })) same is.plain,
  sym (stored_width of edges limits w values is ∙ (bounds_long of ∙ ap (λ (h : Game). length (components h)) same)),
)

-- what is told of a vertex by the name of the table's game
module _ (of g : Game) (values : List Measure) (plain : IsPlain (record { game = of; values = values })) (same : of ≡ g) (v : ℕ)
    (h : v < length g.vertices) where
  pub value_here : v < length values
  value_here = omega (arith, h, plain.long, ap (λ (k : Game). length k.vertices) same)

  pub values_there : (ts : List ℕ) → option_map (λ x. x.successors) (vertex g v) ≡ Some ts → AllByRecursion (λ t. t < length values) ts × (0 < length ts)
  values_there ts e =
      let long : length g.vertices ≡ length values = ap (λ (k : Game). length k.vertices) (sym same) ∙ sym plain.long in
      subst (λ n. AllByRecursion (λ t. t < n) ts × (0 < length ts)) long (its_successors g (subst IsGame same plain.game) v h ts e)

pub set_stored : (g edges noted : Game) (limits : List ℕ) (r new : Rows) (v : ℕ) (m : Measure)
    → IsTableStored (record { game = g; values = r.values }) limits r.width edges → v < length g.vertices → LiesBelow g v m
    → new ≡ record { width = r.width; values = slice_set r.values v m } → noted ≡ edges
    → IsTableStored (record { game = g; values = new.values }) limits new.width noted
set_stored g edges noted limits r new v m is h below e same = subst (λ (s : Rows). IsTableStored (record { game = g; values = s.values }) limits s.width noted)
    (sym e) (record {
      plain = set_plain (record { game = g; values = r.values }) v m is.plain h below;
      bounded = is.bounded;
      wide = is.wide;
      edges_are = same ∙ is.edges_are;
    })
