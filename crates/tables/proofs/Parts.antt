-- Shards, filled place by place and raised.
use Rattle.measures.proofs.Common.{◌≡◌, ℕ, ◌+◌, ◌*◌, ◌/◌, ◌%◌, ◌<◌, ◌≤◌, true, false, length, replicate, sym, ap, subst, ◌∙◌, inl, inr, arith}
use Rattle.measures.proofs.Common.{lt_of_lt_of_le, slice_set, eqb_tells, length-set, length-replicate, get_or-replicate, Game, IsGame, Measure, Top, Counts}
use Rattle.measures.proofs.Common.{opening, value_at, zeros, bounds, components, IsOpening, LiesBelow, Rows}
use Rattle.std.specs.Int.{div_ceil}
use Rattle.std.proofs.lemmas.Grind.{div_ceil_times}
use Rattle.std.proofs.lemmas.Nat.{div-add-mod', div-mul-add}
use Rattle.std.proofs.Math.Nat.{div-lt_iff_lt-mul}
use Rattle.measures.proofs.Plain.{bounds_long, opening_below, opening_is, value_set_other, value_set_same, zeros_are}
use Rattle.tables.specs.Part.{IsStoredPart}

-- a vertex of a shard is told by its place
pub vertex_is : (v shards index place : ℕ) → v % shards ≡ index → v / shards ≡ place → v ≡ place * shards + index
vertex_is v shards index place here at = sym (div-add-mod' v shards) ∙ (ap (λ k. k * shards + v % shards) at ∙ ap (λ k. place * shards + k) here)

-- there are so many places
pub place_less : (v n shards : ℕ) → 0 < shards → v < n → v / shards < div_ceil n shards
place_less v n shards some h = (div-lt_iff_lt-mul some).1 (lt_of_lt_of_le h (div_ceil_times n shards some).0)

-- ------------------------------------------------------------------ filling

-- the values of the first places are opening values, and the others are zeros
pub record IsFilled (g : Game) (index shards place : ℕ) (r : Rows) : Type 0 where
  pub width : r.width ≡ length (bounds g)
  pub long : (v : ℕ) → v < length g.vertices → v / shards < length r.values
  pub done : (v : ℕ) → v < length g.vertices → v % shards ≡ index → v / shards < place → value_at r.values (v / shards) ≡ value_at (opening g) v
  pub rest : (k : ℕ) → place ≤ k → k < length r.values → value_at r.values k ≡ zeros g

pub filled_first : (g : Game) (index shards n w : ℕ) (r : Rows) → 0 < shards → n ≡ length g.vertices → w ≡ length (components g) → r.width ≡ w
    → r.values ≡ replicate (div_ceil n shards) (Counts (replicate w 0)) → IsFilled g index shards 0 r
filled_first g index shards n w r some many wide width values = record {
  width = width ∙ is;
  long = λ v h. let m = place_less v n shards some (omega (arith, h, many)) in omega (arith, m, long);
  done = λ v h here l. absurd (omega arith);
  rest = λ k l h. ap (λ ms. value_at ms k) values ∙ (get_or-replicate (div_ceil n shards) k (Counts (replicate w 0)) Top (omega (arith, h, long))
      ∙ zeros_are g w is);
}
  where
    is : w ≡ length (bounds g)
    is = wide ∙ sym (bounds_long g)

    long : length r.values ≡ div_ceil n shards
    long = ap length values ∙ length-replicate (div_ceil n shards) (Counts (replicate w 0))

pub filled_inside : (g : Game) (index shards place v : ℕ) (r : Rows) → IsFilled g index shards place r → index < shards → v ≡ place * shards + index
    → v < length g.vertices → place < length r.values
filled_inside g index shards place v r is less at h =
    let place_of : v / shards ≡ place = ap (λ k. k / shards) at ∙ div-mul-add place shards index less in
    let i = is.long v h in
    omega (arith, i, place_of)

-- a place whose vertex has no other opening value than zeros, if it has a vertex
pub filled_left : (g : Game) (index shards place : ℕ) (r : Rows) → IsFilled g index shards place r
    → ((v : ℕ) → v ≡ place * shards + index → v < length g.vertices → IsOpening g v false) → IsFilled g index shards (place + 1) r
filled_left g index shards place r is zero = record {
  width = is.width;
  long = is.long;
  done = λ v h here l. elim (eqb_tells (v / shards) place) [
    | inl w ↦ is.rest (v / shards) (let e = w.1 in omega arith) (is.long v h) ∙ sym (opening_is g v false (zero v (vertex_is v shards index place here w.1) h))
    | inr w ↦ is.done v h here (let n = w.1 in omega arith)
  ];
  rest = λ k l h. is.rest k (omega arith) h;
}

-- a place whose vertex has top
pub filled_top : (g : Game) (index shards place v : ℕ) (r new : Rows) (m : Measure) → IsFilled g index shards place r → index < shards
    → v ≡ place * shards + index → v < length g.vertices
    → IsOpening g v true → m ≡ Top → new ≡ record { width = r.width; values = slice_set r.values place m } → IsFilled g index shards (place + 1) new
filled_top g index shards place v r new m is less at h top e set = record {
  width = ap (λ (s : Rows). s.width) set ∙ is.width;
  long = λ u l. let i = is.long u l in omega (arith, i, long);
  done = λ u l here k. ap (λ (s : Rows). value_at s.values (u / shards)) set ∙ done u l here k;
  rest = λ k l i. ap (λ (s : Rows). value_at s.values k) set
      ∙ (value_set_other r.values place k m (λ q. omega arith) ∙ is.rest k (omega arith) (omega (arith, i, long)));
}
  where
    long : length new.values ≡ length r.values
    long = ap (λ (s : Rows). length s.values) set ∙ length-set r.values place m

    inside : place < length r.values
    inside = filled_inside g index shards place v r is less at h

    done : (u : ℕ) → u < length g.vertices → u % shards ≡ index → u / shards < place + 1
        → value_at (slice_set r.values place m) (u / shards) ≡ value_at (opening g) u
    done u l here k = elim (eqb_tells (u / shards) place) [
      | inl w ↦ subst (λ q. value_at (slice_set r.values place m) q ≡ value_at (opening g) u) (sym w.1)
          (value_set_same r.values place m inside ∙ (e ∙ (sym (opening_is g v true top)
          ∙ ap (value_at (opening g)) (at ∙ sym (vertex_is u shards index place here w.1)))))
      | inr w ↦ (let n = w.1 in value_set_other r.values place (u / shards) m n ∙ is.done u l here (omega arith))
    ]

-- ------------------------------------------------------------------ what is stored

pub filled_part : (g : Game) (index shards place : ℕ) (r : Rows) → IsGame g → 0 < shards → IsFilled g index shards place r
    → ((v : ℕ) → v < length g.vertices → v / shards < place)
    → IsStoredPart g (record { index = index; shards = shards; values = r.values }) r.width
filled_part g index shards place r game some is all = record {
  part = record {
    game = game;
    some = some;
    long = is.long;
    below = λ v h here. subst (LiesBelow g v) (sym (is.done v h here (all v h))) (opening_below g v game h);
  };
  wide = is.width;
}
