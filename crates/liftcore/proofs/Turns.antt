-- What is read lies below.
use Rattle.std.proofs.Common.{◌≡◌, ℕ, ◌+◌, ◌<◌, true, false, List, length, take, sym, ◌∙◌, ap, subst, inl, inr, arith, Option, Some, None, slice_index}
use Rattle.std.proofs.Common.{slice_index_or, slice_set, option_map, refl}
use Rattle.std.proofs.lemmas.Bool.{cases_eq}
use Rattle.std.proofs.lemmas.List.{get_or-set_other, get_or-set_same, get_or-take, length-set, length-take-le}
use Rattle.std.proofs.lemmas.Option.{slice_get_within}
use Rattle.std.specs.List.{AllByRecursion}
use Rattle.game.specs.Game.{Game, Vertex, vertex}
use Rattle.game.specs.Predecessors.{successors_at}
use Rattle.measures.specs.Measure.{IsMeasure, Measure, Top}
use Rattle.measures.specs.Progs.{IsDemandOf}
use Rattle.measures.specs.Tables.{LiesBelow}
use Rattle.measures.proofs.Demands.{EachBelow, demand_below}
use Rattle.measures.proofs.Lists.{all_from}
use Rattle.game.proofs.Placing.{successors_of as successors_are}
use Rattle.liftcore.specs.Reading.{AreRead, IsReading, SuccessorReading, successors_read, values_of}

-- what has a successor is a vertex
pub vertex_within : (g : Game) (v k : ℕ) → k < length (successors_at (vertex g v)) → v < length g.vertices
vertex_within g v k h = by (vertex g v) (λ x. slice_get_within g.vertices v x) h
  where
    by : (o : Option Vertex) → ((x : Vertex) → o ≡ Some x → v < length g.vertices) → k < length (successors_at o) → v < length g.vertices
    by None f h = absurd (omega arith)
    by (Some x) f h = f x refl

place_within : (r : SuccessorReading) (k : ℕ) → IsReading r → k < length (successors_read r) → k < length r.marks
place_within r k is h = omega (arith, is.room r.vertex (vertex_within r.game r.vertex k h))

-- one more value
abbrev pub noted : SuccessorReading → ℕ → Measure → SuccessorReading
noted r place value = record { game = r.game; vertex = r.vertex; marks = slice_set r.marks place true; values = slice_set r.values place value }

pub note_keeps : (r : SuccessorReading) (place : ℕ) (value : Measure) → IsReading r → place < length (successors_read r)
    → LiesBelow r.game (slice_index (successors_read r) place) value → IsReading (noted r place value)
note_keeps r place value is h below = record {
  game = is.game;
  even = length-set r.values place value ∙ is.even ∙ sym (length-set r.marks place true);
  room = λ v in'. omega (arith, is.room v in', length-set r.marks place true);
  below = λ k in' mark. elim (cases_eq k place) [
    | inl q ↦ (
        let here : slice_index_or (slice_set r.values place value) place Top
        ≡ value = get_or-set_same r.values place value Top (omega (arith, place_within r place is h, is.even)) in
        subst (λ (k : ℕ). LiesBelow r.game (slice_index (successors_read r) k) (slice_index_or (slice_set r.values place value) k Top)) (sym q)
        (subst (LiesBelow r.game (slice_index (successors_read r) place)) (sym here) below)
        )
    | inr q ↦ (
        let old : slice_index_or r.marks k false ≡ true = sym (get_or-set_other r.marks place k true false q) ∙ mark in
        subst (LiesBelow r.game (slice_index (successors_read r) k)) (sym (get_or-set_other r.values place k value Top q)) (is.below k in' old)
        )
  ];
}

pub read_more : (r : SuccessorReading) (place : ℕ) (value : Measure) → IsReading r → place < length (successors_read r) → AreRead r place
    → AreRead (noted r place value) (place + 1)
read_more r place value is h all k in' = elim (cases_eq k place) [
  | inl q ↦ subst (λ (k : ℕ). slice_index_or (slice_set r.marks place true) k false ≡ true) (sym q)
      (get_or-set_same r.marks place true false (place_within r place is h))
  | inr q ↦ get_or-set_other r.marks place k true false q ∙ all k (omega arith)
]

values_long : (r : SuccessorReading) → IsReading r → r.vertex < length r.game.vertices → length (values_of r) ≡ length (successors_read r)
values_long r is h = length-take-le (length (successors_read r)) r.values (omega (arith, is.even, is.room r.vertex h))

pub values_below : (r : SuccessorReading) → IsReading r → r.vertex < length r.game.vertices → AreRead r (length (successors_read r))
    → EachBelow r.game (successors_read r) (values_of r)
values_below r is h all k in' =
    let inside : k < length (successors_read r) = omega (arith, values_long r is h) in
    subst (LiesBelow r.game (slice_index (successors_read r) k)) (sym (get_or-take (length (successors_read r)) r.values k Top inside))
    (is.below k inside (all k inside))

pub values_measures : (r : SuccessorReading) → IsReading r → r.vertex < length r.game.vertices → AreRead r (length (successors_read r))
    → AllByRecursion (IsMeasure r.game) (values_of r)
values_measures r is h all = all_from (IsMeasure r.game) (values_of r) Top (λ k in'. (values_below r is h all k in').measure)

pub lifted_below : (r : SuccessorReading) (m : Measure) → IsReading r → r.vertex < length r.game.vertices → AreRead r (length (successors_read r))
    → IsDemandOf r.game r.vertex (values_of r) m
    → LiesBelow r.game r.vertex m
lifted_below r m is h all (x, at, (progs, z, b)) =
    let here : successors_read r ≡ x.successors = ap successors_at at in
    demand_below r.game r.vertex (values_of r) m x is.game at (values_long r is h ∙ ap length here)
    (subst (λ (xs : List ℕ). EachBelow r.game xs (values_of r)) here (values_below r is h all)) progs z b

-- The same as code has it: these are the successors, and these are the values from the first on.
pub record HasRead (g : Game) (now r : SuccessorReading) (ts : List ℕ) (values : List Measure) : Type 0 where
  pub view : r ≡ now
  pub is : IsReading r
  pub same : now.game ≡ g
  pub inside : now.vertex < length g.vertices
  pub all : AreRead now (length (successors_read now))
  pub at : option_map (λ (x : Vertex). x.successors) (vertex g r.vertex) ≡ Some ts
  pub stored : values ≡ r.values

successors_here : (g : Game) (now r : SuccessorReading) (ts : List ℕ) (values : List Measure) → HasRead g now r ts values → successors_read now ≡ ts
successors_here g now r ts values h =
    ap (λ (g : Game). successors_at (vertex g now.vertex)) h.same
    ∙ ap (λ (r : SuccessorReading). successors_at (vertex g r.vertex)) (sym h.view)
    ∙ successors_are (vertex g r.vertex) ts h.at

values_here : (g : Game) (now r : SuccessorReading) (ts : List ℕ) (values : List Measure) → HasRead g now r ts values → values_of now ≡ take (length ts) values
values_here g now r ts values h =
    ap (λ (xs : List ℕ). take (length xs) now.values) (successors_here g now r ts values h)
    ∙ ap (take (length ts)) (sym (h.stored ∙ ap (λ (r : SuccessorReading). r.values) h.view))

inside_here : (g : Game) (now r : SuccessorReading) (ts : List ℕ) (values : List Measure) → HasRead g now r ts values → now.vertex < length now.game.vertices
inside_here g now r ts values h = subst (λ (g : Game). now.vertex < length g.vertices) (sym h.same) h.inside

pub code_measures : (g : Game) (now r : SuccessorReading) (ts : List ℕ) (values : List Measure) → HasRead g now r ts values
    → AllByRecursion (IsMeasure g) (take (length ts) values)
code_measures g now r ts values h =
    let is = subst IsReading h.view h.is in
    subst (λ (vs : List Measure). AllByRecursion (IsMeasure g) vs) (values_here g now r ts values h)
    (subst (λ (g : Game). AllByRecursion (IsMeasure g) (values_of now)) h.same (values_measures now is (inside_here g now r ts values h) h.all))

pub code_below : (g : Game) (now r : SuccessorReading) (ts : List ℕ) (values : List Measure) (m : Measure) → HasRead g now r ts values
    → IsDemandOf g r.vertex (take (length ts) values) m
    → LiesBelow g now.vertex m
code_below g now r ts values m h d =
    let is = subst IsReading h.view h.is in
    let d' : IsDemandOf g now.vertex (values_of now) m =
    subst (λ (vs : List Measure). IsDemandOf g now.vertex vs m) (sym (values_here g now r ts values h))
    (subst (λ (r : SuccessorReading). IsDemandOf g r.vertex (take (length ts) values) m) h.view d) in
    subst (λ (g : Game). LiesBelow g now.vertex m) h.same
    (lifted_below now m is (inside_here g now r ts values h) h.all (subst (λ (g : Game). IsDemandOf g now.vertex (values_of now) m) (sym h.same) d'))
