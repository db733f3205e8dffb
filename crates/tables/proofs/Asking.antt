-- What a vertex asks for, its successors read one after another.
use Rattle.measures.proofs.Common.{◌≡◌, ℕ, suc, ◌<◌, ◌≤◌, ◌⊎◌, max, List, [], ◌∷◌, ◌++◌, length, take, take-suc, sym, subst, ap, refl, ◌∙◌, inl, inr, arith}
use Rattle.measures.proofs.Common.{leb_tells, Some, slice_index, AllZip, Contains-append_left, Contains-append_right, Player, Even, Odd, Game, Vertex, vertex}
use Rattle.measures.proofs.Common.{height, Measure, IsAtMost, IsProg, IsBestFor, option_map}
use Rattle.std.proofs.Common.{min, append_assoc, length-append}
use Rattle.std.proofs.lemmas.List.{append-nil, length-take-le, take_all}
use Rattle.std.proofs.lemmas.List.Elements.{AllZip-push}
use Rattle.game.proofs.Rows.{all_more}
use Rattle.game.specs.Predecessors.{successors_at}
use Rattle.measures.specs.Lifting.{better_of, of_rank, worst_of}
use Rattle.measures.proofs.Bests.{best_single, vertex_here, vertex_tells}
use Rattle.measures.proofs.Lists.{all_weaker, contains_first}
use Rattle.measures.proofs.Measures.{at_most_itself, at_most_trans}
use Rattle.measures.proofs.Numbers.{of_rank_up}
use Rattle.tables.proofs.Reading.{reads_next}
use Rattle.tables.specs.Turns.{Asks, By, reads}
use Rattle.tables.specs.declared.access.Access.{Access}
use Rattle.tables.specs.declared.access.Access.TheVariants.{Read}

-- the better of the best so far and one more is the best of all
best_more : (o : Player) (g : Game) (progs : List Measure) (best asked : ℕ) → IsBestFor o progs (of_rank g best)
    → IsBestFor o (progs ++ of_rank g asked ∷ []) (of_rank g (better_of o best asked))
best_more Even g progs best asked is = elim (leb_tells best asked) [
  | inl w ↦ (
      let same : best ≡ min best asked = let l = w.1 in omega arith in
      subst (λ (n : ℕ). IsBestFor Even (progs ++ of_rank g asked ∷ []) (of_rank g n)) same (
        Contains-append_left progs (of_rank g asked ∷ []) (of_rank g best) is.0,
        all_more (λ k. IsAtMost (of_rank g best) k) progs (of_rank g asked) is.1 (of_rank_up g best asked w.1),
      ))
  | inr w ↦ (
      let same : asked ≡ min best asked = let l = w.1 in omega arith in
      let low : IsAtMost (of_rank g asked) (of_rank g best) = of_rank_up g asked best (let l = w.1 in omega arith) in
      subst (λ (n : ℕ). IsBestFor Even (progs ++ of_rank g asked ∷ []) (of_rank g n)) same (
        Contains-append_right progs (of_rank g asked ∷ []) (of_rank g asked) (contains_first (of_rank g asked) []),
        all_more (λ k. IsAtMost (of_rank g asked) k) progs (of_rank g asked)
            (all_weaker (λ k. IsAtMost (of_rank g best) k) (λ k. IsAtMost (of_rank g asked) k) progs
            (λ k. at_most_trans (of_rank g asked) (of_rank g best) k low) is.1) (at_most_itself (of_rank g asked)),
      ))
]
best_more Odd g progs best asked is = elim (leb_tells best asked) [
  | inl w ↦ (
      let same : asked ≡ max best asked = let l = w.1 in omega arith in
      let low : IsAtMost (of_rank g best) (of_rank g asked) = of_rank_up g best asked w.1 in
      subst (λ (n : ℕ). IsBestFor Odd (progs ++ of_rank g asked ∷ []) (of_rank g n)) same (
        Contains-append_right progs (of_rank g asked ∷ []) (of_rank g asked) (contains_first (of_rank g asked) []),
        all_more (λ k. IsAtMost k (of_rank g asked)) progs (of_rank g asked)
            (all_weaker (λ k. IsAtMost k (of_rank g best)) (λ k. IsAtMost k (of_rank g asked)) progs
            (λ k l. at_most_trans k (of_rank g best) (of_rank g asked) l low) is.1) (at_most_itself (of_rank g asked)),
      ))
  | inr w ↦ (
      let same : best ≡ max best asked = let l = w.1 in omega arith in
      subst (λ (n : ℕ). IsBestFor Odd (progs ++ of_rank g asked ∷ []) (of_rank g n)) same (
        Contains-append_left progs (of_rank g asked ∷ []) (of_rank g best) is.0,
        all_more (λ k. IsAtMost k (of_rank g best)) progs (of_rank g asked) is.1 (of_rank_up g asked best (let l = w.1 in omega arith)),
      ))
]

-- the better of the worst and what is asked for is what is asked for
best_of_one : (o : Player) (g : Game) (asked : ℕ) → asked ≤ height g
    → IsBestFor o (of_rank g asked ∷ []) (of_rank g (better_of o (worst_of o g) asked))
best_of_one Even g asked low =
    let same : asked ≡ min (height g) asked = omega arith in
    subst (λ (n : ℕ). IsBestFor Even (of_rank g asked ∷ []) (of_rank g n)) same (best_single Even (of_rank g asked))
best_of_one Odd g asked low =
    let same : asked ≡ max 0 asked = omega arith in
    subst (λ (n : ℕ). IsBestFor Odd (of_rank g asked ∷ []) (of_rank g n)) same (best_single Odd (of_rank g asked))

-- The first successors were read since, and the best of what is asked for at them was found.
pub record HasAsked (o : Player) (g : Game) (p : ℕ) (ts : List ℕ) (i : ℕ) (before now : List Access) (best : ℕ) : Type 0 where
  pub values : List Measure
  pub progs : List Measure
  pub each : length values ≡ i
  pub did : now ≡ before ++ reads (take i ts) values
  pub zipped : AllZip (IsProg g p) values progs
  pub found : ((progs ≡ []) × (best ≡ worst_of o g) × (i ≡ 0)) ⊎ IsBestFor o progs (of_rank g best)

pub asked_none : (o : Player) (g : Game) (p : ℕ) (ts : List ℕ) (before : List Access) → HasAsked o g p ts 0 before before (worst_of o g)
asked_none o g p ts before = record {
  values = [];
  progs = [];
  each = refl;
  did = sym (append-nil before);
  zipped = tt;
  found = inl (refl, refl, refl);
}

pub asked_next : (o : Player) (g : Game) (p : ℕ) (ts : List ℕ) (i : ℕ) (before was now : List Access) (best asked : ℕ) (m : Measure) → i < length ts
    → now ≡ was ++ Read (slice_index ts i) m ∷ [] → asked ≤ height g → IsProg g p m (of_rank g asked) → HasAsked o g p ts i before was best
    → HasAsked o g p ts (suc i) before now (better_of o best asked)
asked_next o g p ts i before was now best asked m lt e low prog has = record {
  values = has.values ++ m ∷ [];
  progs = has.progs ++ of_rank g asked ∷ [];
  each = let l = length-append has.values (m ∷ []) in let each = has.each in omega (arith, l, each);
  did = e ∙ (ap (λ (xs : List Access). xs ++ Read (slice_index ts i) m ∷ []) has.did
      ∙ (append_assoc before (reads (take i ts) has.values) (Read (slice_index ts i) m ∷ []) ∙ ap (λ (xs : List Access). before ++ xs) more));
  zipped = AllZip-push (IsProg g p) has.values has.progs m (of_rank g asked) has.zipped prog;
  found = inr (elim has.found [
    | inl w ↦ subst (λ (ps : List Measure). IsBestFor o (ps ++ of_rank g asked ∷ []) (of_rank g (better_of o best asked))) (sym w.0)
        (subst (λ (n : ℕ). IsBestFor o (of_rank g asked ∷ []) (of_rank g (better_of o n asked))) (sym w.1) (best_of_one o g asked low))
    | inr w ↦ best_more o g has.progs best asked w
  ]);
}
  where
    more : reads (take i ts) has.values ++ Read (slice_index ts i) m ∷ [] ≡ reads (take (suc i) ts) (has.values ++ m ∷ [])
    more =
        sym (ap (λ (us : List ℕ). reads us (has.values ++ m ∷ [])) (take-suc ts i 0 lt)
        ∙ reads_next (take i ts) has.values (slice_index ts i) m (has.each ∙ sym (length-take-le i ts (omega (arith, lt)))))

-- all of them were read, and there is one at least
pub asked_all : (o : Player) (g : Game) (v p : ℕ) (ts : List ℕ) (i : ℕ) (before now : List Access) (best : ℕ) → v < length g.vertices
    → option_map (λ y. y.owner) (vertex g v) ≡ Some o → option_map (λ y. y.priority) (vertex g v) ≡ Some p
    → option_map (λ y. y.successors) (vertex g v) ≡ Some ts → i ≡ length ts → 0 < length ts → HasAsked o g p ts i before now best
    → By (λ (accesses : List Access). now ≡ before ++ accesses) (Asks g v (of_rank g best))
asked_all o g v p ts i before now best lt owner priority successors end some has = (
  reads (take i ts) has.values,
  has.did,
  record {
    values = has.values;
    each = has.each ∙ (end ∙ ap length (sym same));
    whole = ap (λ (us : List ℕ). reads us has.values) (ap (λ (n : ℕ). take n ts) end ∙ (take_all (length ts) ts (omega arith) ∙ sym same));
    demand = (
      x.0,
      x.1,
      (
        has.progs,
        subst (λ (q : ℕ). AllZip (IsProg g q) has.values has.progs) (sym (vertex_tells (λ (y : Vertex). y.priority) g v p x.0 x.1 priority)) has.zipped,
        subst (λ (q : Player). IsBestFor q has.progs (of_rank g best)) (sym (vertex_tells (λ (y : Vertex). y.owner) g v o x.0 x.1 owner)) found,
      ),
    );
  },
)
  where
    x : (y : Vertex) × (vertex g v ≡ Some y)
    x = vertex_here g v lt

    same : successors_at (vertex g v) ≡ ts
    same = ap successors_at x.1 ∙ vertex_tells (λ (y : Vertex). y.successors) g v ts x.0 x.1 successors

    found : IsBestFor o has.progs (of_rank g best)
    found = elim has.found [
      | inl w ↦ (let none = w.2 in absurd (omega (arith, none, end, some)))
      | inr w ↦ w
    ]
