-- The lift of a vertex by the best of its successors' values.
use Rattle.measures.proofs.Common.{◌≡◌, ◌≢◌, ℕ, ◌+◌, ◌<◌, ◌≤◌, List, [], ◌∷◌, ◌++◌, length, take, refl, sym, ap, subst, ◌∙◌, inl, inr, arith, true≢false}
use Rattle.measures.proofs.Common.{IsTrue, Contains, Some, option_map, slice_index_or, add-one, take-suc, AllZip, AllByRecursion, Ordering, Less, Equal}
use Rattle.measures.proofs.Common.{Greater, is_gt, is_le, length-map, Contains-append_left, Contains-append_right, slice_get_cases, AllZip-long, Player, Even}
use Rattle.measures.proofs.Common.{Odd, Vertex, Game, IsGame, IsVertex, count, vertex, Measure, Top, Counts, components, IsAtMost, IsBelow, IsMeasure, IsProg}
use Rattle.measures.proofs.Common.{measure_cmp, IsBestFor, greater_of, IsBetter, IsDemandOf, IsLiftOf, IsProgAt, IsProgUnder, bounds, counts_of}
use Rattle.game.proofs.Rows.{all_more}
use Rattle.measures.proofs.Lists.{all_got, all_weaker, contains_cases, contains_first, contains_later, contains_none}
use Rattle.measures.proofs.Measures.{at_most_both, at_most_itself, at_most_or_below, at_most_trans, below_at_most, prog, prog_more, top_prog}

-- ------------------------------------------------------------------ vertices

pub vertex_here : (g : Game) (v : ℕ) → v < length g.vertices → (x : Vertex) × (vertex g v ≡ Some x)
vertex_here g v h = elim ((slice_get_cases g.vertices v).1) [ inl w ↦ (w.0, w.2) | inr w ↦ (let l = w.0 in absurd (omega arith)) ]

-- what is told of a vertex is told of the one that is there
pub vertex_tells : {X : Type 0} (f : Vertex → X) (g : Game) (v : ℕ) (y : X) (x : Vertex) → vertex g v ≡ Some x → option_map f (vertex g v) ≡ Some y → f x ≡ y
vertex_tells {X = X} f g v y x at e = some_same (f x) y (ap (option_map f) (sym at) ∙ e)
  where
    some_same : (a b : X) → Some a ≡ Some b → a ≡ b
    some_same a b q = cc

module _ (g : Game) (game : IsGame g) (v : ℕ) (h : v < length g.vertices) where
  here_is : (x : Vertex) × (vertex g v ≡ Some x) × IsVertex (length g.vertices) x
  here_is = let x = vertex_here g v h in (x.0, x.1, all_got (IsVertex (length g.vertices)) g.vertices v x.0 game.vertices x.1)

  pub its_successors : (ts : List ℕ) → option_map (λ x. x.successors) (vertex g v) ≡ Some ts → AllByRecursion (λ t. t < length g.vertices) ts × (0 < length ts)
  its_successors ts e =
      let x = here_is in
      let same = vertex_tells (λ (y : Vertex). y.successors) g v ts x.0 x.1 e in
      (subst (AllByRecursion (λ t. t < length g.vertices)) same x.2.within, omega (arith, x.2.some, ap length same))

-- ------------------------------------------------------------------ progs at a vertex

pub prog_at_top : (g : Game) (v : ℕ) (m r : Measure) → v < length g.vertices → m ≡ Top → r ≡ Top → IsProgAt g v m r
prog_at_top g v m r h e d = let x = vertex_here g v h in (
  x.0,
  x.1,
  subst (λ n. IsProg g x.0.priority n r) (sym e) (subst (IsProg g x.0.priority Top) (sym d) (top_prog g x.0.priority)),
)

pub counts_back : (m : Measure) → m ≢ Top → Counts (counts_of m) ≡ m
counts_back Top n = absurd (n refl)
counts_back (Counts c) n = refl

pub prog_at_counts : (g : Game) (v p : ℕ) (limits c : List ℕ) (m r : Measure) → v < length g.vertices → option_map (λ x. x.priority) (vertex g v) ≡ Some p
    → limits ≡ bounds g
    → IsMeasure g m → m ≢ Top → c ≡ counts_of m → IsProgUnder limits p (Counts c) r → IsProgAt g v m r
prog_at_counts g v p limits c m r h e l is n d under =
    let x = vertex_here g v h in
    let same : x.0.priority ≡ p = vertex_tells (λ (y : Vertex). y.priority) g v p x.0 x.1 e in
    let back : Counts c ≡ m = ap Counts d ∙ counts_back m n in
    (x.0, x.1, subst (λ q. IsProg g q m r) (sym same) (subst (λ k. IsProg g p k r) back (under g (sym l) (subst (IsMeasure g) (sym back) is))))

pub counts_bounds : (g : Game) (m : Measure) → IsMeasure g m → m ≢ Top → length (counts_of m) ≡ length (bounds g)
counts_bounds g Top is n = absurd (n refl)
counts_bounds g (Counts c) is n = let a = AllZip-long (λ k q. k ≤ count g q) c (components g) is in let b = length-map {B = ℕ} (components g) (count g)
    in omega arith

-- ------------------------------------------------------------------ the best of some measures

pub best_single : (o : Player) (m : Measure) → IsBestFor o (m ∷ []) m
best_single Even m = (contains_first m [], (at_most_itself m, tt))
best_single Odd m = (contains_first m [], (at_most_itself m, tt))

not_greater : (o : Ordering) → IsTrue (is_le o) → IsTrue (is_gt o) → ⊥
not_greater Less h i = true≢false (sym i)
not_greater Equal h i = true≢false (sym i)
not_greater Greater h i = true≢false (sym h)

not_gt : (o : Ordering) → (IsTrue (is_gt o) → ⊥) → IsTrue (is_le o)
not_gt Less n = refl
not_gt Equal n = refl
not_gt Greater n = absurd (n refl)

greater_below : (a b : Measure) → IsTrue (is_gt (measure_cmp a b)) → IsBelow b a
greater_below a b h = elim (at_most_or_below b a) [ inl w ↦ w | inr w ↦ absurd (not_greater (measure_cmp a b) w h) ]

-- one measure more, which is better
pub best_taken : (o : Player) (ms : List Measure) (b m : Measure) → IsBestFor o ms b → IsBetter o (measure_cmp m b) → IsBestFor o (ms ++ m ∷ []) m
best_taken Even ms b m h better = (
  Contains-append_right ms (m ∷ []) m (contains_first m []),
  all_more (λ k. IsAtMost m k) ms m (all_weaker (λ k. IsAtMost b k) (λ k. IsAtMost m k) ms (λ k. at_most_trans m b k (below_at_most m b better)) h.1)
      (at_most_itself m),
)
best_taken Odd ms b m h better = (
  Contains-append_right ms (m ∷ []) m (contains_first m []),
  all_more (λ k. IsAtMost k m) ms m (all_weaker (λ k. IsAtMost k b) (λ k. IsAtMost k m) ms
      (λ k l. at_most_trans k b m l (below_at_most b m (greater_below m b better))) h.1) (at_most_itself m),
)

-- or isn't
pub best_left : (o : Player) (ms : List Measure) (b m : Measure) → IsBestFor o ms b → (IsBetter o (measure_cmp m b) → ⊥) → IsBestFor o (ms ++ m ∷ []) b
best_left Even ms b m h never = (
  Contains-append_left ms (m ∷ []) b h.0,
  all_more (λ k. IsAtMost b k) ms m h.1 (elim (at_most_or_below m b) [ inl w ↦ absurd (never w) | inr w ↦ w ]),
)
best_left Odd ms b m h never = (Contains-append_left ms (m ∷ []) b h.0, all_more (λ k. IsAtMost k b) ms m h.1 (not_gt (measure_cmp m b) never))

-- the best of the first ones, and one more
pub best_next_taken : (o : Player) (ms : List Measure) (k : ℕ) (b : Measure) → k < length ms → IsBestFor o (take k ms) b
    → IsBetter o (measure_cmp (slice_index_or ms k Top) b)
    → IsBestFor o (take (k + 1) ms) (slice_index_or ms k Top)
best_next_taken o ms k b l h better =
    rw (add-one, take-suc ms k Top l) (best_taken o (take k ms) b (slice_index_or ms k Top) h better)

pub best_next_left : (o : Player) (ms : List Measure) (k : ℕ) (b : Measure) → k < length ms → IsBestFor o (take k ms) b
    → (IsBetter o (measure_cmp (slice_index_or ms k Top) b) → ⊥)
    → IsBestFor o (take (k + 1) ms) b
best_next_left o ms k b l h never =
    rw (add-one, take-suc ms k Top l) (best_left o (take k ms) b (slice_index_or ms k Top) h never)

pub best_first : (o : Player) (ms : List Measure) → 0 < length ms → IsBestFor o (take 1 ms) (slice_index_or ms 0 Top)
best_first o [] h = absurd (omega arith)
best_first o (m ∷ ms) h = best_single o m

made : (g : Game) (p : ℕ) (values : List Measure) → AllByRecursion (IsMeasure g) values → (progs : List Measure) × AllZip (IsProg g p) values progs
made g p [] h = ([], tt)
made g p (m ∷ ms) h = let r = prog g p m h.0 in let rest = made g p ms h.1 in (r.0 ∷ rest.0, (r.1, rest.1))

one_prog : (g : Game) (p : ℕ) (m r s : Measure) → IsProg g p m r → IsProg g p m s → r ≡ s
one_prog g p m r s i j = at_most_both r s (prog_more g p m m r s (at_most_itself m) i j) (prog_more g p m m s r (at_most_itself m) j i)

found : (g : Game) (p : ℕ) (values progs : List Measure) (best r : Measure) → AllZip (IsProg g p) values progs → Contains values best → IsProg g p best r
    → Contains progs r
found g p [] progs best r z c is = absurd (contains_none best c)
found g p (m ∷ ms) [] best r z c is = absurd z
found g p (m ∷ ms) (s ∷ ss) best r z c is = elim (contains_cases m best ms c) [
  | inl e ↦ subst (λ k. Contains (s ∷ ss) k) (one_prog g p best s r (subst (λ k. IsProg g p k s) e z.0) is) (contains_first s ss)
  | inr d ↦ contains_later s r ss (found g p ms ss best r z.1 d is)
]

above : (g : Game) (p : ℕ) (values progs : List Measure) (best r : Measure) → AllZip (IsProg g p) values progs → AllByRecursion (λ m. IsAtMost best m) values
    → IsProg g p best r → AllByRecursion (λ m. IsAtMost r m) progs
above g p [] [] best r z a is = tt
above g p [] (s ∷ ss) best r z a is = absurd z
above g p (m ∷ ms) [] best r z a is = absurd z
above g p (m ∷ ms) (s ∷ ss) best r z a is = (prog_more g p best m r s a.0 is z.0, above g p ms ss best r z.1 a.1 is)

under : (g : Game) (p : ℕ) (values progs : List Measure) (best r : Measure) → AllZip (IsProg g p) values progs → AllByRecursion (λ m. IsAtMost m best) values
    → IsProg g p best r → AllByRecursion (λ m. IsAtMost m r) progs
under g p [] [] best r z a is = tt
under g p [] (s ∷ ss) best r z a is = absurd z
under g p (m ∷ ms) [] best r z a is = absurd z
under g p (m ∷ ms) (s ∷ ss) best r z a is = (prog_more g p m best s r a.0 z.0 is, under g p ms ss best r z.1 a.1 is)

-- the prog of the best is the best of the progs
pub best_prog : (g : Game) (p : ℕ) (o : Player) (values : List Measure) (best r : Measure) → AllByRecursion (IsMeasure g) values → IsBestFor o values best
    → IsProg g p best r
    → (progs : List Measure) × AllZip (IsProg g p) values progs × IsBestFor o progs r
best_prog g p Even values best r h b is = let w = made g p values h
    in (w.0, w.1, (found g p values w.0 best r w.1 b.0 is, above g p values w.0 best r w.1 b.1 is))
best_prog g p Odd values best r h b is = let w = made g p values h
    in (w.0, w.1, (found g p values w.0 best r w.1 b.0 is, under g p values w.0 best r w.1 b.1 is))

pub demand_of_best : (g : Game) (v : ℕ) (o : Player) (best r : Measure) (values : List Measure) → v < length g.vertices
    → option_map (λ x. x.owner) (vertex g v) ≡ Some o
    → AllByRecursion (IsMeasure g) values → IsBestFor o values best → IsProgAt g v best r → IsDemandOf g v values r
demand_of_best g v o best r values h e measures b (x, at, is) =
    let same : x.owner ≡ o = vertex_tells (λ (y : Vertex). y.owner) g v o x at e in
    let w = best_prog g x.priority o values best r measures b is in
    (x, at, (w.0, w.1, subst (λ q. IsBestFor q w.0 r) (sym same) w.2))

-- the greater of the own value and what the vertex asks for
pub lift_of_demand : (g : Game) (v : ℕ) (own risen r : Measure) (values : List Measure) → IsDemandOf g v values risen → r ≡ greater_of own risen
    → IsLiftOf g v own values r
lift_of_demand g v own risen r values (x, at, (progs, z, b)) d = (x, at, (progs, risen, z, b, d))
