-- Each game has just one evidence of Even that its least table gives.
use Rattle.std.proofs.Common.{◌≡◌, ℕ, ◌<◌, ◌≤◌, ◌⊎◌, List, length, map, refl, sym, ap, subst, ◌∙◌, inl, inr, arith, Some, None, Option}
use Rattle.std.specs.List.{range_with_len}
use Rattle.std.proofs.lemmas.Bool.Decides.{leb_tells}
use Rattle.std.proofs.lemmas.List.{get_or_past, ext_get_or}
use Rattle.std.proofs.lemmas.List.FromFn.{length-map-range_with_len, get_or-map-range_with_len}
use Rattle.game.specs.declared.player.Player.{Player}
use Rattle.game.specs.declared.player.Player.TheVariants.{Even, Odd}
use Rattle.game.specs.Game.{Game, IsGame, IsVertex, Vertex, dual, vertex}
use Rattle.measures.specs.Measure.{Counts, IsAtMost, IsBelow, IsProg, Measure, Top}
use Rattle.measures.specs.Progress.{IsLeastTable, value_at}
use Rattle.measures.specs.Laws.{IsBestMove, IsLeastSuccessor}
use Rattle.measures.proofs.Bests.{vertex_here}
use Rattle.game.proofs.Duals.{dual_game}
use Rattle.laws.proofs.LeastExists.{least_exists, least_unique}
use Rattle.measures.proofs.Lifts.{value_measure}
use Rattle.measures.proofs.Lists.{all_contained, all_got, best_of}
use Rattle.measures.proofs.Measures.{at_most_itself, at_most_or_below, at_most_trans, below_at_most, not_below, prog, prog_more}
use Rattle.evidence.specs.Best.{IsEvenOf}
use Rattle.evidence.specs.Evidence.{Entry, Evidence, entry_at}
use Rattle.evidence.specs.Laws.{BestExists, BestIsOne}

module _ (g : Game) (table : List Measure) (least : IsLeastTable g table) (v : Vertex) where
  made : (t : ℕ) → (r : Measure) × IsProg g v.priority (value_at table t) r
  made t = prog g v.priority (value_at table t) (value_measure g table least.progress.0.1 t)

  abbrev value : ℕ → Measure
  value t = (made t).0

  -- the least prog first, and then the least vertex
  abbrev Before : ℕ → ℕ → Type 0
  Before t u = IsBelow (value t) (value u) ⊎ (IsAtMost (value t) (value u) × (t ≤ u))

  itself : (t : ℕ) → Before t t
  itself t = inr (at_most_itself (value t), omega arith)

  below_on : (a b c : Measure) → IsBelow a b → IsAtMost b c → IsBelow a c
  below_on a b c h i = elim (at_most_or_below a c) [ inl w ↦ w | inr w ↦ absurd (not_below a b h (at_most_trans b c a i w)) ]

  on_below : (a b c : Measure) → IsAtMost a b → IsBelow b c → IsBelow a c
  on_below a b c h i = elim (at_most_or_below a c) [ inl w ↦ w | inr w ↦ absurd (not_below b c i (at_most_trans c a b w h)) ]

  trans : (a b c : ℕ) → Before a b → Before b c → Before a c
  trans a b c (inl h) (inl i) = inl (below_on (value a) (value b) (value c) h (below_at_most (value b) (value c) i))
  trans a b c (inl h) (inr i) = inl (below_on (value a) (value b) (value c) h i.0)
  trans a b c (inr h) (inl i) = inl (on_below (value a) (value b) (value c) h.0 i)
  trans a b c (inr h) (inr i) = let p = h.1 in let q = i.1 in inr (at_most_trans (value a) (value b) (value c) h.0 i.0, omega arith)

  either : (a b : ℕ) → Before a b ⊎ Before b a
  either a b = elim (at_most_or_below (value a) (value b)) [
    | inl w ↦ inl (inl w)
    | inr w ↦ elim (at_most_or_below (value b) (value a)) [
      | inl z ↦ inr (inl z)
      | inr z ↦ elim (leb_tells a b) [ inl l ↦ inl (inr (z, l.1)) | inr l ↦ (let k = l.1 in inr (inr (w, omega arith))) ]
    ]
  ]

  weakly : (a b : ℕ) → Before a b → IsAtMost (value a) (value b)
  weakly a b (inl h) = below_at_most (value a) (value b) h
  weakly a b (inr h) = h.0

  first_of_equals : (a b : ℕ) → Before a b → IsAtMost (value b) (value a) → a ≤ b
  first_of_equals a b (inl h) i = absurd (not_below (value a) (value b) h i)
  first_of_equals a b (inr h) i = h.1

  -- a prog is at most another where those that were found are
  carried : (t u : ℕ) (m r : Measure) → IsAtMost (value t) (value u) → IsProg g v.priority (value_at table t) m → IsProg g v.priority (value_at table u) r
      → IsAtMost m r
  carried t u m r h i j =
      let low = prog_more g v.priority (value_at table t) (value_at table t) m (value t) (at_most_itself (value_at table t)) i (made t).1 in
      let high = prog_more g v.priority (value_at table u) (value_at table u) (value u) r (at_most_itself (value_at table u)) (made u).1 j in
      at_most_trans m (value t) r low (at_most_trans (value t) (value u) r h high)

  best_move : 1 ≤ length v.successors → (t : ℕ) × IsLeastSuccessor g table v t × ((u : ℕ) → IsLeastSuccessor g table v u → t ≤ u)
  best_move some =
      let b = best_of Before itself trans either v.successors some in (
        b.0,
        record { successor = b.1; least = λ u c m r i j. carried b.0 u m r (weakly b.0 u (all_contained (λ x. Before b.0 x) v.successors u b.2 c)) i j },
        λ u is. first_of_equals b.0 u (all_contained (λ x. Before b.0 x) v.successors u b.2 is.successor)
            (is.least b.0 b.1 (value u) (value b.0) (made u).1 (made b.0).1),
      )

  pub move_for : 1 ≤ length v.successors → (m : Option ℕ) × IsBestMove g table v m
  move_for some = by v.owner refl
    where
      by : (o : Player) → v.owner ≡ o → (m : Option ℕ) × IsBestMove g table v m
      by Even own = let b = best_move some in (Some b.0, (own, b.1, b.2))
      by Odd own = (None, own)

  pub move_one : (m n : Option ℕ) → IsBestMove g table v m → IsBestMove g table v n → m ≡ n
  move_one None None h i = refl
  move_one None (Some u) h i = let q : Odd ≡ Even = sym h ∙ i.0 in absurd cc
  move_one (Some t) None h i = let q : Odd ≡ Even = sym i ∙ h.0 in absurd cc
  move_one (Some t) (Some u) h i = let a = h.2 u i.1 in let b = i.2 t h.1 in let q : t ≡ u = omega arith in ap Some q

module _ (g : Game) (game : IsGame g) (table : List Measure) (least : IsLeastTable g table) where
  -- the entry for a value at a vertex, if there is one
  abbrev Made : ℕ → Measure → Option Entry → Type 0
  Made v Top o = o ≡ None
  Made v (Counts c) o = (x : Entry) × (o ≡ Some x) × (x.rank ≡ c) × ((w : Vertex) → vertex g v ≡ Some w → IsBestMove g table w x.move)

  made_at : (v : ℕ) (w : Vertex) → vertex g v ≡ Some w → (m : Measure) → (o : Option Entry) × Made v m o
  made_at v w at Top = (None, refl)
  made_at v w at (Counts c) =
      let b = move_for g table least w (all_got (IsVertex (length g.vertices)) g.vertices v w game.vertices at).some in
      let x : Entry = record { move = b.0; rank = c } in
      (Some x, (x, refl, refl, λ z here. (let q : w ≡ z = cc in subst (λ (y : Vertex). IsBestMove g table y b.0) q b.1)))

  entry : (v : ℕ) → (o : Option Entry) × (v < length g.vertices → Made v (value_at table v) o)
  entry v = elim (leb_tells (length g.vertices) v) [
    | inl w ↦ (None, (λ l. (let h = w.1 in absurd (omega arith))))
    | inr w ↦ (let x = vertex_here g v w.1 in let m = made_at v x.0 x.1 (value_at table v) in (m.0, (λ l. m.1)))
  ]

  abbrev entries : List (Option Entry)
  entries = map (λ v. (entry v).0) (range_with_len 0 (length g.vertices))

  abbrev made_evidence : Evidence
  made_evidence = record { player = Even; entries = entries }

  made_here : (v : ℕ) → Made v (value_at table v) (entry_at made_evidence v)
  made_here v = elim (leb_tells (length g.vertices) v) [
    | inl w ↦ (
        let l = length-map-range_with_len (λ u. (entry u).0) 0 (length g.vertices) in
        let h = w.1 in
        let t = least.progress.0.0 in
        let none : entry_at made_evidence v ≡ None = get_or_past entries v None (omega arith) in
        let top : value_at table v ≡ Top = get_or_past table v Top (omega arith) in
        subst (λ m. Made v m (entry_at made_evidence v)) (sym top) none)
    | inr w ↦ subst (Made v (value_at table v)) (sym (get_or-map-range_with_len (λ u. (entry u).0) 0 (length g.vertices) v v None w.1 (omega arith)))
        ((entry v).1 w.1)
  ]

  even_made : IsEvenOf g made_evidence
  even_made = record {
    player = refl;
    long = length-map-range_with_len (λ u. (entry u).0) 0 (length g.vertices);
    table = table;
    least = least;
    outside = λ v top. subst (λ m. Made v m (entry_at made_evidence v)) top (made_here v);
    inside = λ v c counts. subst (λ m. Made v m (entry_at made_evidence v)) counts (made_here v);
  }

even_exists : (g : Game) → IsGame g → (e : Evidence) × IsEvenOf g e
even_exists g game = let t = least_exists g game in (made_evidence g game t.0 t.1, even_made g game t.0 t.1)

pub best_exists : BestExists
best_exists g game = (
  even_exists g game,
  λ few. let w = even_exists (dual g) (dual_game g game few)
      in (record { player = Odd; entries = w.0.entries }, (refl, subst (λ p. IsEvenOf (dual g) (record { player = p; entries = w.0.entries })) w.1.player w.1)),
)

-- two entries of the same vertex
same_entry : (x y : Entry) → x.move ≡ y.move → x.rank ≡ y.rank → Some x ≡ Some y
same_entry x y m r = λ i. Some (record { move = m i; rank = r i })

entries_one : (g : Game) (e f : Evidence) (is : IsEvenOf g e) (other : IsEvenOf g f) → e.entries ≡ f.entries
entries_one g e f is other = ext_get_or None e.entries f.entries (let a = is.long in let b = other.long in omega arith) at
  where
    same : is.table ≡ other.table
    same = least_unique g is.table other.table is.least other.least

    at : (v : ℕ) → v < length e.entries → entry_at e v ≡ entry_at f v
    at v h = by (value_at is.table v) refl
      where
        by : (m : Measure) → value_at is.table v ≡ m → entry_at e v ≡ entry_at f v
        by Top q = is.outside v q ∙ sym (other.outside v (ap (λ t. value_at t v) (sym same) ∙ q))
        by (Counts c) q =
            let a = is.inside v c q in
            let b = other.inside v c (ap (λ t. value_at t v) (sym same) ∙ q) in
            let w = vertex_here g v (let l = is.long in omega arith) in
            let move = move_one g is.table is.least w.0 a.0.move b.0.move (a.3 w.0 w.1) (subst (λ t. IsBestMove g t w.0 b.0.move) (sym same) (b.3 w.0 w.1)) in
            a.1 ∙ (same_entry a.0 b.0 move (a.2 ∙ sym b.2) ∙ sym b.1)

same_evidence : (e f : Evidence) → e.player ≡ f.player → e.entries ≡ f.entries → e ≡ f
same_evidence e f p q = λ i. record { player = p i; entries = q i }

pub best_is_one : BestIsOne
best_is_one g e f = (
  (λ is other. same_evidence e f (is.player ∙ sym other.player) (entries_one g e f is other)),
  (λ is other. same_evidence e f (is.0 ∙ sym other.0) (entries_one (dual g) (record { player = Even; entries = e.entries })
      (record { player = Even; entries = f.entries }) is.1 other.1)),
)
