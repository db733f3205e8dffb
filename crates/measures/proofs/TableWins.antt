-- A progress table wins for Even wherever its value isn't top.
use Rattle.measures.proofs.Common.{◌≡◌, ◌≢◌, ℕ, ◌<◌, Bool, true, false, List, [], length, refl, sym, ap, subst, ◌∙◌, inl, inr, arith, Some, None, Option}
use Rattle.measures.proofs.Common.{IsTrue, true≢false, get_or_past, leb_tells, Player, Even, Odd, Vertex, Game, vertex, IsGame, Edge, Wins, priority_at}
use Rattle.measures.proofs.Common.{greatest_met, Measure, Top, Counts, Reaches, IsProgress, value_at, IsLeastSuccessor}
use Rattle.measures.proofs.Lifts.{even_reaches, odd_reaches}
use Rattle.measures.proofs.Cycles.{priority, odd_or_even, no_odd_cycle}

pub other_owner : (o : Player) → o ≢ Even → o ≡ Odd
other_owner Even n = absurd (n refl)
other_owner Odd n = refl

abbrev pub is_counts : Measure → Bool
is_counts Top = false
is_counts (Counts c) = true

abbrev pub counts_of : Measure → List ℕ
counts_of Top = []
counts_of (Counts c) = c

pub has_counts : (m : Measure) → IsTrue (is_counts m) → m ≡ Counts (counts_of m)
has_counts Top h = absurd (true≢false (sym h))
has_counts (Counts c) h = refl

pub not_top : (m : Measure) → m ≢ Top → IsTrue (is_counts m)
not_top Top n = absurd (n refl)
not_top (Counts c) n = refl

module _ (g : Game) (table : List Measure) (game : IsGame g) (is : IsProgress g table) where
  -- a successor with the least prog, which the vertex's value reaches
  abbrev Picked : ℕ → ℕ → Vertex → Type 0
  Picked u t x = IsLeastSuccessor g table x t × Reaches g x.priority (value_at table t) (value_at table u)

  pick : (u : ℕ) → (t : ℕ) × ((x : Vertex) → vertex g u ≡ Some x → x.owner ≡ Even → Picked u t x)
  pick u = by (vertex g u) refl
    where
      owned : (y : Vertex) → vertex g u ≡ Some y → (o : Player) → y.owner ≡ o → (t : ℕ) × ((x : Vertex) → vertex g u ≡ Some x → x.owner ≡ Even → Picked u t x)
      owned y e Even own = let r = even_reaches g table game is u y e own in (r.0, λ x at o. (let q : y ≡ x = cc in subst (Picked u r.0) q (r.1, r.2)))
      owned y e Odd own = (0, λ x at o. (let q : y ≡ x = cc in let w : Odd ≡ Even = sym own ∙ (ap (λ z. z.owner) q ∙ o) in absurd cc))

      by : (o : Option Vertex) → vertex g u ≡ o → (t : ℕ) × ((x : Vertex) → vertex g u ≡ Some x → x.owner ≡ Even → Picked u t x)
      by None e = (0, λ x at o. absurd cc)
      by (Some y) e = owned y e y.owner refl

  abbrev choice : ℕ → ℕ
  choice u = (pick u).0

  step : (u t : ℕ) → Edge Even g choice u t → Reaches g (priority g u) (value_at table t) (value_at table u)
  step u t (x, at, inl w) =
      let r = ((pick u).1 x at w.0).1 in
      subst (λ o. Reaches g (priority_at o) (value_at table t) (value_at table u)) (sym at)
      (subst (λ z. Reaches g x.priority (value_at table z) (value_at table u)) (sym w.1) r)
  step u t (x, at, inr w) =
      subst (λ o. Reaches g (priority_at o) (value_at table t) (value_at table u)) (sym at) (odd_reaches g table game is u x at (other_owner x.owner w.0) t w.1)

  stays : (p : ℕ) (m r : Measure) → IsTrue (is_counts r) → Reaches g p m r → IsTrue (is_counts m)
  stays p Top (Counts d) h i = absurd i
  stays p (Counts c) r h i = refl
  stays p Top Top h i = h

  inside : (u : ℕ) → IsTrue (is_counts (value_at table u)) → u < length g.vertices
  inside u h = elim (leb_tells (length table) u) [
    | inl w ↦ absurd (true≢false (sym h ∙ ap is_counts (get_or_past table u Top w.1)))
    | inr w ↦ omega (arith, w.1, is.0.0)
  ]

  pub table_wins : (v : ℕ) → value_at table v ≢ Top → (w : Wins g v)
      × ((u : ℕ) (x : Vertex) → vertex g u ≡ Some x → x.owner ≡ Even → IsLeastSuccessor g table x (w.choice u))
  table_wins v n = (
    record {
      set = λ u. is_counts (value_at table u);
      choice = choice;
      has = not_top (value_at table v) n;
      strategy = record {
        inside = inside;
        own = λ u x h at o. ((pick u).1 x at o).0.successor;
        closed = λ u t h e. stays (priority g u) (value_at table t) (value_at table u) h (step u t e);
        cycles = λ u others h m path. elim (odd_or_even (greatest_met g others)) [
          | inl w ↦ absurd (no_odd_cycle g (Edge Even g choice) (value_at table) step u others (counts_of (value_at table u))
              (has_counts (value_at table u) h) m path w.0)
          | inr w ↦ w.1
        ];
      };
    },
    λ u x at o. ((pick u).1 x at o).0,
  )
