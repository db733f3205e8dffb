-- The game with the players exchanged.
use Rattle.measures.proofs.Common.{◌≡◌, ◌≢◌, ℕ, ◌+◌, ◌<◌, List, [], ◌∷◌, length, refl, sym, ap, subst, ◌∙◌, inl, inr, arith, IsTrue, Contains, Some, None}
use Rattle.measures.proofs.Common.{Option, option_map, AllByRecursion, slice_get-map, slice_get_cases, IsPath, Player, Even, Odd, Vertex, Game, vertex}
use Rattle.measures.proofs.Common.{opponent, dual, Edge, IsOf, WinsBy, greatest_met, priority_at}
use Rattle.game.proofs.Duals.{long_dual, turned}
use Rattle.measures.proofs.Cycles.{priority}
use Rattle.measures.proofs.Lists.{all_weaker}
use Rattle.measures.proofs.NotBoth.{path_weaker}

back : (p : Player) → opponent (opponent p) ≡ p
back Even = refl
back Odd = refl

one_side : (p q : Player) → opponent p ≡ opponent q → p ≡ q
one_side p q e = sym (back p) ∙ (ap opponent e ∙ back q)

vertex_dual : (g : Game) (u : ℕ) → vertex (dual g) u ≡ option_map turned (vertex g u)
vertex_dual g u = slice_get-map turned g.vertices u

is_of_dual : (p : Player) (n : ℕ) → IsOf p n → IsOf (opponent p) (n + 1)
is_of_dual Even n h = omega arith
is_of_dual Odd n h = omega arith

of_is_dual : (p : Player) (n : ℕ) → IsOf (opponent p) (n + 1) → IsOf p n
of_is_dual Even n h = omega arith
of_is_dual Odd n h = omega arith

module _ (g : Game) (p : Player) (choice : ℕ → ℕ) where
  edge_to : (u t : ℕ) → Edge p g choice u t → Edge (opponent p) (dual g) choice u t
  edge_to u t (x, at, inl w) = (turned x, vertex_dual g u ∙ ap (option_map turned) at, inl (ap opponent w.0, w.1))
  edge_to u t (x, at, inr w) = (turned x, vertex_dual g u ∙ ap (option_map turned) at, inr ((λ e. w.0 (one_side x.owner p e)), w.1))

  -- the vertex that one of the dual came from
  record Source (u : ℕ) (y : Vertex) : Type 0 where
    source : Vertex
    at : vertex g u ≡ Some source
    is : turned source ≡ y

  source_of : (u : ℕ) (y : Vertex) → vertex (dual g) u ≡ Some y → Source u y
  source_of u y at = by (vertex g u) refl
    where
      by : (o : Option Vertex) → vertex g u ≡ o → Source u y
      by None e = let q : None ≡ Some y = ap (option_map turned) (sym e) ∙ (sym (vertex_dual g u) ∙ at) in absurd cc
      by (Some x) e = let q : Some (turned x) ≡ Some y = ap (option_map turned) (sym e)
          ∙ (sym (vertex_dual g u) ∙ at) in record { source = x; at = e; is = same (turned x) y q }
        where
          same : (a b : Vertex) → Some a ≡ Some b → a ≡ b
          same a b q = cc

  edge_from : (u t : ℕ) → Edge (opponent p) (dual g) choice u t → Edge p g choice u t
  edge_from u t (y, at, inl w) = let s = source_of u y at in (s.source, s.at, inl (one_side s.source.owner p (ap (λ (z : Vertex). z.owner) s.is ∙ w.0), w.1))
  edge_from u t (y, at, inr w) =
      let s = source_of u y at in (
        s.source,
        s.at,
        inr (
          (λ e. w.0 (sym (ap (λ (z : Vertex). z.owner) s.is) ∙ ap opponent e)),
          subst (λ (z : Vertex). Contains z.successors t) (sym s.is) w.1,
        ),
      )

  pub priority_dual : (u : ℕ) → u < length g.vertices → priority (dual g) u ≡ priority g u + 1
  priority_dual u l = elim ((slice_get_cases g.vertices u).1) [
    | inl w ↦ ap priority_at (vertex_dual g u ∙ ap (option_map turned) w.2) ∙ ap (λ o. priority_at o + 1) (sym w.2)
    | inr w ↦ (let h = w.0 in absurd (omega arith))
  ]

  met_dual : (m : ℕ) (others : List ℕ) → AllByRecursion (λ u. u < length g.vertices) (m ∷ others)
      → greatest_met (dual g) (m ∷ others) ≡ greatest_met g (m ∷ others) + 1
  met_dual m [] h = let e = priority_dual m h.0 in omega (arith, e)
  met_dual m (o ∷ others) h = let e = priority_dual m h.0 in let r = met_dual o others h.1 in omega (arith, e, r)

  pub met_of : (others : List ℕ) → others ≢ [] → AllByRecursion (λ u. u < length g.vertices) others → greatest_met (dual g) others ≡ greatest_met g others + 1
  met_of [] m h = absurd (m refl)
  met_of (o ∷ others) m h = met_dual o others h

-- all places of a path lie in the set
pub path_in : (R : ℕ → ℕ → Type 0) (P : ℕ → Type 0) → ((u t : ℕ) → P u → R u t → P t) → (u : ℕ) (others : List ℕ) (t : ℕ) → P u → IsPath R u others t
    → AllByRecursion P others
path_in R P f u [] t h p = tt
path_in R P f u (m ∷ others) t h p = let i = f u m h p.0 in (i, path_in R P f m others t i p.1)

module _ (g : Game) (p : Player) (v : ℕ) where
  pub wins_dual : WinsBy p g v → WinsBy (opponent p) (dual g) v
  wins_dual w = record {
    set = w.set;
    choice = w.choice;
    has = w.has;
    strategy = record {
      inside = λ u h. (let l = w.strategy.inside u h in omega (arith, l, long_dual g));
      own = λ u y h at o. (let s = source_of g p w.choice u y at in
          subst (λ (z : Vertex). Contains z.successors (w.choice u)) s.is
          (w.strategy.own u s.source h s.at (one_side s.source.owner p (ap (λ (z : Vertex). z.owner) s.is ∙ o))));
      closed = λ u t h e. w.strategy.closed u t h (edge_from g p w.choice u t e);
      cycles = λ u others h m path. (
          let q = path_weaker (Edge (opponent p) (dual g) w.choice) (Edge p g w.choice) (edge_from g p w.choice) u others u path in
          let in_set = path_in (Edge p g w.choice) (λ b. IsTrue (w.set b)) w.strategy.closed u others u h q in
          subst (λ k. IsOf (opponent p) k) (sym (met_of g p w.choice others m
          (all_weaker (λ b. IsTrue (w.set b)) (λ u. u < length g.vertices) others w.strategy.inside in_set)))
          (is_of_dual p (greatest_met g others) (w.strategy.cycles u others h m q)));
    };
  }

  pub dual_wins : WinsBy (opponent p) (dual g) v → WinsBy p g v
  dual_wins w = record {
    set = w.set;
    choice = w.choice;
    has = w.has;
    strategy = record {
      inside = inside;
      own = λ u x h at o. w.strategy.own u (turned x) h (vertex_dual g u ∙ ap (option_map turned) at) (ap opponent o);
      closed = closed;
      cycles = λ u others h m path. (
          let q = path_weaker (Edge p g w.choice) (Edge (opponent p) (dual g) w.choice) (edge_to g p w.choice) u others u path in
          let in_set = path_in (Edge p g w.choice) (λ b. IsTrue (w.set b)) closed u others u h path in
          of_is_dual p (greatest_met g others)
          (subst (λ k. IsOf (opponent p) k) (met_of g p w.choice others m
          (all_weaker (λ b. IsTrue (w.set b)) (λ u. u < length g.vertices) others inside in_set)) (w.strategy.cycles u others h m q)));
    };
  }
    where
      inside : (u : ℕ) → IsTrue (w.set u) → u < length g.vertices
      inside u h = let l = w.strategy.inside u h in omega (arith, l, long_dual g)

      closed : (u t : ℕ) → IsTrue (w.set u) → Edge p g w.choice u t → IsTrue (w.set t)
      closed u t h e = w.strategy.closed u t h (edge_to g p w.choice u t e)
