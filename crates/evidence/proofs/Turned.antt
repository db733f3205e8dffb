-- Odd's evidence is Even's of the dual game.
use Rattle.std.proofs.Common.{◌≡◌, ℕ, ◌+◌, ◌<◌, length, refl, sym, ap, subst, ◌∙◌, inl, inr, arith, Some, None, Option, option_map}
use Rattle.std.proofs.lemmas.Option.{slice_get-map, slice_get_within}
use Rattle.game.specs.declared.player.Player.{Player}
use Rattle.game.specs.declared.player.Player.TheVariants.{Even, Odd}
use Rattle.game.specs.Game.{Game, Vertex, dual, opponent, vertex}
use Rattle.game.proofs.Duals.{turned}
use Rattle.evidence.specs.Evidence.{Entry, Evidence, GoesTo, LacksFault, IsGood}
use Rattle.evidence.specs.declared.verdict.Fault.{Fault}
use Rattle.evidence.specs.declared.verdict.Fault.TheVariants.{Leaves, Move, Rank}
use Rattle.evidence.proofs.Descent.{even_descends, even_reaches, odd_descends, odd_reaches}

-- the same entries for the other player
abbrev pub for_player : Player → Evidence → Evidence
for_player p e = record { player = p; entries = e.entries }

vertex_turned : (g : Game) (u : ℕ) (v : Vertex) → vertex g u ≡ Some v → vertex (dual g) u ≡ Some (turned v)
vertex_turned g u v at = slice_get-map turned g.vertices u ∙ ap (option_map turned) at

-- the vertex that one of the dual came from
source : (g : Game) (u : ℕ) (y : Vertex) → vertex (dual g) u ≡ Some y → (v : Vertex) × (vertex g u ≡ Some v) × (turned v ≡ y)
source g u y at = by (vertex g u) refl
  where
    by : (o : Option Vertex) → vertex g u ≡ o → (v : Vertex) × (vertex g u ≡ Some v) × (turned v ≡ y)
    by None e = let q : None ≡ Some y = ap (option_map turned) (sym e) ∙ (sym (slice_get-map turned g.vertices u) ∙ at) in absurd cc
    by (Some v) e = let q : Some (turned v) ≡ Some y = ap (option_map turned) (sym e)
        ∙ (sym (slice_get-map turned g.vertices u) ∙ at) in (v, e, same (turned v) y q)
      where
        same : (a b : Vertex) → Some a ≡ Some b → a ≡ b
        same a b q = cc

odd_is_even : (p : Player) → p ≡ Odd → opponent p ≡ Even
odd_is_even p e = ap opponent e

even_is_odd : (p : Player) → opponent p ≡ Even → p ≡ Odd
even_is_odd Even e = cc
even_is_odd Odd e = refl

some_vertex : (g : Game) (u : ℕ) (v : Vertex) → vertex g u ≡ Some v → 0 < length g.vertices
some_vertex g u v at = let l = slice_get_within g.vertices u v at in omega arith

module _ (g : Game) (e : Evidence) where
  goes_on : (v : Vertex) (x : Entry) (t : ℕ) → GoesTo Odd v x t → GoesTo Even (turned v) x t
  goes_on v x t (inl w) = inl (odd_is_even v.owner w.0, w.1)
  goes_on v x t (inr w) = inr ((λ q. w.0 (even_is_odd v.owner q)), w.1)

  goes_back : (v : Vertex) (x : Entry) (t : ℕ) → GoesTo Even (turned v) x t → GoesTo Odd v x t
  goes_back v x t (inl w) = inl (even_is_odd v.owner w.0, w.1)
  goes_back v x t (inr w) = inr ((λ q. w.0 (odd_is_even v.owner q)), w.1)

  free_on : (v : Vertex) (x : Entry) (fault : Fault) → 0 < length g.vertices → LacksFault g (for_player Odd e) v x fault
      → LacksFault (dual g) (for_player Even e) (turned v) x fault
  free_on v x Move h f = ((λ q. f.0 (even_is_odd v.owner q)), (λ n. f.1 (λ q. n (odd_is_even v.owner q))))
  free_on v x Leaves h f = λ t to. f t (goes_back v x t to)
  free_on v x Rank h f = λ t y to at. even_descends (dual g) (v.priority + 1) x.rank y.rank
      (odd_reaches g v.priority x.rank y.rank h (f t y (goes_back v x t to) at))

  free_back : (v : Vertex) (x : Entry) (fault : Fault) → 0 < length g.vertices → LacksFault (dual g) (for_player Even e) (turned v) x fault
      → LacksFault g (for_player Odd e) v x fault
  free_back v x Move h f = ((λ q. f.0 (odd_is_even v.owner q)), (λ n. f.1 (λ q. n (even_is_odd v.owner q))))
  free_back v x Leaves h f = λ t to. f t (goes_on v x t to)
  free_back v x Rank h f = λ t y to at. odd_descends g v.priority x.rank y.rank h
      (even_reaches (dual g) (v.priority + 1) x.rank y.rank (f t y (goes_on v x t to) at))

  pub good_on : IsGood g (for_player Odd e) → IsGood (dual g) (for_player Even e)
  good_on good = λ u fault x y here at. (
      let s = source g u y at in
      subst (λ z. LacksFault (dual g) (for_player Even e) z x fault) s.2 (free_on s.0 x fault (some_vertex g u s.0 s.1) (good u fault x s.0 here s.1)))

  pub good_back : IsGood (dual g) (for_player Even e) → IsGood g (for_player Odd e)
  good_back good = λ u fault x v here at. free_back v x fault (some_vertex g u v at) (good u fault x (turned v) here (vertex_turned g u v at))
