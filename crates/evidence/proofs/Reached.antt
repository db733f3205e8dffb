-- What is reached from a vertex is a set that tests tell: the turns of a search come to rest.
use Rattle.std.proofs.Common.{◌≡◌, ℕ, zero, suc, ◌<◌, ◌≤◌, Bool, true, false, ◌&&◌, ◌||◌, List, [], ◌∷◌, length, refl, sym, subst, ◌∙◌, inl, inr, arith}
use Rattle.std.proofs.Common.{IsTrue, Contains, Some, None, Option, true≢false, if◌then◌else◌}
use Rattle.std.specs.Prelude.{◌==◌}
use Rattle.std.specs.List.{list_any, range_with_len}
use Rattle.std.proofs.lemmas.Bool.Decides.{eqb_tells}
use Rattle.std.proofs.lemmas.Option.{slice_get_within}
use Rattle.systems.specs.Path.{IsPath}
use Rattle.game.specs.Game.{Game, Vertex, vertex}
use Rattle.measures.proofs.NotBoth.{path_on}
use Rattle.measures.proofs.Rests.{rests}
use Rattle.laws.proofs.Flags.{and_true, both, either, or_left, or_right, same_true}
use Rattle.laws.proofs.Lists.{any_gives, gives_any, gives_range}
use Rattle.evidence.specs.Evidence.{Entry, Evidence, IsEvidence, IsGood, entry_at, has}
use Rattle.evidence.specs.Witness.{Goes, AreReached}
use Rattle.evidence.specs.Laws.{ReachedExists}
use Rattle.evidence.specs.declared.verdict.Fault.TheVariants.{Leaves}
use Rattle.evidence.proofs.GoodWins.{has_within}
use Rattle.evidence.proofs.Tested.{goal_in, goals, of_goal}

kept_on : (a b : Bool) → (if b then 1 else 0) ≤ (if a then 1 else 0) → b ≡ true → a ≡ true
kept_on true b h e = refl
kept_on false true h e = absurd (omega arith)
kept_on false false h e = absurd (true≢false (sym e))

module _ (g : Game) (e : Evidence) where
  abbrev goes_from : Option Entry → Option Vertex → ℕ → Bool
  goes_from None v t = false
  goes_from (Some x) None t = false
  goes_from (Some x) (Some v) t = list_any (λ w. w == t) (goals e.player v x)

  abbrev goes : ℕ → ℕ → Bool
  goes s t = goes_from (entry_at e s) (vertex g s) t

  goes_is : (s t : ℕ) → goes s t ≡ true → Goes g e s t
  goes_is s t = by (entry_at e s) (vertex g s) refl refl
    where
      by : (o : Option Entry) (w : Option Vertex) → entry_at e s ≡ o → vertex g s ≡ w → goes_from o w t ≡ true → Goes g e s t
      by None w p q h = absurd (true≢false (sym h))
      by (Some x) None p q h = absurd (true≢false (sym h))
      by (Some x) (Some v) p q h =
          let w = any_gives (λ u. u == t) (goals e.player v x) h in
          elim (eqb_tells w.0 t) [
            | inl z ↦ (x, v, p, q, of_goal e.player v x t (subst (λ u. Contains (goals e.player v x) u) z.1 w.1))
            | inr z ↦ absurd (true≢false (sym w.2 ∙ z.0))
          ]

  is_goes : (s t : ℕ) → Goes g e s t → goes s t ≡ true
  is_goes s t (x, v, p, q, to) = (λ i. goes_from (p i) (q i) t)
      ∙ gives_any (λ u. u == t) (goals e.player v x) t (goal_in e.player v x t to) (same_true t t refl)

  module _ (u : ℕ) where
    -- what is reached by at most k steps
    abbrev turn : ℕ → ℕ → Bool
    turn zero t = t == u
    turn (suc k) t = turn k t || list_any (λ s. turn k s && goes s t) (range_with_len 0 (length g.vertices))

    turn_path : (k t : ℕ) → turn k t ≡ true → (others : List ℕ) × IsPath (Goes g e) u others t
    turn_path zero t h = elim (eqb_tells t u) [ inl w ↦ ([], sym w.1) | inr w ↦ absurd (true≢false (sym h ∙ w.0)) ]
    turn_path (suc k) t h = elim (either (turn k t) (list_any (λ s. turn k s && goes s t) (range_with_len 0 (length g.vertices))) h) [
      | inl q ↦ turn_path k t q
      | inr q ↦ (
          let w = any_gives (λ s. turn k s && goes s t) (range_with_len 0 (length g.vertices)) q in
          let c = both (turn k w.0) (goes w.0 t) w.2 in
          let p = turn_path k w.0 c.0 in
          (_, path_on (Goes g e) u p.0 w.0 t p.1 (goes_is w.0 t c.1)))
    ]

    turn_on : (k s t : ℕ) → turn k s ≡ true → Goes g e s t → turn (suc k) t ≡ true
    turn_on k s t h go =
        or_right (turn k t) (list_any (λ z. turn k z && goes z t) (range_with_len 0 (length g.vertices)))
        (gives_any (λ z. turn k z && goes z t) (range_with_len 0 (length g.vertices)) s
        (gives_range 0 (length g.vertices) s (omega arith) (let l = slice_get_within g.vertices s go.1 go.3 in omega arith))
        (and_true (turn k s) (goes s t) h (is_goes s t go)))

    turn_first : (k : ℕ) → turn k u ≡ true
    turn_first zero = same_true u u refl
    turn_first (suc k) = or_left (turn k u) (list_any (λ s. turn k s && goes s u) (range_with_len 0 (length g.vertices))) (turn_first k)

    count : ℕ → ℕ → ℕ
    count k t = if turn k t then 1 else 0

    count_rises : (k t : ℕ) → count k t ≤ count (suc k) t
    unfolding count
    count_rises k t = by (turn k t) (list_any (λ s. turn k s && goes s t) (range_with_len 0 (length g.vertices)))
      where
        by : (a b : Bool) → (if a then 1 else 0) ≤ (if a || b then 1 else 0)
        by true b = omega arith
        by false b = omega arith

    count_small : (k t : ℕ) → t < length g.vertices → count k t ≤ 1
    unfolding count
    count_small k t l = by (turn k t)
      where
        by : (a : Bool) → (if a then 1 else 0) ≤ 1
        by true = omega arith
        by false = omega arith

    rested : (k : ℕ) × ((t : ℕ) → t < length g.vertices → count (suc k) t ≤ count k t)
    rested = rests count 1 (length g.vertices) count_rises count_small

    still : (k t : ℕ) → count (suc k) t ≤ count k t → turn (suc k) t ≡ true → turn k t ≡ true
    unfolding count
    still k t h q = kept_on (turn k t) (turn (suc k) t) h q

    reached : IsEvidence g e → IsGood g e → IsTrue (has e u) → (set : ℕ → Bool) × AreReached g e u set
    reached is good h = (turn rested.0, λ t. ((λ q. turn_path rested.0 t q), (λ p. along u p.0 t h (turn_first rested.0) p.1)))
      where
        along : (s : ℕ) (others : List ℕ) (t : ℕ) → IsTrue (has e s) → turn rested.0 s ≡ true → IsPath (Goes g e) s others t → turn rested.0 t ≡ true
        along s [] t i q p = subst (λ z. turn rested.0 z ≡ true) p q
        along s (m ∷ others) t i q p =
            let go = p.0 in
            let j : IsTrue (has e m) = good s Leaves go.0 go.1 go.2 go.3 m go.4 in
            along m others t j (still rested.0 m (rested.1 m (has_within (length g.vertices) e is.long m j)) (turn_on rested.0 s m q go)) p.1

pub reached_exists : ReachedExists
reached_exists g e u is good h = reached g e u is good h
