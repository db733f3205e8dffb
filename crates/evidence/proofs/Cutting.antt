-- Evidence that is cut to a closed set is good in each game that goes on as this one does there.
use Rattle.std.proofs.Common.{◌≡◌, ◌≢◌, ℕ, zero, suc, ◌+◌, Bool, true, false, List, [], ◌∷◌, length, refl, sym, ap, subst, ◌∙◌, inl, inr, arith, IsTrue}
use Rattle.std.proofs.Common.{Contains, Some, None, Option, if◌then◌else◌, slice_index_or, take, count_by, nat_le}
use Rattle.std.specs.Option.{is_some}
use Rattle.systems.specs.Path.{IsPath}
use Rattle.game.specs.declared.player.Player.{Player}
use Rattle.game.specs.declared.player.Player.TheVariants.{Even, Odd}
use Rattle.game.specs.Game.{Game, Vertex, greatest, opponent, vertex}
use Rattle.game.specs.Wins.{IsOf}
use Rattle.measures.specs.Measure.{Counts, IsAtMost, IsBelow, odd_down}
use Rattle.measures.proofs.NotBoth.{path_on}
use Rattle.evidence.specs.Evidence.{Descends, Entry, Evidence, GoesTo, IsEvidence, LacksFault, IsGood, counted, entry_at, even_down, has}
use Rattle.evidence.specs.Witness.{Goes, IsClosedFor, cut_from, cut_to}
use Rattle.evidence.specs.Laws.{ReachedIsClosed}
use Rattle.evidence.specs.declared.verdict.Fault.{Fault}
use Rattle.evidence.specs.declared.verdict.Fault.TheVariants.{Leaves, Move, Rank}

-- ------------------------------------------------------------------ entries that are cut

long_cut : (set : ℕ → Bool) (v : ℕ) (xs : List (Option Entry)) → length (cut_from set v xs) ≡ length xs
long_cut set v [] = refl
long_cut set v (x ∷ xs) = ap (λ n. suc n) (long_cut set (v + 1) xs)

got_cut : (set : ℕ → Bool) (v : ℕ) (xs : List (Option Entry)) (i u : ℕ) → v + i ≡ u
    → slice_index_or (cut_from set v xs) i None ≡ (if set u then slice_index_or xs i None else None)
got_cut set v [] i u e = none (set u)
  where
    none : (b : Bool) → ◌≡◌ {A = Option Entry} None (if b then None else None)
    none true = refl
    none false = refl
got_cut set v (x ∷ xs) zero u e = let q : v ≡ u = omega arith in ap (λ w. if set w then x else None) q
got_cut set v (x ∷ xs) (suc i) u e = got_cut set (v + 1) xs i u (omega arith)

pub cut_at : (set : ℕ → Bool) (e : Evidence) (u : ℕ) → entry_at (cut_to set e) u ≡ (if set u then entry_at e u else None)
cut_at set e u = got_cut set 0 e.entries u u (omega arith)

pub cut_in : (set : ℕ → Bool) (e : Evidence) (u : ℕ) → IsTrue (set u) → entry_at (cut_to set e) u ≡ entry_at e u
cut_in set e u h = cut_at set e u ∙ ap (λ b. if b then entry_at e u else None) h

pub of_cut : (set : ℕ → Bool) (e : Evidence) (u : ℕ) (x : Entry) → entry_at (cut_to set e) u ≡ Some x → IsTrue (set u) × (entry_at e u ≡ Some x)
of_cut set e u x h = by (set u) refl
  where
    by : (b : Bool) → set u ≡ b → IsTrue (set u) × (entry_at e u ≡ Some x)
    by true q = (q, sym (cut_in set e u q) ∙ h)
    by false q = let w : None ≡ Some x = sym (cut_at set e u ∙ ap (λ b. if b then entry_at e u else None) q) ∙ h in absurd cc

-- ------------------------------------------------------------------ what is reached

pub reached_closed : ReachedIsClosed
reached_closed g e u set good h is = (
  (is u).1 ([], refl),
  record {
    inside = λ t i. (let p = (is t).0 i in inner u p.0 t h p.1);
    stays = λ s t i go. (let p = (is s).0 i in (is t).1 (joined u p.0 s t p.1 go));
  },
)
  where
    joined : (u : ℕ) (others : List ℕ) (s t : ℕ) → IsPath (Goes g e) u others s → Goes g e s t → (more : List ℕ) × IsPath (Goes g e) u more t
    joined u others s t p go = (_, path_on (Goes g e) u others s t p go)

    inner : (u : ℕ) (others : List ℕ) (t : ℕ) → IsTrue (has e u) → IsPath (Goes g e) u others t → IsTrue (has e t)
    inner u [] t i p = subst (λ v. IsTrue (has e v)) p i
    inner u (m ∷ others) t i p = let go = p.0 in inner m others t (good u Leaves go.0 go.1 go.2 go.3 m go.4) p.1

-- ------------------------------------------------------------------ the evidence that is cut

pub counted_same : (g other : Game) (p : Player) → greatest other ≡ greatest g → counted p other ≡ counted p g
counted_same g other Even e = ap odd_down e
counted_same g other Odd e = ap even_down e

-- what it is to descend, with the priorities that count given
abbrev Falls : Player → List ℕ → ℕ → List ℕ → List ℕ → Type 0
Falls player qs p rank next =
    IsAtMost (Counts (take (count_by (λ q. nat_le p q) qs) next)) (Counts (take (count_by (λ q. nat_le p q) qs) rank))
    × (IsOf (opponent player) p → IsBelow (Counts (take (count_by (λ q. nat_le p q) qs) next)) (Counts (take (count_by (λ q. nat_le p q) qs) rank)))

-- a vertex of another game, where the play goes on as at u
pub record Follows (g : Game) (e : Evidence) (u : ℕ) (y : Vertex) : Type 0 where
  pub first : Vertex
  pub at : vertex g u ≡ Some first
  pub owner : y.owner ≡ first.owner
  pub priority : y.priority ≡ first.priority
  pub own : (t : ℕ) → Goes g e u t → Contains first.successors t → Contains y.successors t
  pub others : first.owner ≢ e.player → (t : ℕ) → Contains y.successors t → Contains first.successors t

module _ (g other : Game) (e : Evidence) (set : ℕ → Bool) (is : IsEvidence g e) (good : IsGood g e) (closed : IsClosedFor g e set)
    (top : greatest other ≡ greatest g) (long : length other.vertices ≡ length g.vertices)
    (follows : (u : ℕ) (y : Vertex) → IsTrue (set u) → vertex other u ≡ Some y → Follows g e u y) where
  abbrev f : Evidence
  f = cut_to set e

  pub cut_evidence : IsEvidence other f
  cut_evidence = record {
    long = long_cut set 0 e.entries ∙ (is.long ∙ sym long);
    entries = λ v x here. (
        let k = is.entries v x (of_cut set e v x here).1 in
        record { move = λ t m. (let h = k.move t m in omega arith); rank = k.rank ∙ ap length (sym (counted_same g other e.player top)) });
  }

  goes : (u : ℕ) (x : Entry) (y : Vertex) (w : Follows g e u y) (t : ℕ) → GoesTo e.player y x t → GoesTo e.player w.first x t
  goes u x y w t (inl h) = inl (sym w.owner ∙ h.0, h.1)
  goes u x y w t (inr h) = let n : w.first.owner ≢ e.player = λ q. h.0 (w.owner ∙ q) in inr (n, w.others n t h.1)

  free : (u : ℕ) (fault : Fault) (x : Entry) (y : Vertex) → IsTrue (set u) → entry_at e u ≡ Some x → Follows g e u y → LacksFault other f y x fault
  free u Move x y i here w = (
    λ own. (let m = (good u Move x w.first here w.at).0 (sym w.owner ∙ own)
        in (m.0, m.1, w.own m.0 (x, w.first, here, w.at, inl (sym w.owner ∙ own, m.1)) m.2)),
    λ n. (good u Move x w.first here w.at).1 (λ q. n (w.owner ∙ q)),
  )
  free u Leaves x y i here w = λ t to. (
      let go = goes u x y w t to in
      let h : IsTrue (has e t) = good u Leaves x w.first here w.at t go in
      subst (λ o. IsTrue (is_some o)) (sym (cut_in set e t (closed.stays u t i (x, w.first, here, w.at, go)))) h)
  free u Rank x y i here w = λ t z to there. (
      let go = goes u x y w t to in
      let d = good u Rank x w.first here w.at t z go (of_cut set e t z there).1 in
      descends x.rank z.rank w.first.priority y.priority (sym w.priority) d)
    where
      descends : (rank next : List ℕ) (p q : ℕ) → p ≡ q → Descends e.player g p rank next → Descends e.player other q rank next
      descends rank next p q same d =
          subst (λ n. Descends e.player other n rank next) same
          (subst (λ qs. Falls e.player qs p rank next) (sym (counted_same g other e.player top)) d)

  pub cut_good : IsGood other f
  cut_good = λ u fault x y here at. (let w = of_cut set e u x here in free u fault x y w.0 w.1 (follows u y w.0 at))
