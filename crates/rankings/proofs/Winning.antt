-- A good ranking names the winner of each vertex: the play that it tells is a strategy of that player on all that the player is said to win.
use Rattle.std.proofs.Common.{◌≡◌, ◌≢◌, ℕ, ◌+◌, ◌-◌, ◌/◌, ◌^◌, div-mul-le_self, ◌<◌, ◌≤◌, ◌⊎◌, Bool, true, false, ◌&&◌, List, [], length, refl, sym, ap, subst, ◌∙◌, inl, inr, arith, true≢false}
use Rattle.std.specs.Prelude.{IsTrue, Contains, Some, None, Option, nat_lt}
use Rattle.std.proofs.lemmas.Nat.{le-div, pow_pos, shr-shr}
use Rattle.systems.specs.Path.{IsPath}
use Rattle.game.specs.declared.player.Player.{Player}
use Rattle.game.specs.declared.player.Player.TheVariants.{Even, Odd}
use Rattle.game.specs.Game.{Game, Vertex, opponent, vertex}
use Rattle.game.specs.Wins.{Edge, IsOf, WinsBy, greatest_met, priority_at}
use Rattle.measures.proofs.Cycles.{odd_or_even, priority}
use Rattle.measures.proofs.NotBoth.{not_both_win}
use Rattle.laws.proofs.Flags.{above_false, and_true, below_or_not, below_true, both}
use Rattle.laws.proofs.Paths.{path_into}
use Rattle.rankings.specs.Laws.{LeadsInside, RankingDecides, RankingWins}
use Rattle.rankings.specs.Ranking.{GoesOnWell, IsGoodRanking, IsRanked, Ranking, counted_of, winner_of}
use Rattle.rankings.proofs.Cycles.{no_cycle}

-- ---- players

abbrev is_player : Player → Player → Bool
is_player Even Even = true
is_player Even Odd = false
is_player Odd Even = false
is_player Odd Odd = true

same_player : (p q : Player) → is_player p q ≡ true → p ≡ q
same_player Even Even e = refl
same_player Even Odd e = absurd (true≢false (sym e))
same_player Odd Even e = absurd (true≢false (sym e))
same_player Odd Odd e = refl

player_same : (p q : Player) → p ≡ q → is_player p q ≡ true
player_same Even q e = subst (λ r. is_player Even r ≡ true) e refl
player_same Odd q e = subst (λ r. is_player Odd r ≡ true) e refl

same_or_other : (p q : Player) → (p ≡ q) ⊎ (p ≢ q)
same_or_other Even Even = inl refl
same_or_other Even Odd = inr (λ e. cc)
same_or_other Odd Even = inr (λ e. cc)
same_or_other Odd Odd = inl refl

-- a priority is a player's or the opponent's
of_either : (p : Player) (n : ℕ) → IsOf p n ⊎ IsOf (opponent p) n
of_either Even n = elim (odd_or_even n) [ inl w ↦ inr w.1 | inr w ↦ inl w.1 ]
of_either Odd n = elim (odd_or_even n) [ inl w ↦ inl w.1 | inr w ↦ inr w.1 ]

-- ---- numbers

quotient_least : (a b k : ℕ) → a ≤ b → a / 2 ^ k ≤ b / 2 ^ k
quotient_least a b k h = le-div (a / 2 ^ k) b (2 ^ k) (pow_pos k) (let m = div-mul-le_self a (2 ^ k) in omega (arith, m, h))

-- where more bits don't count, what counts doesn't rise either
coarser : (a b j k : ℕ) → j ≤ k → a / 2 ^ j ≤ b / 2 ^ j → a / 2 ^ k ≤ b / 2 ^ k
coarser a b j k h le =
    let d : ℕ = k - j in
    let e : j + d ≡ k = omega arith in
    subst (λ i. a / 2 ^ i ≤ b / 2 ^ i) e
    (subst (λ x. x ≤ b / 2 ^ (j + d)) (shr-shr a j d) (subst (λ y. a / 2 ^ j / 2 ^ d ≤ y) (shr-shr b j d) (quotient_least (a / 2 ^ j) (b / 2 ^ j) d le)))

-- ---- the strategy

-- where the play goes on at the winner's own vertex
abbrev pick : (r : Ranking) (n : ℕ) (x : Vertex) → IsRanked r n x → (x.owner ≡ winner_of n) ⊎ (x.owner ≢ winner_of n) → ℕ
pick r n x k (inl own) = (k.own own).0
pick r n x k (inr other) = 0

picked : (r : Ranking) (n : ℕ) (x : Vertex) (k : IsRanked r n x) (c : (x.owner ≡ winner_of n) ⊎ (x.owner ≢ winner_of n)) → x.owner ≡ winner_of n
    → Contains x.successors (pick r n x k c) × GoesOnWell r (winner_of n) x.priority n (r.number (pick r n x k c))
picked r n x k (inl own) o = ((k.own own).1, (k.own own).2)
picked r n x k (inr other) o = absurd (other o)

module _ (g : Game) (r : Ranking) (closed : LeadsInside g) (good : IsGoodRanking g r) (player : Player) where
  abbrev set : ℕ → Bool
  set u = nat_lt u (length g.vertices) && is_player (winner_of (r.number u)) player

  in_set : (u : ℕ) → u < length g.vertices → winner_of (r.number u) ≡ player → IsTrue (set u)
  in_set u h w = and_true (nat_lt u (length g.vertices)) (is_player (winner_of (r.number u)) player) (below_true u (length g.vertices) h)
      (player_same (winner_of (r.number u)) player w)

  of_set : (u : ℕ) → IsTrue (set u) → (u < length g.vertices) × (winner_of (r.number u) ≡ player)
  of_set u i =
      let b = both (nat_lt u (length g.vertices)) (is_player (winner_of (r.number u)) player) i in (
        elim (below_or_not u (length g.vertices)) [ inl h ↦ h | inr h ↦ absurd (true≢false (sym b.0 ∙ above_false u (length g.vertices) h)) ],
        same_player (winner_of (r.number u)) player b.1,
      )

  abbrev choice_at : (u : ℕ) (o : Option Vertex) → vertex g u ≡ o → ℕ
  choice_at u None e = 0
  choice_at u (Some x) e = pick r (r.number u) x (good.ranked u x e) (same_or_other x.owner (winner_of (r.number u)))

  abbrev choice : ℕ → ℕ
  choice u = choice_at u (vertex g u) refl

  chosen : (u : ℕ) (o : Option Vertex) (e : vertex g u ≡ o) (x : Vertex) → o ≡ Some x → x.owner ≡ winner_of (r.number u)
      → Contains x.successors (choice_at u o e) × GoesOnWell r (winner_of (r.number u)) x.priority (r.number u) (r.number (choice_at u o e))
  chosen u None e x is own = cc
  chosen u (Some y) e x is own =
      let q : y ≡ x = cc in
      subst (λ (z : Vertex). Contains z.successors (choice_at u (Some y) e)
      × GoesOnWell r (winner_of (r.number u)) z.priority (r.number u) (r.number (choice_at u (Some y) e))) q
      (picked r (r.number u) y (good.ranked u y e) (same_or_other y.owner (winner_of (r.number u)))
      (ap (λ (z : Vertex). z.owner) q ∙ own))

  -- an edge of the strategy leads to a successor, and the play goes on well there
  led : (u t : ℕ) (x : Vertex) → vertex g u ≡ Some x → winner_of (r.number u) ≡ player
      → ((x.owner ≡ player) × (t ≡ choice u)) ⊎ ((x.owner ≢ player) × Contains x.successors t)
      → Contains x.successors t × GoesOnWell r (winner_of (r.number u)) x.priority (r.number u) (r.number t)
  led u t x at w (inl o) =
      subst (λ z. Contains x.successors z × GoesOnWell r (winner_of (r.number u)) x.priority (r.number u) (r.number z)) (sym o.1)
      (chosen u (vertex g u) refl x at (o.0 ∙ sym w))
  led u t x at w (inr o) = (o.1, (good.ranked u x at).other (λ e. o.0 (e ∙ w)) t o.1)

  step : (u t : ℕ) → IsTrue (set u) → Edge player g choice u t → (t < length g.vertices) × GoesOnWell r player (priority g u) (r.number u) (r.number t)
  step u t i edge =
      let w = (of_set u i).1 in
      let l = led u t edge.0 edge.1 w edge.2 in (
        closed u t edge.0 edge.1 l.0,
        subst (λ p. GoesOnWell r p (priority g u) (r.number u) (r.number t)) w
            (subst (λ o. GoesOnWell r (winner_of (r.number u)) (priority_at o) (r.number u) (r.number t)) (sym edge.1) l.1),
      )

  stays_in : (u t : ℕ) → IsTrue (set u) → Edge player g choice u t → IsTrue (set t)
  stays_in u t i edge = let s = step u t i edge in in_set t s.0 s.1.winner

  abbrev Step : ℕ → ℕ → Type 0
  Step u t = IsTrue (set u) × Edge player g choice u t

  cycle_is_own : (u : ℕ) (others : List ℕ) → IsTrue (set u) → others ≢ [] → IsPath (Edge player g choice) u others u → IsOf player (greatest_met g others)
  cycle_is_own u others i n path = elim (of_either player (greatest_met g others)) [
    | inl own ↦ own
    | inr other ↦ absurd (
        no_cycle g Step (λ p v. counted_of r player p (r.number v)) (IsOf (opponent player))
        (λ v t p s le. coarser (r.number t) (r.number v) (r.shift player (priority g v)) (r.shift player p) (good.rising player (priority g v) p le)
        (step v t s.0 s.1).1.stays)
        (λ v t s f. (step v t s.0 s.1).1.falls f)
        u others n
        (path_into (λ v. IsTrue (set v)) (Edge player g choice) Step (λ v t j e. (stays_in v t j e, (j, e))) u others u i path).0
        other)
  ]

  pub wins_all : (v : ℕ) → v < length g.vertices → winner_of (r.number v) ≡ player → WinsBy player g v
  wins_all v h w = record {
    set = set;
    choice = choice;
    has = in_set v h w;
    strategy = record {
      inside = λ u i. (of_set u i).0;
      own = λ u x i at own. (chosen u (vertex g u) refl x at (own ∙ sym (of_set u i).1)).0;
      closed = stays_in;
      cycles = cycle_is_own;
    };
  }

pub ranking_wins : RankingWins
ranking_wins g r closed good v h = wins_all g r closed good (winner_of (r.number v)) v h refl

not_even : (p : Player) → p ≢ Even → p ≡ Odd
not_even Even n = absurd (n refl)
not_even Odd n = refl

pub ranking_decides : RankingDecides
ranking_decides g r closed good v h =
    let wins = ranking_wins g r closed good v h in (
      λ even. elim (same_or_other (winner_of (r.number v)) Even) [
        | inl e ↦ e
        | inr n ↦ absurd (not_both_win g v even (subst (λ p. WinsBy p g v) (not_even (winner_of (r.number v)) n) wins))
      ],
      λ e. subst (λ p. WinsBy p g v) e wins,
    )
