-- What numbers are compared by at the vertices of one priority.
use Rattle.std.specs.Prelude.{◌≡◌, ◌≢◌, ◌↔◌, ◌⊎◌, ◌<◌, ℕ, Bool, true, false, List, Contains, IsTrue, map}
use Rattle.std.specs.List.{AllByRecursion}
use Rattle.systems.specs.Numbered.{IsInside, Numbered, arrow_of, arrows_from}
use Rattle.systems.specs.declared.system.Transition.{Transition}
use Rattle.game.specs.declared.player.Player.{Player}
use Rattle.game.specs.declared.player.Player.TheVariants.{Even, Odd}
use Rattle.calculus.specs.Taken.{is_in}
use Rattle.game.specs.Wins.{IsOf}
use Rattle.rankings.specs.declared.slope.Slope.{Slope}
use Rattle.rankings.specs.declared.slope.Slopes.{Slopes}
use Rattle.rankings.specs.Ranking.{GoesOnWell, Ranking, winner_of}

-- They are those of the ranking at this priority.
pub record AreSlopes (r : Ranking) (p : ℕ) (x : Slopes) : Type 0 where
  pub even : x.even.shift ≡ r.shift Even p
  pub even_falls : IsTrue x.even.falls ↔ IsOf Odd p
  pub odd : x.odd.shift ≡ r.shift Odd p
  pub odd_falls : IsTrue x.odd.falls ↔ IsOf Even p

-- that of a player
abbrev pub slope_for : Slopes → Player → Slope
slope_for x Even = x.even
slope_for x Odd = x.odd

-- From a vertex with the first number, at any priority that has these slopes, the play goes on well at one with the second.
abbrev pub CanFollow : Slopes → ℕ → ℕ → Type 0
CanFollow x own next = (r : Ranking) (p : ℕ) → AreSlopes r p x → GoesOnWell r (winner_of own) p own next

-- A vertex of this owner with this number is ranked, where its successors have these two.
pub record TwoFollow (x : Slopes) (owner : Player) (own first second : ℕ) : Type 0 where
  pub mine : owner ≡ winner_of own → CanFollow x own first ⊎ CanFollow x own second
  pub theirs : owner ≢ winner_of own → CanFollow x own first × CanFollow x own second

-- no transition has a label in the set
abbrev pub IsNoStep : List Bool → List Transition → Type 0
IsNoStep set row = (t : Transition) → Contains row t → is_in set t ≡ false

-- The same where the successors are those of a modality with this set of labels: its child, whose numbers are these, at the targets, or else the sink.
pub record StepsFollow (x : Slopes) (owner : Player) (own : ℕ) (set : List Bool) (row : List Transition) (next : ℕ → ℕ) (sink : ℕ) : Type 0 where
  pub mine : owner ≡ winner_of own
      → ((t : Transition) × Contains row t × (is_in set t ≡ true) × CanFollow x own (next t.target)) ⊎ (IsNoStep set row × CanFollow x own sink)
  pub theirs : owner ≢ winner_of own → (t : Transition) → Contains row t → is_in set t ≡ true → CanFollow x own (next t.target)
  pub none : IsNoStep set row → CanFollow x own sink

-- At state s the vertex of a modality, which this player owns, is ranked: for the transitions that go from there.
pub record StepsFollowAt (l : Numbered) (x : Slopes) (owner : Player) (set : List Bool) (own next : ℕ → ℕ) (sink s : ℕ) : Type 0 where
  pub row : List Transition
  pub arrows : map (arrow_of l.labels) row ≡ arrows_from l.system s
  pub inside : IsInside l row
  pub numbers : AllByRecursion (λ t. t.label < 4294967296) row
  pub steps : StepsFollow x owner (own s) set row next sink

-- The sink to which a modality of this owner leads where there is no step: the true one for a box, which is Odd's, and the false one for a diamond.
abbrev pub sink_of : Player → ℕ
sink_of Even = 1
sink_of Odd = 0
