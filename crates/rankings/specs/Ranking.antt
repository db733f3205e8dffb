-- Rankings: for each vertex of a game a number that tells who wins it, and how far the play has to go.
use Rattle.std.specs.Prelude.{◌≡◌, ◌≢◌, ℕ, ◌<◌, ◌≤◌, ◌/◌, ◌^◌, Contains, Some, if◌then◌else◌}
use Rattle.game.specs.declared.player.Player.{Player}
use Rattle.game.specs.declared.player.Player.TheVariants.{Even, Odd}
use Rattle.game.specs.Game.{Game, Vertex, opponent, vertex}
use Rattle.game.specs.Wins.{IsOf}
use Rattle.measures.specs.Measure.{is_odd}

-- A number for each vertex, and for each player and each priority how many of the lowest bits of numbers don't count there.
pub record Ranking : Type 0 where
  pub number : ℕ → ℕ
  pub shift : Player → ℕ → ℕ

-- An odd number says that Odd wins.
abbrev pub winner_of : ℕ → Player
winner_of n = if is_odd n then Odd else Even

-- what counts of a number at this priority
abbrev pub counted_of : Ranking → Player → ℕ → ℕ → ℕ
counted_of r player p n = n / 2 ^ r.shift player p

-- From a vertex of priority p and number n, which this player is said to win, the play goes on well at one with number m: the same player is said to win
-- that, and what counts doesn't rise, and falls where the priority is the opponent's.
pub record GoesOnWell (r : Ranking) (player : Player) (p n m : ℕ) : Type 0 where
  pub winner : winner_of m ≡ player
  pub stays : counted_of r player p m ≤ counted_of r player p n
  pub falls : IsOf (opponent player) p → counted_of r player p m < counted_of r player p n

-- Where the vertex is the winner's, the play goes on well at some successor, and else at each of them.
pub record IsRanked (r : Ranking) (n : ℕ) (x : Vertex) : Type 0 where
  pub own : x.owner ≡ winner_of n → (t : ℕ) × Contains x.successors t × GoesOnWell r (winner_of n) x.priority n (r.number t)
  pub other : x.owner ≢ winner_of n → (t : ℕ) → Contains x.successors t → GoesOnWell r (winner_of n) x.priority n (r.number t)

-- At a greater priority no more bits count.
abbrev pub IsRising : Ranking → Type 0
IsRising r = (player : Player) (p q : ℕ) → p ≤ q → r.shift player p ≤ r.shift player q

-- Each vertex is ranked.
pub record IsGoodRanking (g : Game) (r : Ranking) : Type 0 where
  pub rising : IsRising r
  pub ranked : (v : ℕ) (x : Vertex) → vertex g v ≡ Some x → IsRanked r (r.number v) x
