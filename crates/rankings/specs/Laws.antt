-- What good rankings tell.
use Rattle.std.specs.Prelude.{◌≡◌, ℕ, ◌<◌, ◌↔◌, Contains, Some, length}
use Rattle.game.specs.declared.player.Player.TheVariants.{Even}
use Rattle.game.specs.Game.{Game, Vertex, vertex}
use Rattle.game.specs.Wins.{Wins, WinsBy}
use Rattle.rankings.specs.Ranking.{IsGoodRanking, Ranking, winner_of}

-- Successors are vertices.
abbrev pub LeadsInside : Game → Type 0
LeadsInside g = (v t : ℕ) (x : Vertex) → vertex g v ≡ Some x → Contains x.successors t → t < length g.vertices

-- A good ranking names the winner of each vertex.
abbrev pub RankingWins : Type 0
RankingWins = (g : Game) (r : Ranking) → LeadsInside g → IsGoodRanking g r → (v : ℕ) → v < length g.vertices → WinsBy (winner_of (r.number v)) g v

-- Even wins exactly where it says so.
abbrev pub RankingDecides : Type 0
RankingDecides = (g : Game) (r : Ranking) → LeadsInside g → IsGoodRanking g r → (v : ℕ) → v < length g.vertices → Wins g v ↔ (winner_of (r.number v) ≡ Even)
