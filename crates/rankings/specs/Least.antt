-- Proposals of the least progress tables of an arena, and the winners' moves by them.
use Rattle.std.specs.Prelude.{◌≡◌, ℕ, ◌+◌, ◌*◌, ◌<◌, ◌≤◌, List, Some, length, map, slice_index_or}
use Rattle.calculus.specs.Normal.{normal_nodes}
use Rattle.calculus.specs.Taken.{AreSets}
use Rattle.game.specs.declared.limits.TheConstants.{MOST_VERTICES}
use Rattle.game.specs.declared.player.Player.{Player}
use Rattle.game.specs.declared.player.Player.TheVariants.{Even, Odd}
use Rattle.game.specs.Arena.{arena}
use Rattle.game.specs.Game.{Game, Vertex, dual, vertex}
use Rattle.measures.specs.Laws.{IsBestMove}
use Rattle.measures.specs.Proposal.{IsGoodVertex, IsFirstMove}
use Rattle.measures.specs.StoredProposal.{AreBoundsIn, game_for, move_said, proposal_in, values_of, winner_at}
use Rattle.measures.specs.declared.proposal.Proposals.{Proposals}
use Rattle.rankings.specs.declared.least.LeastTest.{LeastTest}

-- how much greater priorities are in a player's game
abbrev pub risen_of : Player → ℕ
risen_of Even = 0
risen_of Odd = 1

-- What is proposed for Even at v is good in the game, and what is proposed for Odd is in the dual. This is where the one who is said to win goes on.
pub record IsTestedAt (c : Proposals) (g : Game) (v next : ℕ) : Type 0 where
  pub even : IsGoodVertex (proposal_in Even c g) v
  pub odd : IsGoodVertex (proposal_in Odd c (dual g)) v
  pub move : IsFirstMove (game_for (winner_at c v) g) (values_of (winner_at c v) c) v next

-- the arena for which the proposals are
abbrev pub tested_arena : LeastTest → Game
tested_arena t = arena t.lts.now.system (normal_nodes t.form.now)

-- The labels are those that the modalities take, there is a number for each vertex, and the bounds are those of both games.
pub record IsLeastTest (t : LeastTest) : Type 0 where
  pub sets : AreSets t.lts.now.labels (normal_nodes t.form.now) (map (λ set. set.items) t.sets.now)
  pub count : length t.sets.now ≡ length (normal_nodes t.form.now)
  pub few : 2 + t.lts.now.system.states * length (normal_nodes t.form.now) ≤ MOST_VERTICES
  pub long : t.proposals.now.vertices ≡ 2 + t.lts.now.system.states * length (normal_nodes t.form.now)
  pub even : AreBoundsIn (tested_arena t) t.bounds.now.even.items
  pub odd : AreBoundsIn (dual (tested_arena t)) t.bounds.now.odd.items

-- So many vertices are tested, and have these moves.
pub record AreTestedTo (t : LeastTest) (moves : List ℕ) (end : ℕ) : Type 0 where
  pub count : length moves ≡ end
  pub each : (v : ℕ) → v < end → IsTestedAt t.proposals.now (tested_arena t) v (slice_index_or moves v 0)

-- For each vertex there is the best move of the one who is said to win it.
pub record AreWinnersMoves (c : Proposals) (g : Game) (moves : List ℕ) : Type 0 where
  pub count : length moves ≡ c.vertices
  pub best : (v : ℕ) (x : Vertex) → let p = winner_at c v in vertex (game_for p g) v ≡ Some x
      → IsBestMove (game_for p g) (values_of p c) x (move_said (slice_index_or moves v 0))
