-- Worked examples of arenas and of winning.
use Rattle.std.specs.Prelude.{◌≡◌, ℕ, ◌+◌, ◌*◌, ◌<◌, length, List, [], ◌∷◌, Option, Some, None, IsTrue, refl}
use Rattle.std.specs.List.{AllByRecursion}
use Rattle.std.proofs.Common.{arith, ap, subst}
use Rattle.vectors.specs.Systems.{two_states, ◌&◌}
use Rattle.calculus.specs.Tree.{Step, Dia, Box, True, False, Anything}
use Rattle.vectors.specs.Formulas.{name_a, often_a}
use Rattle.calculus.specs.Nodes.{nodes}
use Rattle.game.specs.declared.player.Player.{Player}
use Rattle.game.specs.declared.player.Player.TheVariants.{Even, Odd}
use Rattle.game.specs.Game.{Game, IsGame, Vertex, dual}
use Rattle.game.specs.Refused.{HasBuildRefusal}
use Rattle.game.specs.declared.error.BuildError.TheVariants.{TooManyVertices}
use Rattle.game.specs.Wins.{OddWins, Wins, WinsBy}
use Rattle.game.specs.Arena.{arena}
use Rattle.game.proofs.Tests.{vertices_from}
use Rattle.measures.proofs.Lists.{all_or}
use Rattle.evidence.specs.Evidence.{Entry, Evidence, IsEntry, has}
use Rattle.evidence.specs.Verdict.{IsVerdict}
use Rattle.evidence.specs.declared.verdict.Verdict.TheVariants.{Good}
use Rattle.evidence.proofs.GoodWins.{good_wins}
use Rattle.evidence.proofs.Tested.{judged, judged_right}

abbrev pub vertex_at : ℕ → Player → List ℕ → Vertex
vertex_at p o ss = record { owner = o; priority = p; successors = ss }

-- a vertex of Even's with one successor
abbrev pub even_to : ℕ → ℕ → Vertex
even_to p t = vertex_at p Even (t ∷ [])

-- <a>true on the two-state system
abbrev pub game_of_one_step : Game
game_of_one_step = record {
  vertices = even_to 0 0 ∷ even_to 1 1 ∷ even_to 0 5 ∷ even_to 0 0 ∷ even_to 0 1 ∷ even_to 0 0 ∷ [];
  named = Some (2, 2);
}

arena_one_step : arena two_states (nodes (Dia (Step name_a) True)) ≡ game_of_one_step
arena_one_step = refl

-- [true]false on one state without transitions
abbrev stuck : Game
stuck = arena (record { states = 1; initial = 0; arrows = [] }) (nodes (Box (Step Anything) False))

vertices_stuck : stuck.vertices ≡ even_to 0 0 ∷ even_to 1 1 ∷ vertex_at 0 Odd (0 ∷ []) ∷ even_to 0 1 ∷ []
vertices_stuck = refl

-- the dual names no vertices
dual_stuck : dual stuck
    ≡ record { vertices = vertex_at 1 Odd (0 ∷ []) ∷ vertex_at 2 Odd (1 ∷ []) ∷ even_to 1 0 ∷ vertex_at 1 Odd (1 ∷ []) ∷ []; named = None }
dual_stuck = refl

-- nu X. mu Y. (<a>X || <b>Y) on the two-state system: two states with seven nodes each
abbrev pub often_a_game : Game
often_a_game = record {
  vertices =
      even_to 0 0 ∷ even_to 1 1 ∷ even_to 2 3 ∷ even_to 1 4 ∷ vertex_at 0 Even (5 ∷ 7 ∷ []) ∷ even_to 0 13 ∷ even_to 0 2 ∷ even_to 0 1 ∷ even_to 0 3
      ∷ even_to 2 10 ∷ even_to 1 11 ∷ vertex_at 0 Even (12 ∷ 14 ∷ []) ∷ even_to 0 1 ∷ even_to 0 9 ∷ even_to 0 8 ∷ even_to 0 10 ∷ [];
  named = Some (2, 7);
}

arena_often_a : arena two_states (nodes often_a) ≡ often_a_game
arena_often_a = refl

pub is_game_often_a : IsGame often_a_game
is_game_often_a = record {
  some = omega arith;
  limit = omega arith;
  vertices = vertices_from 16 often_a_game.vertices refl;
  named = λ states nodes e. (let q : ◌≡◌ {A = ℕ × ℕ} (2, 7) (states, nodes) = cc in ap (λ (w : ℕ × ℕ). 2 + w.0 * w.1) q);
}

-- ---- winning, by evidence

-- what evidence has of a vertex is an entry of the game
abbrev Fits : Player → Option Entry → Type 0
Fits player None = Unit {0}
Fits player (Some x) = IsEntry game_of_one_step player x

-- a player wins each vertex of evidence without a fault
wins : (e : Evidence) (v : ℕ) → length e.entries ≡ 6 → AllByRecursion (Fits e.player) e.entries → judged game_of_one_step e 0 6 ≡ Good → IsTrue (has e v)
    → WinsBy e.player game_of_one_step v
wins e v long fit good inside = good_wins game_of_one_step e
    (record { long = long; entries = λ u x h. subst (Fits e.player) h (all_or (Fits e.player) e.entries u None fit tt) })
    (subst (IsVerdict game_of_one_step e) good (judged_right game_of_one_step e)) v inside

-- an entry with a move of Even's
abbrev to : ℕ → Entry
to t = record { move = Some t; rank = 0 ∷ [] }

is_entry : (t : ℕ) → t < 6 → IsEntry game_of_one_step Even (to t)
is_entry t h = record { move = λ u e. (let q : t ≡ u = cc in omega (arith, q, h)); rank = refl }

-- Even wins (0,0), vertex 2 of that game, by 2, 5 and 0
pub wins_one_step : Wins game_of_one_step 2
wins_one_step =
    wins (record { player = Even; entries = Some (to 0) ∷ None ∷ Some (to 5) ∷ None ∷ None ∷ Some (to 0) ∷ [] }) 2 refl
    (is_entry 0 (omega arith) & tt & is_entry 5 (omega arith) & tt & tt & is_entry 0 (omega arith) & tt) refl refl

-- an entry of Odd's at a vertex of Even's
abbrev to_sink : ℕ → Entry
to_sink k = record { move = None; rank = k ∷ [] }

is_entry_to_sink : (k : ℕ) → IsEntry game_of_one_step Odd (to_sink k)
is_entry_to_sink k = record { move = λ t e. absurd cc; rank = refl }

-- Odd wins (1,0), vertex 4 of the same game: from there all play goes to the false sink
pub odd_wins_one_step : OddWins game_of_one_step 4
odd_wins_one_step =
    wins (record { player = Odd; entries = None ∷ Some (to_sink 0) ∷ None ∷ None ∷ Some (to_sink 1) ∷ None ∷ [] }) 4 refl
    (tt & is_entry_to_sink 0 & tt & tt & is_entry_to_sink 1 & tt & tt) refl refl

-- a million states and seventeen nodes make too many vertices
too_many_vertices : HasBuildRefusal 1000000 17 TooManyVertices
too_many_vertices = omega arith
