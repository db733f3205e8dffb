-- The evidence of a player by least measures and moves.
use Rattle.std.proofs.Common.{◌≡◌, ℕ, ◌<◌, ◌≤◌, List, length, refl, sym, subst, ap, ◌∙◌, arith, Option, Some}
use Rattle.std.specs.Prelude.{slice_index_or}
use Rattle.calculus.specs.declared.limits.TheConstants.{GREATEST_PRIORITY}
use Rattle.game.specs.declared.player.Player.{Player}
use Rattle.game.specs.declared.player.Player.TheVariants.{Even, Odd}
use Rattle.game.specs.Game.{Game, IsGame, Vertex, greatest, vertex}
use Rattle.game.proofs.Duals.{dual_game}
use Rattle.measures.specs.Laws.{IsBestMove}
use Rattle.measures.specs.Measure.{Counts, Measure, Top}
use Rattle.measures.specs.Progress.{value_at}
use Rattle.measures.specs.View.{counts_of}
use Rattle.measures.specs.StoredProposal.{game_for, height_in, layout_of, move_said, value_if, values_of, winner_at}
use Rattle.measures.specs.declared.field.CountField.{CountField}
use Rattle.measures.proofs.StoredProposals.{value_there, values_long}
use Rattle.evidence.specs.Checking.{IsMoveAt}
use Rattle.evidence.proofs.Making.{long_for}
use Rattle.verdicts.specs.declared.evidence_text.LeastMeasures.{LeastMeasures}
use Rattle.verdicts.specs.EvidenceText.{AreLeastMeasures}

wins_if : (p q : Player) (fields : List CountField) (n : ℕ) (counts : List ℕ) → value_if p q fields n ≡ Counts counts → q ≡ p
wins_if Even Even fields n counts is = refl
wins_if Odd Odd fields n counts is = refl
wins_if Even Odd fields n counts is = absurd cc
wins_if Odd Even fields n counts is = absurd cc

pub counts_back : (m : Measure) → (m ≡ Top → ⊥) → (counts : List ℕ) → counts ≡ counts_of m → Counts counts ≡ m
counts_back Top other counts is = absurd (other refl)
counts_back (Counts cs) other counts is = ap Counts is

pub game_of : (p : Player) (g : Game) → IsGame g → greatest g ≤ GREATEST_PRIORITY → IsGame (game_for p g)
game_of Even g game few = game
game_of Odd g game few = dual_game g game few

module _ (m : LeastMeasures) (g : Game) (least : AreLeastMeasures m g) where
  abbrev values : List Measure
  values = values_of m.player m.proposals.now

  pub long : m.proposals.now.vertices ≡ length (game_for m.player g).vertices
  long = sym (values_long m.player m.proposals.now) ∙ least.least.progress.0.0

  module _ (v : ℕ) (there : v < m.proposals.now.vertices) where
    -- who has a measure is said to win
    pub wins_there : (counts : List ℕ) → value_at values v ≡ Counts counts → winner_at m.proposals.now v ≡ m.player
    wins_there counts is =
        wins_if m.player (winner_at m.proposals.now v) (layout_of m.player m.proposals.now).fields.items (height_in m.proposals.now 0 v) counts
        (sym (value_there m.player m.proposals.now v there) ∙ is)

    pub move_there : winner_at m.proposals.now v ≡ m.player → IsMoveAt (game_for m.player g) values v (move_said (slice_index_or m.moves.now v 0))
    move_there wins =
        subst (λ p. (x : Vertex) → vertex (game_for p g) v ≡ Some x → IsBestMove (game_for p g) (values_of p m.proposals.now) x
        (move_said (slice_index_or m.moves.now v 0))) wins (least.moves.best v)

  pub moves_long : length m.moves.now ≡ length g.vertices
  moves_long = least.moves.count ∙ (long ∙ long_for m.player g)

  -- the move that is put where the player has a measure
  pub said_there : (v : ℕ) → v < length g.vertices → (counts : List ℕ) → value_at values v ≡ Counts counts → (next : Option ℕ)
      → next ≡ move_said (slice_index_or m.moves.now v 0) → IsMoveAt (game_for m.player g) values v next
  said_there v inside counts is next said =
      let c = least.moves.count in
      let l = moves_long in
      let there : v < m.proposals.now.vertices = omega (arith, inside, c, l) in
      subst (IsMoveAt (game_for m.player g) values v) (sym said) (move_there v there (wins_there v there counts is))
