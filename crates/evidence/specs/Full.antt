-- Evidence of all that a player wins.
use Rattle.std.specs.Prelude.{◌≡◌, ℕ, ◌<◌, ◌↔◌, List, length, IsTrue}
use Rattle.game.specs.Game.{Game}
use Rattle.game.specs.Wins.{WinsBy}
use Rattle.game.specs.declared.player.Player.{Player}
use Rattle.evidence.specs.Canon.{evidence_text}
use Rattle.evidence.specs.Evidence.{Evidence, IsGood, has}
use Rattle.evidence.specs.Spelling.{IsEvidenceText}

-- It is good evidence of this player, of just the vertices that the player wins, and its text is read again as it.
pub record IsFull (winner : Player) (g : Game) (e : Evidence) : Type 0 where
  pub player : e.player ≡ winner
  pub good : IsGood g e
  pub exact : (v : ℕ) → v < length g.vertices → IsTrue (has e v) ↔ WinsBy winner g v
  pub readable : IsEvidenceText g (evidence_text e) e

-- The text is that of such evidence.
pub record IsFullText (winner : Player) (g : Game) (text : List ℕ) : Type 0 where
  pub e : Evidence
  pub full : IsFull winner g e
  pub canonical : text ≡ evidence_text e
