-- Evidence of both players.
use Rattle.std.specs.Prelude.{◌≡◌}
use Rattle.game.specs.Game.{Game}
use Rattle.game.specs.declared.player.Player.TheVariants.{Even, Odd}
use Rattle.evidence.specs.Full.{IsFull}
use Rattle.evidence.specs.declared.pair.EvidencePair.{EvidencePair}

-- It is evidence of all that Even wins in the game, and of all that Odd wins.
pub record AreFull (g : Game) (pair : EvidencePair) : Type 0 where
  pub even_game : pair.even.game ≡ g
  pub even : IsFull Even g pair.even.evidence
  pub odd_game : pair.odd.game ≡ g
  pub odd : IsFull Odd g pair.odd.evidence

-- It is evidence of both for the game, whether it is good or not.
pub record AreOf (g : Game) (pair : EvidencePair) : Type 0 where
  pub even_game : pair.even.game ≡ g
  pub even : pair.even.evidence.player ≡ Even
  pub odd_game : pair.odd.game ≡ g
  pub odd : pair.odd.evidence.player ≡ Odd
