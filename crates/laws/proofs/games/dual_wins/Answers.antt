use Rattle.measures.proofs.Dual.{dual_wins, wins_dual}
use Rattle.game.specs.declared.player.Player.TheVariants.{Odd}
use Rattle.laws.proofs.games.dual_wins.Goals as goal

abbrev pub returns : goal.returns
returns c = λ g v. (dual_wins g Odd v, wins_dual g Odd v)
