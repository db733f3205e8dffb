-- Numbers in the place of equal ones.
use Rattle.std.proofs.Common.{◌≡◌, ℕ, subst}
use Rattle.game.specs.declared.player.Player.{Player}
use Rattle.rankings.specs.Slopes.{TwoFollow}
use Rattle.rankings.specs.declared.slope.Slopes.{Slopes}

pub two_numbers : (x : Slopes) (o : Player) (a b d a' b' d' : ℕ) → a ≡ a' → b ≡ b' → d ≡ d' → TwoFollow x o a b d → TwoFollow x o a' b' d'
two_numbers x o a b d a' b' d' e f g t =
    subst (λ z. TwoFollow x o z b' d') e (subst (λ z. TwoFollow x o a z d') f (subst (λ z. TwoFollow x o a b z) g t))
