-- Marks, one by one.
use Rattle.std.proofs.Common.{◌<◌, ℕ, Bool, List, length}
use Rattle.std.specs.Prelude.{IsTrue, ◌↔◌}
use Rattle.calculus.specs.Meaning.{marked, MarksOf}
use Rattle.game.specs.Game.{Game}
use Rattle.game.specs.Wins.{Wins}
use Rattle.game.specs.declared.player.Player.TheVariants.{Even}
use Rattle.evidence.specs.Evidence.{Evidence, has}
use Rattle.evidence.specs.Full.{IsFull}

-- Where evidence is of all that Even wins, the marks of its vertices are of those that Even wins.
pub full_marks : (g : Game) (e : Evidence) (marks : List Bool) → IsFull Even g e
    → MarksOf (length g.vertices) marks (λ v. IsTrue (has e v)) → MarksOf (length g.vertices) marks (Wins g)
full_marks g e marks full m = record { count = m.count; exact = exact }
  where
    exact : (v : ℕ) → v < length g.vertices → marked marks v ↔ Wins g v
    exact v h =
        let there = m.exact v h in
        let at = full.exact v h in (λ mark. at.0 (there.0 mark), λ w. there.1 (at.1 w))
