use Rattle.std.proofs.Common.{◌≡◌, ◌-◌, ◌∙◌, ap, sym}
use Rattle.game.specs.declared.player.Player.{Player}
use Rattle.evidence.proofs.Checked.{kept_counted, skipped}
use Rattle.evidence.proofs.verify.kept.Goals as goal
use Rattle.evidence.proofs.verify.kept.Goals.{in-Even, in-Odd}

pub returns-clause-kept : goal.returns-clause-kept
returns-clause-kept c = λ g wide.
    let p = c.args.priority in
    let below : c.match-player.below ≡ skipped c.args.player p = elim c.match-player.branch [
      | in-Even w ↦ w.below-is ∙ ap (λ (o : Player). skipped o p) (sym w.in-Even.is)
      | in-Odd w ↦ w.below-is ∙ ap (λ (o : Player). skipped o p) (sym w.in-Odd.is)
    ] in
    kept_counted c.args.player g p c.args.width c.saturating_sub.result wide (c.saturating_sub.ensures ∙ ap (λ k. c.args.width - k) below)
