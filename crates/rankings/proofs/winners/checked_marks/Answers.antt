use Rattle.std.proofs.Common.{◌≡◌, subst}
use Rattle.calculus.specs.Meaning.{MarksOf}
use Rattle.game.specs.declared.player.Player.TheVariants.{Even}
use Rattle.calculus.specs.Normal.{normal_nodes}
use Rattle.rankings.specs.Cells.{cell}
use Rattle.rankings.specs.Ranking.{winner_of}
use Rattle.rankings.proofs.Goodness.{marks_win}
use Rattle.rankings.proofs.winners.checked_marks.Goals as goal

pub returns-in-Ok : goal.returns-in-Ok
returns-in-Ok g c =
    marks_win c.args.sheet.now c.args.lts.now.system (normal_nodes c.args.form.now) c.in-Ok.marks.items c.ranking_decides.ensures c.known.ensures
    c.requires.few (c.is_good.ensures.size c.if-not-is_good.false) (c.is_good.ensures.good c.if-not-is_good.false)
    (subst (λ n. MarksOf n c.in-Ok.marks.items (λ s. winner_of (cell c.args.sheet.now 0 s) ≡ Even)) c.states-states.ensures.count c.in-Ok.ensures)
