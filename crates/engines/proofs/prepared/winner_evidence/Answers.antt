use Rattle.std.proofs.Common.{ℕ, subst, sym, ◌∙◌}
use Rattle.std.specs.Prelude.{◌↔◌, IsTrue}
use Rattle.game.specs.Game.{Game, IsGame}
use Rattle.game.specs.Wins.{OddWins}
use Rattle.evidence.specs.Best.{IsOddOf}
use Rattle.evidence.specs.Evidence.{IsGood, has}
use Rattle.engines.proofs.Winning.{odd_winning}
use Rattle.engines.proofs.prepared.winner_evidence.Goals as goal

pub returns-in_ok-evidence-2-clause-winning : goal.returns-in_ok-evidence-2-clause-winning
returns-in_ok-evidence-2-clause-winning c =
    let odd = c.in_ok-evidence-2.ensures in
    let e = c.in_ok-evidence-2.evidence in
    let at = c.deref-game.ensures in
    odd_winning c.args.found.now e c.requires c.initial_mark.ensures.inside c.one_wins.ensures (subst IsGame at c.known.ensures)
    (sym c.initial_mark.ensures.mark ∙ c.if-initial_mark.false) (odd.game ∙ at) c.known-else-initial_mark.ensures
    (subst (λ (g : Game). IsOddOf g e.evidence) at odd.odd) (subst (λ (g : Game). IsGood g e.evidence) at odd.good)
    (subst (λ (g : Game). (v : ℕ) → IsTrue (has e.evidence v) ↔ OddWins g v) at odd.exact)
