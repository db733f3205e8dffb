use Rattle.std.proofs.Common.{◌≡◌, ◌∙◌, subst, sym, true≢false}
use Rattle.game.specs.Game.{Game}
use Rattle.evidence.specs.Evidence.{IsEvidence}
use Rattle.evidence.proofs.Sides.{yes_decides}
use Rattle.evidence.proofs.verify.check_both.Goals as goal

pub returns-in-None-clause-decides : goal.returns-in-None-clause-decides
returns-in-None-clause-decides c = λ same.
    let e = c.args.first.now.evidence in
    let f = c.args.second.now.evidence in
    let differ = λ (q : e.player ≡ f.player). true≢false (sym (c.is_same.ensures.1 (c.player.ensures ∙ (q ∙ sym c.player-2.ensures))) ∙ c.if-is_same.false) in
    yes_decides c.args.game.now e f (subst (λ (g : Game). IsEvidence g e) c.requires.first c.known.ensures)
    (subst (λ (g : Game). IsEvidence g f) c.requires.second c.known-2.ensures)
    ((c.in_default.ensures.verdict, c.in_default-verify.ensures.verdict, differ), c.in-None.ensures)
