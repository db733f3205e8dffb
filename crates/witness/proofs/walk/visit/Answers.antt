use Rattle.std.proofs.Common.{◌≡◌, ◌∷◌, [], false, ◌∙◌, subst, sym}
use Rattle.std.proofs.lemmas.List.{get_or_default}
use Rattle.std.specs.Prelude.{slice_set}
use Rattle.witness.specs.Walk.{Visits, is_marked}
use Rattle.witness.proofs.Walking.{visits_new}
use Rattle.witness.proofs.walk.visit.Goals as goal

pub returns-in_ok-push : goal.returns-in_ok-push
returns-in_ok-push c =
    let marks = c.args.marks.now.items in
    let fresh : is_marked marks c.args.u ≡ false = get_or_default marks c.args.u false c.index.result.now c.requires
    ∙ (sym c.index.ensures ∙ c.if-not-index.true) in
    subst (Visits marks c.args.waiting.now.items (c.args.u ∷ []) (slice_set marks c.args.u _)) (sym c.in_ok-push.ensures.items)
    (visits_new marks c.args.waiting.now.items c.args.u c.requires fresh)
