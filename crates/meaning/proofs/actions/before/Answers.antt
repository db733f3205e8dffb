use Rattle.std.proofs.Common.{◌≡◌, ◌<◌, ◌↔◌, Bool, false, ◌&&◌, ◌||◌, length, take, get_or, arith, ap, ap₂, sym, ◌∙◌, subst}
use Rattle.std.specs.Prelude.{IsTrue, slice_set}
use Rattle.std.specs.List.{list_any}
use Rattle.std.proofs.Math.ListN.{length-set}
use Rattle.std.proofs.Math.Seq.{take-length}
use Rattle.std.proofs.lemmas.List.Folds.{list_any_more}
use Rattle.std.proofs.lemmas.List.{get_or_default}
use Rattle.systems.specs.System.{Arrow}
use Rattle.systems.specs.declared.system.Transition.{Transition}
use Rattle.systems.specs.Numbered.{label_at, arrow_of}
use Rattle.calculus.specs.View.{action_of}
use Rattle.calculus.specs.Holds.{holds}
use Rattle.calculus.specs.Tree.{Step}
use Rattle.meaning.specs.Into.{Into}
use Rattle.meaning.proofs.Each.{none, inside, decided}
use Rattle.meaning.proofs.Marked.{at}
use Rattle.calculus.proofs.Entering.{enters, enters_leads}
use Rattle.meaning.proofs.Arrows.{one_more, any_of_map}
use Rattle.meaning.proofs.actions.before.Goals as goal

pub is_chosen-requires : goal.is_chosen-requires
is_chosen-requires c =
    decided c.args.lts.now c.all-source-items.result.now c.loop-source.source-index c.in_ok-chosen.chosen.items c.deref.result.now
    c.all-source-items.ensures.inside c.loop-source-test.true c.deref.ensures.value
    c.in_ok-chosen.ensures.count

pub loop-source-preserved : goal.loop-source-preserved
loop-source-preserved c =
    let l = c.args.lts.now in
    let act = action_of c.args.action.now in
    let steps = c.all-source-items.result.now in
    let i = c.loop-source.source-index in
    let step = get_or steps i none in
    let ok = inside l steps i c.all-source-items.ensures.inside c.loop-source-test.true in
    let found = c.loop-source.found.items in
    let within : step.source < length found = omega (arith, ok.source, c.loop-source.invariant.count) in
    let leads : Bool = holds act (label_at l.labels step.label) && at c.args.marks.now step.target in
    let chosen : step.label < length c.in_ok-chosen.chosen.items = c.in_ok-chosen.ensures.count step.label ok.label c.is_chosen.ensures.fits in
    let same : (c.index-had.result.now || c.is_chosen.result && at c.args.marks.now step.target) ≡ (at found step.source || leads) =
    ap₂ (λ a b. a || b)
    (c.index-had.ensures ∙ get_or_default found step.source c.index-had.result.now false within)
    (ap (λ a. a && at c.args.marks.now step.target) (c.is_chosen.ensures.value
    ∙ (ap (λ ms. at ms step.label) c.deref.ensures.value ∙ c.in_ok-chosen.ensures.each step.label chosen))) in
    record {
      count = simp length-set c.loop-source.invariant.count;
      each = λ s h.
          ap (λ b. at (slice_set found step.source b) s) same
          ∙ (one_more found step.source s _ leads within (c.loop-source.invariant.each s h)
          ∙ sym (list_any_more (λ (t : Transition). enters act (at c.args.marks.now) s (arrow_of l.labels t)) steps i none c.loop-source-test.true));
    }

pub returns : goal.returns
returns c = record {
  count = c.loop-source.invariant.count;
  exact = λ s h.
      let l = c.args.lts.now in
      let p : Arrow → Bool = enters (action_of c.args.action.now) (at c.args.marks.now) s in
      let f : Transition → Arrow = arrow_of l.labels in
      let steps = c.all-source-items.result.now in
      let done : c.loop-source.source-index ≡ length steps = omega arith in
      let all : at c.loop-source.found.items s ≡ list_any p l.system.arrows =
      c.loop-source.invariant.each s h ∙ ap (λ k. list_any (λ t. p (f t)) (take k steps)) done ∙ ap (list_any (λ t. p (f t))) (take-length steps)
      ∙ any_of_map p f steps ∙ ap (list_any p) c.all-source-items.ensures.arrows in
      subst (λ b. IsTrue b ↔ Into l.system (Step (action_of c.args.action.now)) c.args.marks.now s) (sym all)
      (enters_leads l.system (action_of c.args.action.now) (at c.args.marks.now) s);
}
