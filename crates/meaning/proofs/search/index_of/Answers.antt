use Rattle.std.proofs.Common.{◌≡◌, suc, ◌<◌, ◌↔◌, Bool, ◌||◌, [], ◌∷◌, ◌++◌, length, length-append, take, get_or, nat_eq, refl, sym, ◌∙◌, ap, subst, arith}
use Rattle.std.specs.Prelude.{IsTrue, slice_set, slice_index_or}
use Rattle.std.specs.List.{list_any}
use Rattle.std.proofs.Math.Seq.{take-length}
use Rattle.std.proofs.lemmas.Bool.{eqb-true, eq-eqb}
use Rattle.std.proofs.lemmas.List.Folds.{list_any_more}
use Rattle.std.proofs.lemmas.List.{get_or_default}
use Rattle.systems.specs.System.{Arrow}
use Rattle.systems.specs.declared.system.Transition.{Transition}
use Rattle.systems.specs.Numbered.{label_at, arrow_of}
use Rattle.calculus.specs.View.{action_of}
use Rattle.calculus.specs.Holds.{holds}
use Rattle.calculus.specs.Tree.{Step}
use Rattle.calculus.specs.Meaning.{Leads}
use Rattle.calculus.proofs.Entering.{enters, enters_leads}
use Rattle.meaning.specs.declared.arrivals.Arrival.{Arrival}
use Rattle.meaning.specs.Arrivals.{IsOneOf, HasRoom}
use Rattle.meaning.proofs.Each.{none, inside, decided}
use Rattle.meaning.proofs.Elements.{both}
use Rattle.meaning.proofs.Marked.{at}
use Rattle.meaning.proofs.Arrows.{any_of_map}
use Rattle.meaning.proofs.Indexing.{room_more, steps_more, told_chosen, told_other}
use Rattle.meaning.proofs.search.index_of.Goals as goal
use Rattle.meaning.proofs.search.index_of.Goals.{then-is_chosen+in_ok-push, else-is_chosen}

pub is_chosen-requires : goal.is_chosen-requires
is_chosen-requires c =
    decided c.args.lts.now c.all-source-items.result.now c.loop-source.source-index c.in_ok-chosen.chosen.items c.deref.result.now
    c.all-source-items.ensures.inside c.loop-source-test.true c.deref.ensures.value
    c.in_ok-chosen.ensures.count

pub loop-source-preserved : goal.loop-source-preserved
loop-source-preserved c =
    let l = c.args.lts.now in
    let act = action_of c.args.action.now in
    let steps = c.all-source-items.result.now in
    let i = c.loop-source.source-index in
    let step = get_or steps i none in
    let ok = inside l steps i c.all-source-items.ensures.inside c.loop-source-test.true in
    let now = c.loop-source.invariant in
    let chosen : step.label < length c.in_ok-chosen.chosen.items = c.in_ok-chosen.ensures.count step.label ok.label c.is_chosen.ensures.fits in
    let test_is : c.is_chosen.result ≡ holds act (label_at l.labels step.label) =
    c.is_chosen.ensures.value ∙ (ap (λ ms. at ms step.label) c.deref.ensures.value ∙ c.in_ok-chosen.ensures.each step.label chosen) in
    let last = c.loop-source.last.items in
    let all = c.loop-source.all.items in
    elim c.if-is_chosen.branch [
      | then-is_chosen+in_ok-push w ↦
          let a : Arrival = record { source = step.source; earlier = w.index.result.now } in
          let before : a.earlier ≡ slice_index_or last step.target 0 = w.index.ensures
          ∙ get_or_default last step.target w.index.result.now 0 (omega (arith, now.room.count, ok.target)) in
          let all_is : c.if-is_chosen.all.items ≡ all ++ a ∷ [] = ap (λ v. v.items) w.all-is ∙ w.in_ok-push.ensures.items in
          let long : w.len.result ≡ suc (length all) = omega (arith, w.len.ensures, ap length w.in_ok-push.ensures.items, length-append all (a ∷ [])) in
          let last_is : c.if-is_chosen.last.items ≡ slice_set last step.target (suc (length all)) = ap (λ v. v.items) w.last-is
          ∙ ap (λ k. slice_set last step.target k) long in
          let room = room_more l.system.states last all now.room step.source step.target ok.source ok.target a refl before in
          record {
            room = subst (λ xs. HasRoom l.system.states xs c.if-is_chosen.all.items) (sym last_is)
                (subst (λ ys. HasRoom l.system.states (slice_set last step.target (suc (length all))) ys) (sym all_is) room);
            steps = λ t s lt.
                let test : Transition → Bool = λ x. enters act (λ y. nat_eq y t) s (arrow_of l.labels x) in
                subst (λ b. IsOneOf c.if-is_chosen.all.items (slice_index_or c.if-is_chosen.last.items t 0) s ↔ IsTrue b)
                (sym (list_any_more test steps i none c.loop-source-test.true))
                (subst (λ xs. IsOneOf c.if-is_chosen.all.items (slice_index_or xs t 0) s ↔ IsTrue (list_any test (take i steps) || test step)) (sym last_is)
                (subst (λ ys. IsOneOf ys (slice_index_or (slice_set last step.target (suc (length all))) t 0) s
                ↔ IsTrue (list_any test (take i steps) || test step)) (sym all_is)
                (both
                (steps_more l.system.states last all now.room step.source step.target ok.source ok.target a refl before t s lt)
                (told_chosen (list_any test (take i steps)) (holds act (label_at l.labels step.label)) step.source s step.target t
                (IsOneOf all (slice_index_or last t 0) s) (now.steps t s lt) (sym test_is ∙ w.if-is_chosen.true)))));
          }
      | else-is_chosen w ↦
          let all_is : c.if-is_chosen.all.items ≡ all = ap (λ v. v.items) w.all-is in
          let last_is : c.if-is_chosen.last.items ≡ last = ap (λ v. v.items) w.last-is in
          record {
            room = subst (λ xs. HasRoom l.system.states xs c.if-is_chosen.all.items) (sym last_is)
                (subst (λ ys. HasRoom l.system.states last ys) (sym all_is) now.room);
            steps = λ t s lt.
                let test : Transition → Bool = λ x. enters act (λ y. nat_eq y t) s (arrow_of l.labels x) in
                subst (λ b. IsOneOf c.if-is_chosen.all.items (slice_index_or c.if-is_chosen.last.items t 0) s ↔ IsTrue b)
                (sym (list_any_more test steps i none c.loop-source-test.true
                ∙ told_other (list_any test (take i steps)) (holds act (label_at l.labels step.label)) step.source s step.target t
                (sym test_is ∙ w.if-is_chosen.false)))
                (subst (λ xs. IsOneOf c.if-is_chosen.all.items (slice_index_or xs t 0) s ↔ IsTrue (list_any test (take i steps))) (sym last_is)
                (subst (λ ys. IsOneOf ys (slice_index_or last t 0) s ↔ IsTrue (list_any test (take i steps))) (sym all_is) (now.steps t s lt)));
          }
    ]

pub returns : goal.returns
returns c =
    let l = c.args.lts.now in
    let act = action_of c.args.action.now in
    let steps = c.all-source-items.result.now in
    let now = c.loop-source.invariant in
    let done : c.loop-source.source-index ≡ length steps = omega arith in
    record {
      room = now.room;
      steps = λ t s lt.
          let p : Arrow → Bool = enters act (λ x. nat_eq x t) s in
          let f : Transition → Arrow = arrow_of l.labels in
          let same : list_any (λ x. p (f x)) (take c.loop-source.source-index steps) ≡ list_any p l.system.arrows =
          ap (λ k. list_any (λ x. p (f x)) (take k steps)) done ∙ ap (list_any (λ x. p (f x))) (take-length steps)
          ∙ any_of_map p f steps ∙ ap (list_any p) c.all-source-items.ensures.arrows in
          let leads = enters_leads l.system act (λ x. nat_eq x t) s in (
            λ h. let w = leads.0 (subst IsTrue same ((now.steps t s lt).0 h)) in subst (λ x. Leads l.system (Step act) s x) (eqb-true w.0 t w.2) w.1,
            λ h. (now.steps t s lt).1 (subst IsTrue (sym same) (leads.1 (t, h, eq-eqb t t refl))),
          );
    }
