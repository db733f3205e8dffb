use Rattle.std.proofs.Common.{◌≡◌, ◌≤◌, length, map, subst, sym}
use Rattle.calculus.specs.Normal.{normal_nodes}
use Rattle.text.proofs.Writing.{Wrote-as}
use Rattle.why.specs.Story.{modality_of}
use Rattle.engines.proofs.Reasoning.{story_same}
use Rattle.engines.proofs.reasons.put_story.Goals as goal

pub invariant_of-story : goal.invariant_of-story
invariant_of-story g c =
    let told = c.args.told.now in
    record {
      texts = subst (λ ts. map (λ text. text.items) ts ≡ map modality_of (normal_nodes c.args.found.now.form)) (sym c.deref-2.ensures.value) c.requires.texts;
      within = subst (λ vs. told.count ≤ length vs) (sym c.deref-3.ensures.value) c.requires.within;
    }

pub returns : goal.returns
returns g c =
    let told = c.args.told.now in
    Wrote-as _ _ _ _ _ (story_same c.deref.result.now c.args.found.now.texts.value (normal_nodes c.args.found.now.form) told.most
    c.deref-3.result.now told.visits.items c.deref-4.result.now told.heads.items told.count c.deref.ensures c.deref-3.ensures.value c.deref-4.ensures.value)
    c.write_story.ensures
