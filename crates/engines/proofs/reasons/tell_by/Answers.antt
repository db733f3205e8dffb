use Rattle.std.proofs.Common.{subst}
use Rattle.calculus.specs.Normal.{normal_nodes}
use Rattle.why.specs.Story.{AreHeads, IsCut}
use Rattle.why.specs.Telling.{IsTelling}
use Rattle.engines.specs.Reasons.{most_visits}
use Rattle.engines.proofs.reasons.tell_by.Goals as goal

pub returns : goal.returns
returns c =
    let g = c.args.game.now in
    let e = c.args.evidence.now.evidence in
    let nodes = normal_nodes c.args.form.now in
    let heads = c.in_ok-heads.heads.items in
    let limit = c.args.limit in
    record {
      most = c.most_visits-most.ensures.many;
      telling = subst (λ v. IsTelling c.args.system.now.system (normal_nodes c.args.form.now) g e v (most_visits limit) c.in_ok-visits.visits.items) c.root_vertex-root.ensures.root
          (subst (λ n. IsTelling c.args.system.now.system (normal_nodes c.args.form.now) g e c.root_vertex-root.result n c.in_ok-visits.visits.items) c.most_visits-most.ensures.many c.in_ok-visits.ensures);
      back = subst (λ vs. AreHeads vs heads) c.deref.ensures.value c.in_ok-heads.ensures;
      cut = subst (λ vs. IsCut nodes vs heads limit c.told_within-count.result) c.deref-2.ensures.value
          (subst (λ hs. IsCut nodes c.deref-2.result.now hs limit c.told_within-count.result) c.deref-3.ensures.value c.told_within-count.ensures);
      texts = c.in_ok-modalities.ensures;
    }
