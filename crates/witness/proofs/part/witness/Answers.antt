use Rattle.std.proofs.Common.{◌≡◌, List, Bool, subst, sym, ◌∙◌}
use Rattle.std.proofs.lemmas.Result.{IfOk-weaker}
use Rattle.systems.specs.Numbered.{system_with}
use Rattle.calculus.specs.Normal.{normal_nodes}
use Rattle.evidence.specs.Evidence.{IsEvidence, IsGood}
use Rattle.evidence.specs.Witness.{witness as whole_witness}
use Rattle.witness.specs.Walk.{is_marked}
use Rattle.witness.proofs.Means.{has_taken, is_witness}
use Rattle.witness.proofs.part.witness.Goals as goal

pub returns-clause-taken : goal.returns-clause-taken
returns-clause-taken c =
    let l = c.args.system.now.system in
    let nodes = normal_nodes c.args.normal.now in
    let e = c.args.evidence.now.evidence in
    IfOk-weaker c.taken.result _ _ (λ part is. has_taken l nodes e c.args.game.now c.root_vertex-root.result (is_marked c.in_ok-marks.marks.items)
    (system_with c.args.system.now part.items) c.requires.game c.root_vertex-root.ensures.root c.in_ok-marks.ensures
    (subst (λ (ms : List Bool). system_with c.args.system.now part.items ≡ whole_witness l nodes e (is_marked ms)) c.deref-2.ensures.value is))
    c.taken.ensures.taken

pub returns-clause-witness : goal.returns-clause-witness
returns-clause-witness c =
    let l = c.args.system.now.system in
    let nodes = normal_nodes c.args.normal.now in
    let e = c.args.evidence.now.evidence in
    let evidence = subst (λ g. IsEvidence g e) (c.requires.same ∙ c.requires.game) c.known.ensures in
    let good = subst (λ g. IsGood g e) c.requires.game c.requires.good in
    IfOk-weaker c.taken.result _ _ (λ part taken f admitted forms. is_witness l f nodes e (system_with c.args.system.now part.items)
    c.states-states.ensures.known admitted forms evidence good c.requires.root taken) (returns-clause-taken c)
