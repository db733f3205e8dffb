use Rattle.std.proofs.Common.{refl, subst, sym, true}
use Rattle.calculus.specs.NodeView.{nodes_of}
use Rattle.text.proofs.Writing.{Wrote-as}
use Rattle.commands.specs.Labels.{IsListed, RefusesLabels}
use Rattle.commands.specs.Ranking.{IsRanking}
use Rattle.commands.proofs.Answered.{written}
use Rattle.commands.proofs.Ranked.{all_lines, listed_by}
use Rattle.commands.proofs.labels_text.write_labels.Goals as goal

pub returns-clause-answers : goal.returns-clause-answers
returns-clause-answers g c = λ first second given.
    let l = c.args.system.now in
    let form = nodes_of c.args.nodes.now in
    let ranking = subst (IsRanking l) (sym c.deref.ensures.value) c.in_ok-ranked.ensures in
    written (IsListed first second) (RefusesLabels first second) _ _ true _ c.put_lines.result _
    (record { l = l.system; form = form; given = given; listed = listed_by l form c.deref.result.now ranking; answered = refl })
    (Wrote-as _ _ _ _ _ (all_lines l form c.deref.result.now ranking.each) c.put_lines.ensures.wrote) c.answered.ensures
