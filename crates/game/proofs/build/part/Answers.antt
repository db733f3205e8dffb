use Rattle.game.proofs.Common.{◌≡◌, ◌+◌, ◌-◌, ◌*◌, ◌++◌, ap, ◌∙◌, arith, rules, normal_nodes, range_with_len, rows}
use Rattle.std.specs.Prelude.{min}
use Rattle.game.proofs.Parts.{range_cut}
use Rattle.game.proofs.build.part.Goals as goal

pub returns : goal.returns
returns c =
    let l = c.args.lts.now.system in
    let nodes = normal_nodes c.args.form.now in
    let k = c.args.range * c.args.size in
    let first = c.min-first.result in
    let size = first + c.min.result - first in
    let states : c.states-states.result ≡ l.states = search rules in
    let start : first ≡ min k c.states-states.result = search rules in
    let count : c.min.result ≡ min c.args.size (c.states-states.result - first) = search rules in
    let same : size ≡ c.min.result = omega arith in
    c.in_ok-push_states.ensures
    ∙ (ap (λ vs. vs ++ rows l nodes (range_with_len first size)) c.in_ok-builder.ensures
    ∙ ap (rows l nodes) (range_cut k c.args.size l.states first size (start ∙ ap (min k) states) (same ∙ (count ∙ (λ i. min c.args.size (states i - first))))))
