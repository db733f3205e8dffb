use Rattle.game.proofs.Common.{◌++◌, length, ap, ◌∙◌, arith, normal_nodes}
use Rattle.std.specs.Int.{div_ceil}
use Rattle.rayon.proofs.ListFacts.{IfOk-then}
use Rattle.game.proofs.Arenas.{rows_count}
use Rattle.game.proofs.Parts.{all_parts}
use Rattle.game.proofs.build.split.Goals as goal

pub join_all-requires : goal.join_all-requires
join_all-requires g c =
    let l = c.args.lts.now.system in
    let nodes = normal_nodes c.args.form.now in
    let size = c.div_ceil-size.ensures ∙ ap (λ n. div_ceil n c.args.ranges) c.states-states.ensures.count in
    let all = all_parts l nodes c.div_ceil-size.result c.args.ranges c.in_ok-parts.parts.items (omega (arith, c.requires.ranges)) size c.in_ok-parts.ensures in
    omega (arith, ap length c.in-Ok.ensures, ap length all, rows_count l nodes l.states, c.requires.few)

pub returns-in-Ok : goal.returns-in-Ok
returns-in-Ok g c =
    let l = c.args.lts.now.system in
    let nodes = normal_nodes c.args.form.now in
    let size = c.div_ceil-size.ensures ∙ ap (λ n. div_ceil n c.args.ranges) c.states-states.ensures.count in
    let all = all_parts l nodes c.div_ceil-size.result c.args.ranges c.in_ok-parts.parts.items (omega (arith, c.requires.ranges)) size c.in_ok-parts.ensures in
    IfOk-then c.join_all.result _ _ c.join_all.ensures (λ v h. h ∙ (λ i. c.in-Ok.ensures i ++ all i))
