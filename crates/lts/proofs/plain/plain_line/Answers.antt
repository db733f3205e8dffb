use Rattle.std.proofs.Common.{[], ◌∷◌, refl, length, ◌-◌, arith}
use Rattle.text.proofs.Scanning.{number_here_gives}
use Rattle.lts.proofs.AtHand.{plain_is, shorter}
use Rattle.lts.proofs.plain.plain_line.Goals as goal

pub returns-clause-plain : goal.returns-clause-plain
returns-clause-plain c =
    plain_is c.in_ok-source.source c.in_ok-target.target
    (length c.args.block.now - length c.in_ok-rest-4.rest.now) c.label.result.0.now c.args.block.now c.in_ok-rest.rest.now c.in_ok-source.rest.now
    c.in_ok-rest-2.rest.now c.label.result.1.now c.in_ok-rest-3.rest.now c.in_ok-target.rest.now c.in_ok-rest-4.rest.now
    c.in_ok-rest.ensures (number_here_gives _ _ _ c.in_ok-source.ensures) c.in_ok-rest-2.ensures c.label.ensures.cut c.label.ensures.inner c.in_ok-rest-3.ensures
    (number_here_gives _ _ _ c.in_ok-target.ensures) c.in_ok-rest-4.ensures refl

pub overflow_sub-result : goal.overflow_sub-result
overflow_sub-result c =
    let source = number_here_gives _ _ _ c.in_ok-source.ensures in
    let target = number_here_gives _ _ _ c.in_ok-target.ensures in
    omega (
      arith,
      shorter (40 ∷ []) c.in_ok-rest.rest.now c.args.block.now c.in_ok-rest.ensures,
      shorter source.digits c.in_ok-source.rest.now c.in_ok-rest.rest.now source.cut,
      shorter (44 ∷ 34 ∷ []) c.in_ok-rest-2.rest.now c.in_ok-source.rest.now c.in_ok-rest-2.ensures,
      shorter c.label.result.0.now c.label.result.1.now c.in_ok-rest-2.rest.now c.label.ensures.cut,
      shorter (34 ∷ 44 ∷ []) c.in_ok-rest-3.rest.now c.label.result.1.now c.in_ok-rest-3.ensures,
      shorter target.digits c.in_ok-target.rest.now c.in_ok-rest-3.rest.now target.cut,
      shorter (41 ∷ 10 ∷ []) c.in_ok-rest-4.rest.now c.in_ok-target.rest.now c.in_ok-rest-4.ensures,
    )
