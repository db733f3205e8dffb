use Rattle.text.proofs.Scanning.{number_here_gives}
use Rattle.pgsolver.proofs.Unspaced.{front_is}
use Rattle.pgsolver.proofs.plain.front.Goals as goal

pub returns : goal.returns
returns c =
    front_is c.in_ok-id.id c.in_ok-priority.priority c.in_ok-owner.owner c.args.block.now c.in_ok-id.rest.now c.in_ok-rest.rest.now c.in_ok-priority.rest.now
    c.in_ok-rest-2.rest.now c.in_ok-owner.rest.now c.in_ok-rest-3.rest.now (number_here_gives _ _ _ c.in_ok-id.ensures) c.in_ok-rest.ensures
    (number_here_gives _ _ _ c.in_ok-priority.ensures) c.in_ok-rest-2.ensures c.in_ok-owner.ensures c.in_ok-rest-3.ensures
