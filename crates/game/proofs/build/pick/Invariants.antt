use Rattle.game.proofs.Common.{◌≡◌, ◌++◌, drop, map, place, picks, is_in}
use Rattle.game.proofs.build.pick.Given as goal

abbrev pub invariant-loop-transition : goal.invariant-loop-transition
invariant-loop-transition l = l.reached.items ++ map (λ t. place l.nodes t l.child) (picks (is_in l.set) l.least (drop l.transition-index l.row))
    ≡ map (λ t. place l.nodes t l.child) (picks (is_in l.set) 0 l.row)
