use Rattle.text.proofs.Scanning.{number_here_gives}
use Rattle.pgsolver.proofs.Unspaced.{commas_none, commas_one, shorter}
use Rattle.pgsolver.proofs.plain.more_targets.Goals as goal

pub loop-after-init : goal.loop-after-init
loop-after-init c = commas_none c.args.targets.now.items c.args.bytes.now

pub loop-after-smaller : goal.loop-after-smaller
loop-after-smaller c =
    shorter c.in-Some-number_here.target c.loop-after.rest.now c.in-Some.after.now c.in-Some-number_here.after.now c.in-Some.ensures
    (number_here_gives _ _ _ c.in-Some-number_here.ensures)

pub loop-after-preserved : goal.loop-after-preserved
loop-after-preserved c =
    commas_one c.in-Some-number_here.target c.args.targets.now.items c.loop-after.targets.items c.push.new.self.items c.args.bytes.now c.loop-after.rest.now
    c.in-Some.after.now c.in-Some-number_here.after.now c.loop-after.invariant c.in-Some.ensures (number_here_gives _ _ _ c.in-Some-number_here.ensures)
    c.in_ok-push.ensures.items
