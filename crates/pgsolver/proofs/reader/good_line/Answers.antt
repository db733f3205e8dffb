use Rattle.std.proofs.Common.{[], arith}
use Rattle.pgsolver.proofs.Judging.{no_shape, at_place, faulty, sound}
use Rattle.pgsolver.proofs.Reading.{few_targets}
use Rattle.pgsolver.proofs.reader.good_line.Goals as goal

pub returns-in_default-clause-fault : goal.returns-in_default-clause-fault
returns-in_default-clause-fault g c = λ before are. at_place _ _ c.args.place (no_shape c.args.last before [] _ _ (rw c.in_default.is at c.in_ok-head.ensures))

pub returns-in-Some-first_fault-clause-fault : goal.returns-in-Some-first_fault-clause-fault
returns-in-Some-first_fault-clause-fault g c = λ before are. at_place _ _ c.args.place
    (faulty c.args.last before c.args.places.now c.in-Some.head c.vertex.new.targets.items c.make_set.new.numbers.items c.in-Some-first_fault.fault _ _ c.requires.limit are
    (rw c.in-Some.is at c.in_ok-head.ensures) c.make_set.ensures (rw c.deref.ensures.value at c.in-Some-first_fault.ensures.some))

pub returns-in-None-clause-good : goal.returns-in-None-clause-good
returns-in-None-clause-good g c =
    sound c.args.last c.args.places.now c.in-Some.head c.vertex.new.targets.items c.make_set.new.numbers.items _ _ c.requires.limit
    (rw c.in-Some.is at c.in_ok-head.ensures) c.make_set.ensures (rw c.deref.ensures.value at c.in-None.ensures.none)

pub returns-in-None-clause-few : goal.returns-in-None-clause-few
returns-in-None-clause-few g c =
    let says = sound c.args.last c.args.places.now c.in-Some.head c.vertex.new.targets.items c.make_set.new.numbers.items _ _ c.requires.limit
    (rw c.in-Some.is at c.in_ok-head.ensures) c.make_set.ensures (rw c.deref.ensures.value at c.in-None.ensures.none) in
    omega (arith, c.make_set.new.numbers.ok.0, few_targets c.args.last c.args.places.now _ _ c.in-Some.head c.make_set.new.numbers.items c.requires.limit says)
