use Rattle.std.proofs.Common.{◌<◌, List, subst, take_all, arith}
use Rattle.std.proofs.lemmas.List.Elements.{All-from_recursion}
use Rattle.systems.specs.declared.system.Transition.{Transition}
use Rattle.commands.proofs.Ranked.{CountsSoFar, all_counts, count_low, counts_more}
use Rattle.commands.proofs.label_counts.counts_of.Goals as goal

abbrev nowhere : Transition
nowhere = record { source = 0; label = 0; target = 0 }

pub overflow_add-index_mut : goal.overflow_add-index_mut
overflow_add-index_mut c =
    let ts = c.args.transitions.now in
    let i = c.loop-transition.transition-index in
    let within = All-from_recursion (λ (t : Transition). t.label < c.args.labels) ts c.requires.inside i nowhere c.loop-transition-test.true in
    omega (arith, count_low c.args.labels ts i _ _ _ within c.index_mut.ensures.value c.loop-transition.invariant)

pub loop-transition-preserved : goal.loop-transition-preserved
loop-transition-preserved c =
    let ts = c.args.transitions.now in
    let i = c.loop-transition.transition-index in
    let within = All-from_recursion (λ (t : Transition). t.label < c.args.labels) ts c.requires.inside i nowhere c.loop-transition-test.true in
    counts_more c.args.labels ts i nowhere _ _ c.loop-transition-test.true within c.index_mut.ensures.value c.loop-transition.invariant

pub returns : goal.returns
returns c =
    let ts = c.args.transitions.now in
    let i = c.loop-transition.transition-index in
    all_counts c.args.labels ts _ (subst (λ (us : List Transition). CountsSoFar c.args.labels us c.loop-transition.counts.items) (take_all i ts (omega arith))
    c.loop-transition.invariant)
