use Rattle.std.proofs.Common.{◌<◌, length, ◌∙◌, sym, arith, below_more}
use Rattle.systems.specs.Numbered.{arrow_of}
use Rattle.calculus.specs.Normal.{normal_nodes}
use Rattle.witness.specs.Walk.{is_marked}
use Rattle.witness.proofs.Keeping.{none_pass, one_passes, set_told, taken_told}
use Rattle.witness.proofs.part.is_kept.Goals as goal

pub returns-then-is_taken : goal.returns-then-is_taken
returns-then-is_taken c = λ labels sets label.
    let nodes = normal_nodes c.args.normal.now in
    let k = c.loop-k.k in
    let few : k < length nodes = omega (arith, c.loop-k-test.true, c.count-k-end.ensures.count) in
    let told = taken_told nodes c.args.evidence.now.evidence (is_marked c.args.marks.now) (arrow_of labels c.args.transition) k c.is_taken.result few
    (λ node at. c.is_taken.ensures labels node at (set_told labels nodes c.args.sets.now k _ _ sets
    (omega (arith, few, c.requires.count)) c.index-sets-k.is c.as_slice-set.ensures.value node at) label)
    in
    sym (one_passes _ (length nodes) k few (told ∙ c.if-is_taken.true))

pub loop-k-preserved : goal.loop-k-preserved
loop-k-preserved c = λ labels sets label.
    let nodes = normal_nodes c.args.normal.now in
    let k = c.loop-k.k in
    let few : k < length nodes = omega (arith, c.loop-k-test.true, c.count-k-end.ensures.count) in
    let told = taken_told nodes c.args.evidence.now.evidence (is_marked c.args.marks.now) (arrow_of labels c.args.transition) k c.is_taken.result few
    (λ node at. c.is_taken.ensures labels node at (set_told labels nodes c.args.sets.now k _ _ sets
    (omega (arith, few, c.requires.count)) c.index-sets-k.is c.as_slice-set.ensures.value node at) label)
    in
    below_more _ _ (c.loop-k.invariant labels sets label) (told ∙ c.if-is_taken.false)

pub returns : goal.returns
returns c = λ labels sets label.
    let nodes = normal_nodes c.args.normal.now in
    sym (none_pass _ (length nodes) (λ k h. c.loop-k.invariant labels sets label k (omega (arith, h, c.loop-k-test.false, c.count-k-end.ensures.count))))
