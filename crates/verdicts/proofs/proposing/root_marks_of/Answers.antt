use Rattle.std.proofs.Common.{◌≡◌, ◌≢◌, ◌+◌, ◌*◌, ◌<◌, ◌∙◌, ℕ, List, Bool, ap, arith, sym, subst}
use Rattle.std.proofs.Math.Nat.{mul-lt-mul_of_pos_right}
use Rattle.calculus.specs.Meaning.{MarksOf}
use Rattle.calculus.proofs.Marks.{marks_more}
use Rattle.game.specs.declared.player.Player.TheVariants.{Even}
use Rattle.game.specs.Arena.{place}
use Rattle.measures.specs.Measure.{Top}
use Rattle.measures.specs.Progress.{value_at}
use Rattle.measures.specs.StoredProposal.{values_of}
use Rattle.verdicts.proofs.Leasts.{won_mark}
use Rattle.verdicts.proofs.proposing.root_marks_of.Goals as goal

pub overflow_mul-root : goal.overflow_mul-root
overflow_mul-root c =
    let room : c.loop-state.state * c.args.nodes < c.args.states * c.args.nodes = mul-lt-mul_of_pos_right c.loop-state-test.true c.requires.some in
    let few = c.requires.few in
    omega (arith, room, few)

pub overflow_add-root : goal.overflow_add-root
overflow_add-root c =
    let room : c.loop-state.state * c.args.nodes < c.args.states * c.args.nodes = mul-lt-mul_of_pos_right c.loop-state-test.true c.requires.some in
    let few = c.requires.few in
    omega (arith, room, few)

pub loop-state-preserved : goal.loop-state-preserved
loop-state-preserved c =
    let state = c.loop-state.state in
    let P : ℕ → Type 0 = λ s. value_at (values_of Even c.args.proposals.now) (place c.args.nodes s 0) ≢ Top in
    let at : 2 + state * c.args.nodes ≡ place c.args.nodes state 0 = omega arith in
    let mark = won_mark c.is_top-is_lost.result (value_at (values_of Even c.args.proposals.now) (place c.args.nodes state 0)) c.value.result
    (c.value.ensures ∙ ap (value_at (values_of Even c.args.proposals.now)) at) c.is_top-is_lost.ensures in
    subst (λ (ms : List Bool). MarksOf (state + 1) ms P) (sym {A = List Bool} c.in_ok-push.ensures.items)
    (marks_more state c.loop-state.marks.items _ P c.loop-state.invariant mark)
