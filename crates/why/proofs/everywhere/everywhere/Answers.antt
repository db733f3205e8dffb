use Rattle.std.proofs.Common.{◌≡◌, ◌<◌, ◌∙◌, ℕ, Bool, List, Some, IsTrue, length, refl, sym, subst, arith}
use Rattle.std.specs.Prelude.{count_by}
use Rattle.systems.specs.System.{System}
use Rattle.calculus.specs.Nodes.{Node}
use Rattle.calculus.specs.Normal.{normal_nodes}
use Rattle.calculus.specs.View.{action_of}
use Rattle.witness.specs.Walk.{MarksReached, is_marked}
use Rattle.witness.proofs.Setting.{marked_within}
use Rattle.why.specs.Everywhere.{IsEverywhere, asked_test, has_step, node_of, state_of, test_of}
use Rattle.why.specs.declared.everywhere.StepTest.{StepTest}
use Rattle.why.proofs.everywhere.everywhere.Goals as goal

-- Where the test holds of each marked state, it holds of each reachable one.
so_of : (l : System) (nodes : List Node) (u node state count : ℕ) (marks seen counted : List Bool) (test : StepTest)
    → node ≡ node_of (length nodes) u → state ≡ state_of (length nodes) u → Some (test_of test) ≡ asked_test nodes node
    → MarksReached l state marks → seen ≡ marks → counted ≡ marks
    → ((s : ℕ) → s < l.states → IsTrue (is_marked seen s) → has_step l (action_of test.action.now) s ≡ test.possible)
    → count ≡ count_by (λ mark. mark) counted → IsEverywhere l nodes u count
so_of l nodes u node state count marks seen counted test en es asked reached e_seen e_counted so is =
    let here : MarksReached l (state_of (length nodes) u) marks = subst (λ s. MarksReached l s marks) es reached in
    record {
      test = test_of test;
      asked = sym (asked ∙ (λ j. asked_test nodes (en j)));
      each = λ s can. (let marked = (here.exact s).1 can in let within = marked_within marks s marked in let long = here.long in
          so s (omega (arith, within, long)) (subst (λ ms. IsTrue (is_marked ms s)) (sym e_seen) marked));
      count = record { marks = marks; reached = here; count = is ∙ (λ j. count_by (λ mark. mark) (e_counted j)) };
    }

pub returns-then-are_so : goal.returns-then-are_so
returns-then-are_so c =
    so_of c.args.system.now.system (normal_nodes c.args.form.now) c.args.u c.node_of-node.result c.state_of-state.result c.count_marked.result
    c.in_ok-marks.marks.items c.deref.result.now c.deref-then-are_so.result.now c.in-Some.test c.node_of-node.ensures.number c.state_of-state.ensures
    c.in-Some.ensures c.in_ok-marks.ensures c.deref.ensures.value c.deref-then-are_so.ensures.value (c.are_so.ensures c.if-are_so.true) c.count_marked.ensures
