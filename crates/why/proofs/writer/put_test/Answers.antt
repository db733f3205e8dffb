use Rattle.std.proofs.Common.{◌++◌}
use Rattle.std.specs.Prelude.{codes, decimal}
use Rattle.calculus.specs.Canon.{action_text}
use Rattle.calculus.specs.View.{action_of}
use Rattle.text.proofs.Writing.{Wrote-after, Wrote-as, Wrote-err, WroteFront-more}
use Rattle.why.proofs.writer.put_test.Goals as goal

pub returns-in_err-put_pieces : goal.returns-in_err-put_pieces
returns-in_err-put_pieces g c =
    Wrote-as _ _ _ _ _ (λ j. (c.which_states.ensures j ++ (decimal c.args.count ++ codes " states has a step by ")) ++ action_text (action_of c.args.test.action.now))
    (Wrote-err _ _ _ _ c.from_residual.ensures.0 (WroteFront-more _ _ _ _ c.in_err-put_pieces.ensures))

pub returns : goal.returns
returns g c =
    Wrote-as _ _ _ _ _ (λ j. (c.which_states.ensures j ++ (decimal c.args.count ++ codes " states has a step by ")) ++ action_text (action_of c.args.test.action.now))
    (Wrote-after _ _ _ _ _ _ c.in_ok-put_pieces.ensures c.put_action.ensures)
