use Rattle.std.proofs.Common.{◌++◌, ◌∙◌}
use Rattle.std.specs.Prelude.{codes, decimal}
use Rattle.calculus.specs.Normal.{normal_nodes}
use Rattle.text.proofs.Writing.{Wrote-after, Wrote-as, Wrote-err, WroteFront-after, WroteFront-more}
use Rattle.why.proofs.Lines.{stop_is}
use Rattle.why.proofs.writer.put_stop.Goals as goal

pub returns-in_err-put_pieces : goal.returns-in_err-put_pieces
returns-in_err-put_pieces g c =
    Wrote-as _ _ _ _ _ (stop_is c.args.story.now.system.now.system (normal_nodes c.args.story.now.normal.now) c.args.v c.args.blanks c.from.result
    c.blanks_of.result.now c.args.kind c.blanks_of.ensures (c.from.ensures ∙ c.state_of-state.ensures))
    (Wrote-err _ _ _ _ c.from_residual.ensures.0
    (WroteFront-more _ _ (c.blanks_of.result.now ++ (decimal c.from.result ++ codes ": ")) _ c.in_err-put_pieces.ensures))

pub returns-in_err-put_reason : goal.returns-in_err-put_reason
returns-in_err-put_reason g c =
    Wrote-as _ _ _ _ _ (stop_is c.args.story.now.system.now.system (normal_nodes c.args.story.now.normal.now) c.args.v c.args.blanks c.from.result
    c.blanks_of.result.now c.args.kind c.blanks_of.ensures (c.from.ensures ∙ c.state_of-state.ensures))
    (Wrote-err _ _ _ _ c.from_residual-in_err-put_reason.ensures.0
    (WroteFront-after _ _ _ (c.blanks_of.result.now ++ (decimal c.from.result ++ codes ": ")) _ c.in_ok-put_pieces.ensures
    (WroteFront-more _ _ _ _ c.in_err-put_reason.ensures)))

pub returns : goal.returns
returns g c =
    Wrote-as _ _ _ _ _ (stop_is c.args.story.now.system.now.system (normal_nodes c.args.story.now.normal.now) c.args.v c.args.blanks c.from.result
    c.blanks_of.result.now c.args.kind c.blanks_of.ensures (c.from.ensures ∙ c.state_of-state.ensures))
    (Wrote-after _ _ _ (c.blanks_of.result.now ++ (decimal c.from.result ++ codes ": ")) _ _ c.in_ok-put_pieces.ensures
    (Wrote-after _ _ _ _ _ _ c.in_ok-put_reason.ensures c.put.ensures.wrote))
