use Rattle.text.proofs.Writing.{Wrote-err, WroteFront-more, WroteFront-after, Wrote-after}
use Rattle.why.proofs.setting.put_between.Goals as goal

pub returns-in_err-put : goal.returns-in_err-put
returns-in_err-put g c = Wrote-err _ _ _ _ c.from_residual.ensures.0 (WroteFront-more _ _ _ _ c.in_err-put.ensures.wrote)

pub returns-in_err-put_action : goal.returns-in_err-put_action
returns-in_err-put_action g c = Wrote-err _ _ _ _ c.from_residual-in_err-put_action.ensures.0
    (WroteFront-after _ _ _ _ _ c.in_ok-put.ensures.wrote (WroteFront-more _ _ _ _ c.in_err-put_action.ensures))

pub returns : goal.returns
returns g c = Wrote-after _ _ _ _ _ _ c.in_ok-put.ensures.wrote (Wrote-after _ _ _ _ _ _ c.in_ok-put_action.ensures c.put-2.ensures.wrote)
