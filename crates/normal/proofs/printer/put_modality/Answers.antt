use Rattle.std.proofs.Common.{◌++◌, ◌∷◌, [], decimal, ap, ◌∙◌, append_assoc}
use Rattle.calculus.specs.View.{action_of}
use Rattle.calculus.specs.Canon.{action_text}
use Rattle.text.proofs.Writing.{Wrote-as, Wrote-err, Wrote-after, WroteFront-more, WroteFront-after}
use Rattle.text.specs.Pieces.{line_end}
use Rattle.normal.proofs.printer.put_modality.Goals as goal

pub returns-in_err-put_pieces : goal.returns-in_err-put_pieces
returns-in_err-put_pieces g c =
    let whole = append_assoc (32 ∷ decimal c.from.result) (32 ∷ []) (action_text (action_of c.args.action.now) ++ line_end)
    ∙ ap (λ n. 32 ∷ (decimal n ++ 32 ∷ (action_text (action_of c.args.action.now) ++ line_end))) c.from.ensures in
    Wrote-as _ _ _ _ _ whole (Wrote-err _ _ _ _ c.from_residual.ensures.0 (WroteFront-more _ _ _ _ c.in_err-put_pieces.ensures))

pub returns-in_err-put_action : goal.returns-in_err-put_action
returns-in_err-put_action g c =
    let whole = append_assoc (32 ∷ decimal c.from.result) (32 ∷ []) (action_text (action_of c.args.action.now) ++ line_end)
    ∙ ap (λ n. 32 ∷ (decimal n ++ 32 ∷ (action_text (action_of c.args.action.now) ++ line_end))) c.from.ensures in
    Wrote-as _ _ _ _ _ whole (Wrote-err _ _ _ _ c.from_residual-in_err-put_action.ensures.0
    (WroteFront-after _ _ _ _ _ c.in_ok-put_pieces.ensures (WroteFront-more _ _ _ _ c.in_err-put_action.ensures)))

pub returns : goal.returns
returns g c =
    let whole = append_assoc (32 ∷ decimal c.from.result) (32 ∷ []) (action_text (action_of c.args.action.now) ++ line_end)
    ∙ ap (λ n. 32 ∷ (decimal n ++ 32 ∷ (action_text (action_of c.args.action.now) ++ line_end))) c.from.ensures in
    Wrote-as _ _ _ _ _ whole (Wrote-after _ _ _ _ _ _ c.in_ok-put_pieces.ensures (Wrote-after _ _ _ _ _ _ c.in_ok-put_action.ensures c.put.ensures.wrote))
