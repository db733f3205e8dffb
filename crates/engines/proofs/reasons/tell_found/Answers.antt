use Rattle.std.proofs.Common.{inl, inr, refl}
use Rattle.text.specs.Taken.{Adds}
use Rattle.text.specs.Wrote.{WroteFront}
use Rattle.engines.proofs.Orders.{refused_on}
use Rattle.engines.proofs.Reasoning.{reasoned, unplayed_kept}
use Rattle.engines.specs.Play.{formula_played, system_played}
use Rattle.requests.specs.declared.error.MuError.TheVariants as error
use Rattle.engines.proofs.reasons.tell_found.Goals as goal

pub returns-clause-tells : goal.returns-clause-tells
returns-clause-tells g c = λ first second spelled.
    let options = c.args.request.now.options in (
      c.initial_answer-answer.result,
      reasoned options.priorities options.board c.args.request.now.limit first second c.args.found.now c.in_ok-told.told c.initial_answer-answer.result
          (WroteFront (g.W.Sink.taken c.args.out.now) (g.W.Sink.taken c.put_reasons.new.out)) c.requires.found c.requires.apart
          c.initial_answer-answer.ensures.inside c.initial_answer-answer.ensures.mark spelled c.in_ok-told.ensures c.in-Err.ensures,
    )

pub returns-in-Ok-clause-tells : goal.returns-in-Ok-clause-tells
returns-in-Ok-clause-tells g c = λ first second spelled.
    let options = c.args.request.now.options in
    reasoned options.priorities options.board c.args.request.now.limit first second c.args.found.now c.in_ok-told.told c.initial_answer-answer.result
    (Adds (g.W.Sink.taken c.args.out.now) (g.W.Sink.taken c.put_reasons.new.out)) c.requires.found c.requires.apart
    c.initial_answer-answer.ensures.inside c.initial_answer-answer.ensures.mark spelled c.in_ok-told.ensures c.in-Ok.ensures

pub returns-in_err-told-clause-tells : goal.returns-in_err-told-clause-tells
returns-in_err-told-clause-tells g c = λ first second spelled.
    let options = c.args.request.now.options in
    let x = c.args.found.now in
    refused_on c.from_residual.result error.Memory _ _ c.from_residual.ensures.1
    (unplayed_kept options.priorities options.board c.args.request.now.limit first second _ (system_played x) (formula_played x) error.Memory spelled
    (inr (c.requires.found.marks.within, inl refl)))
