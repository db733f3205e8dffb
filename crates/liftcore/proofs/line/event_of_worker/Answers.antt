use Rattle.std.proofs.Common.{◌≡◌, true, false, subst, sym, ◌∙◌}
use Rattle.std.specs.Str.{bytes_eq}
use Rattle.liftcore.specs.Begun.{IsBegunLine}
use Rattle.liftcore.specs.declared.line.LinePart.TheVariants.{Worker}
use Rattle.liftcore.proofs.Bytewise.{worker_absent, worker_event, worker_other}
use Rattle.liftcore.proofs.line.event_of_worker.Goals as goal

pub returns-in_err-worker : goal.returns-in_err-worker
returns-in_err-worker c = λ line begun.
    worker_absent line c.args.word.now (subst (λ n. IsBegunLine line c.args.word.now (Worker n)) c.in_err-worker.was begun) ∙ sym c.from_residual.ensures

pub returns-then-eq : goal.returns-then-eq
returns-then-eq c = λ line begun.
    worker_event line c.args.word.now c.in_ok-worker.field-0 (subst (λ n. IsBegunLine line c.args.word.now (Worker n)) c.in_ok-worker.was begun)
    (subst (λ word. bytes_eq c.args.word.now word ≡ true) c.as_slice.ensures (sym c.eq.ensures ∙ c.if-eq.true))

pub returns : goal.returns
returns c = λ line begun.
    worker_other line c.args.word.now c.args.worker begun
    (subst (λ word. bytes_eq c.args.word.now word ≡ false) c.as_slice.ensures (sym c.eq.ensures ∙ c.if-eq.false))
