use Rattle.std.proofs.lemmas.Result.{MatchResult-weaker}
use Rattle.text.proofs.Streaming.{known_only, known_then, known_both, quote_none, quote_passes}
use Rattle.text.proofs.stream.quoted.Goals as goal

pub returns-then-not-branch : goal.returns-then-not-branch
returns-then-not-branch g c = known_only _ _ (rw c.if-not-branch.true at c.in_ok-sign.ensures)
    (λ text left none. quote_none c.args.most c.args.kept.now.items text left none)

pub returns : goal.returns
returns g c =
    MatchResult-weaker c.accept.result c.accept.ensures
    (λ found shut. known_then _ _ _ (rw c.if-not-branch.false at c.in_ok-sign.ensures) (known_both _ _ _ _ _ c.in_ok-run.ensures shut)
    (λ text mid left signed rest. quote_passes c.args.most c.run.new.kept.items text mid rest.0 left found signed rest.1 rest.2))
    (λ fault cause. cause)
