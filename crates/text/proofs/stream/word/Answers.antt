use Rattle.std.proofs.lemmas.Result.{MatchResult-weaker}
use Rattle.text.proofs.Streaming.{known_then, sign_passes}
use Rattle.text.proofs.stream.word.Goals as goal

pub returns : goal.returns
returns g c = MatchResult-weaker c.accept_all.result c.accept_all.ensures (λ found all. known_then _ _ _ c.in_ok-skip_blanks.ensures.next all
    (λ text mid left to takes. sign_passes c.args.token.now text mid left found c.requires.inside to.0 takes)) (λ fault cause. cause)
