use Rattle.std.proofs.Common.{◌≡◌, ap, rules}
use Rattle.std.specs.Prelude.{◌↔◌, IsTrue}
use Rattle.evidence.specs.declared.verdict.Verdict.TheVariants.{Good}
use Rattle.evidence.specs.Verdict.{verdict_text}
use Rattle.commands.specs.Verifies.{IsVerified, RefusesVerify}
use Rattle.commands.proofs.Answered.{written}
use Rattle.commands.proofs.verify_text.judge.Goals as goal

pub returns-clause-answers : goal.returns-clause-answers
returns-clause-answers g c = λ first second game evidence.
    let told = c.verify-verdict.result in
    let answered : IsTrue c.match-matches.matches ↔ (told ≡ Good) = search rules in
    written (IsVerified first second) (RefusesVerify first second) _ _ c.match-matches.matches _ _ _ (record {
      g = c.args.game.now;
      e = c.args.evidence.now.evidence;
      told = told;
      game = game;
      evidence = evidence;
      verdict = c.verify-verdict.ensures.verdict;
      same = ap (λ h. verdict_text h c.args.evidence.now.evidence told) c.requires;
      answered = answered;
      wins = λ yes. c.verify-verdict.ensures.wins (answered.0 yes);
    }) c.write_verdict.ensures.wrote c.answered.ensures
