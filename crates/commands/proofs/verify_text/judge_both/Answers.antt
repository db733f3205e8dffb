use Rattle.std.proofs.Common.{◌≡◌, ap, rules}
use Rattle.std.specs.Prelude.{◌↔◌, IsTrue}
use Rattle.evidence.specs.declared.verdict.Both.TheVariants.{Yes}
use Rattle.evidence.specs.Verdict.{both_text}
use Rattle.commands.specs.Verifies.{AreVerified, RefusesBoth}
use Rattle.commands.proofs.Answered.{written}
use Rattle.commands.proofs.verify_text.judge_both.Goals as goal

pub returns-clause-answers : goal.returns-clause-answers
returns-clause-answers g c = λ text one other game first second.
    let e = c.args.first.now.evidence in
    let f = c.args.second.now.evidence in
    let told = c.check_both-both.result in
    let answered : IsTrue c.match-matches.matches ↔ (told ≡ Yes) = search rules in
    written (AreVerified text one other) (RefusesBoth text one other) _ _ c.match-matches.matches _ _ _ (record {
      g = c.args.game.now;
      e = e;
      f = f;
      told = told;
      game = game;
      one = first;
      other = second;
      both = c.check_both-both.ensures.both;
      same = ap (λ h. both_text h e f told) c.requires.first;
      answered = answered;
      decides = λ yes. c.check_both-both.ensures.decides (answered.0 yes);
    }) c.write_both.ensures.wrote c.answered.ensures
