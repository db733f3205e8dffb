use Rattle.std.proofs.Common.{◌≡◌, ◌∙◌, subst, sym, true≢false}
use Rattle.evidence.specs.Verdict.{IsBoth}
use Rattle.evidence.specs.declared.verdict.Both.TheVariants.{Yes}
use Rattle.evidence.proofs.Pairs.{pair_full}
use Rattle.evidence.proofs.decide.checked_pair.Goals as goal
use Rattle.evidence.proofs.decide.checked_pair.Goals.{in-Yes, in_default}

pub returns-then-are_small : goal.returns-then-are_small
returns-then-are_small c =
    let game = c.args.game.now in
    let pair = c.args.pair in
    let yes : c.check_both-both.result ≡ Yes = elim c.match-matches.branch [
      | in-Yes w ↦ w.in-Yes.is
      | in_default w ↦ absurd (true≢false (sym c.if-matches.true ∙ w.matches-is))
    ] in
    let both = subst (IsBoth game pair.even.evidence pair.odd.evidence) yes c.check_both-both.ensures.both in
    pair_full game pair c.evidence_text_spells.ensures c.known.ensures c.requires c.known-2.ensures c.known-3.ensures both.0.0 both.0.1
    (c.check_both-both.ensures.decides yes) (c.are_small.ensures.even c.if-are_small.true) (c.are_small.ensures.odd c.if-are_small.true)
