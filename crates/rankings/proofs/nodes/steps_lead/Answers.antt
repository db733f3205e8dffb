use Rattle.std.proofs.Common.{◌≡◌, Bool, true, false, not, inr, refl, sym, subst, ◌∙◌, true≢false, slice_index_or}
use mathlib.Core.Bool.{beq}
use Rattle.std.specs.Prelude.{IsTrue}
use Rattle.systems.specs.declared.system.Transition.{Transition}
use Rattle.calculus.specs.Taken.{is_in}
use Rattle.rankings.specs.Columns.{number_at}
use Rattle.rankings.specs.Ranking.{GoesOnWell, winner_of}
use Rattle.rankings.specs.Slopes.{CanFollow}
use Rattle.rankings.proofs.Rows.{at_contained, contained_at, more_at, stands}
use Rattle.rankings.proofs.nodes.steps_lead.Goals.{then-has+else-let_follow-is_own, else-has}
use Rattle.rankings.proofs.nodes.steps_lead.Goals as goal

follows : (b is : Bool) → beq b is ≡ false → is ≡ false → b ≡ true
follows true is e f = refl
follows false is e f = absurd (true≢false (subst (λ x. beq false x ≡ false) f e))

pub loop-step-preserved : goal.loop-step-preserved
loop-step-preserved c =
    let row = c.args.row.now in
    let n = c.loop-step.step-index in
    let d : Transition = record { source = 0; label = 0; target = 0 } in
    let old = c.loop-step.invariant in
    elim c.if-has.branch [
      | then-has+else-let_follow-is_own w ↦ record {
        followed = λ i t h e inside no.
            more_at (λ u. is_in c.args.set.now u ≡ true → CanFollow c.args.slopes c.args.own (number_at c.args.next u.target)) row n d
            c.loop-step-test.true (λ j u k f i. old.followed j u k f i no)
            (λ i r p a. subst (λ z. GoesOnWell r (winner_of c.args.own) p c.args.own z) w.number.ensures
            ((w.let_follow.ensures r p a).0 (follows w.let_follow.result c.is_winner-is_own.result w.if-let_follow-is_own.false no))) i t h e inside;
        none = λ f. absurd (true≢false (sym w.some-is ∙ f));
        found = λ s. (n, slice_index_or row n d, stands row n d c.loop-step-test.true, sym c.has.ensures ∙ w.if-has.true);
      }
      | else-has w ↦ record {
        followed = λ i t h e inside no.
            more_at (λ u. is_in c.args.set.now u ≡ true → CanFollow c.args.slopes c.args.own (number_at c.args.next u.target)) row n d
            c.loop-step-test.true (λ j u k f i. old.followed j u k f i no)
            (λ i. absurd (true≢false (sym i ∙ (sym c.has.ensures ∙ w.if-has.false)))) i t h e inside;
        none = λ f. more_at (λ u. is_in c.args.set.now u ≡ false) row n d c.loop-step-test.true (old.none (sym w.some-is ∙ f)) (sym c.has.ensures ∙ w.if-has.false);
        found = λ s. old.found (sym w.some-is ∙ s);
      }
    ]

pub returns-then-some : goal.returns-then-some
returns-then-some c = λ yes. record {
  mine = λ o. absurd (true≢false (sym (c.is_winner-is_own.ensures.1 o) ∙ not_true c.is_winner-is_own.result yes));
  theirs = λ o. contained_at (λ t. is_in c.args.set.now t ≡ true → CanFollow c.args.slopes c.args.own (number_at c.args.next t.target)) c.args.row.now
      c.loop-step.step-index
      c.loop-step-test.false
      (λ i t h e inside. c.loop-step.invariant.followed i t h e inside (not_true c.is_winner-is_own.result yes));
  none = λ n. (let f = c.loop-step.invariant.found c.if-some.true in
      absurd (true≢false (sym f.3 ∙ n f.1 (at_contained c.args.row.now f.0 f.1 f.2))));
}
  where
    not_true : (b : Bool) → IsTrue (not b) → b ≡ false
    not_true true h = absurd (true≢false (sym h))
    not_true false h = refl

pub returns-else-some : goal.returns-else-some
returns-else-some c = λ yes.
    let none = contained_at (λ t. is_in c.args.set.now t ≡ false) c.args.row.now c.loop-step.step-index c.loop-step-test.false
    (c.loop-step.invariant.none c.if-some.false) in
    record {
      mine = λ o. inr (none, λ r p a. (c.let_follow-else-some.ensures r p a).0 yes);
      theirs = λ o t h inside. absurd (true≢false (sym inside ∙ none t h));
      none = λ n r p a. (c.let_follow-else-some.ensures r p a).0 yes;
    }
