use Rattle.std.proofs.Common.{◌≡◌, ◌<◌, [], ◌∷◌, ◌++◌, length, length-append, sym, ◌∙◌, ap, subst, inl, inr, arith, true≢false}
use Rattle.std.specs.Prelude.{All, Contains}
use Rattle.std.proofs.lemmas.List.Elements.{All-push, Contains-push, Contains-push_cases, Contains-append_left}
use Rattle.calculus.specs.Meaning.{marked}
use Rattle.meaning.proofs.Elements.{last_or_less}
use Rattle.meaning.proofs.search.states_in.Goals as goal
use Rattle.meaning.proofs.search.states_in.Goals.{then-mark+in_ok-push, else-mark}

pub loop-state-preserved : goal.loop-state-preserved
loop-state-preserved c =
    let marks = c.args.marks.now in
    let now = c.loop-state.invariant in
    let states = c.loop-state.states.items in
    let state = c.loop-state.state in
    elim c.if-mark.branch [
      | then-mark+in_ok-push w ↦
          let pushed : c.if-mark.states.items ≡ states ++ state ∷ [] = ap (λ v. v.items) w.states-is ∙ w.in_ok-push.ensures.items in
          record {
            inside = subst (All (λ t. t < length marks)) (sym pushed) (All-push (λ t. t < length marks) states state now.inside c.loop-state-test.true);
            only = λ t h. elim (Contains-push_cases states state t (subst (λ xs. Contains xs t) pushed h)) [
              | inl k ↦ now.only t k
              | inr k ↦ subst (marked marks) k w.if-mark.true
            ];
            every = λ t lt m. subst (λ xs. Contains xs t) (sym pushed) (elim (last_or_less t state (omega arith)) [
              | inl less ↦ Contains-append_left states (state ∷ []) t (now.every t less m)
              | inr e ↦ subst (Contains (states ++ state ∷ [])) (sym e) (Contains-push states state)
            ]);
            few = omega (arith, now.few, ap length pushed, length-append states (state ∷ []));
          }
      | else-mark w ↦
          let kept : c.if-mark.states.items ≡ states = ap (λ v. v.items) w.states-is in
          record {
            inside = subst (All (λ t. t < length marks)) (sym kept) now.inside;
            only = λ t h. now.only t (subst (λ xs. Contains xs t) kept h);
            every = λ t lt m. subst (λ xs. Contains xs t) (sym kept) (elim (last_or_less t state (omega arith)) [
              | inl less ↦ now.every t less m
              | inr e ↦ absurd (true≢false (sym (subst (marked marks) e m) ∙ w.if-mark.false))
            ]);
            few = omega (arith, now.few, ap length kept);
          }
    ]
