use Rattle.std.proofs.Common.{◌≡◌, ℕ, ◌<◌, ◌⊎◌, Bool, List, [], ◌∷◌, ◌++◌, length, Option, Some, None, refl, sym, ◌∙◌, ap, subst, inl, inr, arith}
use Rattle.std.specs.Prelude.{All, Contains, MatchOption}
use Rattle.std.specs.Option.{option_to_list}
use Rattle.std.proofs.lemmas.List.Elements.{Contains-push, Contains-push_cases}
use Rattle.systems.specs.Path.{IsPath}
use Rattle.systems.specs.System.{System, IsSystem}
use Rattle.calculus.specs.View.{action_of}
use Rattle.calculus.specs.Tree.{Action, Step}
use Rattle.calculus.specs.Meaning.{Leads, marked}
use Rattle.calculus.proofs.Inside.{leads_inside}
use Rattle.meaning.proofs.search.reaching_by.Goals as goal

no_more : (o : Option ℕ) (P : Type 0) (Q : ℕ → Type 0) → MatchOption o P Q → ((x : ℕ) → o ≡ Some x → ⊥) → P
no_more None P Q h none = h
no_more (Some x) P Q h none = absurd (none x refl)

-- the popped state, or one that still waits
waited : (before after : List ℕ) (o : Option ℕ) (state : ℕ) → before ≡ after ++ option_to_list o → o ≡ Some state → (t : ℕ) → Contains before t
    → Contains after t ⊎ (state ≡ t)
waited before after o state e is t h =
    let all : before ≡ after ++ state ∷ [] = e ∙ ap (λ x. after ++ option_to_list x) is in
    Contains-push_cases after state t (subst (λ xs. Contains xs t) all h)

here : (before after : List ℕ) (o : Option ℕ) (state : ℕ) → before ≡ after ++ option_to_list o → o ≡ Some state → Contains before state
here before after o state e is =
    let all : before ≡ after ++ state ∷ [] = e ∙ ap (λ x. after ++ option_to_list x) is in
    subst (λ xs. Contains xs state) (sym all) (Contains-push after state)

pub loop-state-preserved : goal.loop-state-preserved
loop-state-preserved c =
    let l = c.args.lts.now.system in
    let act = action_of c.args.action.now in
    let now = c.loop-state.invariant in
    let turn = c.in_ok-visit.ensures in
    let index = c.in_ok-arrivals.ensures in
    let before = c.loop-state.waiting.items in
    let after = c.pop.new.self.items in
    let state = c.in-Some.state in
    let popped : Contains before state = here before after c.pop.result state c.pop.ensures.items c.in-Some.is in
    let room : state < l.states = subst (λ x. x < l.states) popped.2 (now.inside popped.0 state popped.1) in
    record {
      count = turn.count ∙ now.count;
      inside = subst (λ n. All (λ t. t < n) c.visit.new.waiting.items) now.count turn.inside;
      known = turn.known;
      sound = λ s h m. elim (turn.fresh s m) [
        | inl old ↦ now.sound s h old
        | inr w ↦
            let rest = now.sound state room (now.known state popped) in
            (rest.0, (state ∷ (rest.1).0, ((index.steps state s room).0 w.1, (rest.1).1)), rest.2)
      ];
      base = λ s h m. turn.kept s (now.base s h m);
      closed = λ s t h go m. elim (turn.fresh t m) [
        | inl old ↦ elim (now.closed s t h go old) [
          | inl k ↦ inl (turn.kept s k)
          | inr k ↦ elim (waited before after c.pop.result state c.pop.ensures.items c.in-Some.is t k) [
            | inl w ↦ inr (turn.waits t w)
            | inr e ↦ inl (turn.sources s ((index.steps state s room).1 (subst (λ x. Leads l (Step act) s x) (sym e) go)))
          ]
        ]
        | inr w ↦ inr w.0
      ];
    }

module _ (l : System) (ok : IsSystem l) (act : Action) (marks found : List Bool) (base : (s : ℕ) → s < l.states → marked marks s → marked found s)
    (closed : (s t : ℕ) → t < l.states → Leads l (Step act) s t → marked found t → marked found s) where
  along : (s : ℕ) (states : List ℕ) (t : ℕ) → s < l.states → IsPath (Leads l (Step act)) s states t → marked marks t → marked found s
  along s [] t h p m = base s h (subst (marked marks) (sym p) m)
  along s (x ∷ states) t h p m =
      let room = leads_inside l ok (Step act) s x h p.0 in
      closed s x room p.0 (along x states t room p.1 m)

pub returns : goal.returns
returns c =
    let l = c.args.lts.now.system in
    let act = action_of c.args.action.now in
    let now = c.loop-state.invariant in
    let none : length c.loop-state.waiting.items ≡ 0 = omega (arith, (no_more c.pop.result _ _ c.pop.ensures.cases (λ x e. c.in_default.not-Some x e)).0) in
    let closed : (s t : ℕ) → t < l.states → Leads l (Step act) s t → marked c.loop-state.found.items t → marked c.loop-state.found.items s =
    λ s t h go m. elim (now.closed s t h go m) [ inl k ↦ k | inr w ↦ absurd (omega (arith, w.1)) ] in
    record {
      count = now.count;
      exact = λ s h. (now.sound s h, λ w. along l c.requires.system act c.args.marks.now c.loop-state.found.items now.base closed s (w.1).0 w.0 h (w.1).1 w.2);
    }
