-- Modalities from which the play goes on well wherever it goes.
use Rattle.std.proofs.Common.{◌≡◌, ℕ, Bool, true, false, List, [], ◌∷◌, subst, inl, inr}
use Rattle.std.specs.Prelude.{Contains, ◌⊎◌}
use Rattle.systems.specs.declared.system.Transition.{Transition}
use Rattle.game.specs.declared.player.Player.{Player}
use Rattle.calculus.specs.Taken.{is_in}
use Rattle.measures.proofs.Lists.{contains_cases, contains_first, contains_later, contains_none}
use Rattle.laws.proofs.Flags.{cases}
use Rattle.rankings.specs.Slopes.{CanFollow, IsNoStep, StepsFollow}
use Rattle.rankings.specs.declared.slope.Slopes.{Slopes}

-- some transition has a label in the set, or none has
step_or_none : (set : List Bool) (row : List Transition) → ((t : Transition) × Contains row t × (is_in set t ≡ true)) ⊎ IsNoStep set row
step_or_none set [] = inr (λ t h. absurd (contains_none t h))
step_or_none set (u ∷ row) = elim (cases (is_in set u)) [
  | inl e ↦ inl (u, contains_first u row, e)
  | inr e ↦ elim (step_or_none set row) [
    | inl w ↦ inl (w.0, contains_later u w.0 row w.1, w.2)
    | inr none ↦ inr (λ t h. elim (contains_cases u t row h) [ inl q ↦ subst (λ z. is_in set z ≡ false) q e | inr k ↦ none t k ])
  ]
]

pub always_follow : (x : Slopes) (owner : Player) (own : ℕ) (set : List Bool) (row : List Transition) (next : ℕ → ℕ) (sink : ℕ)
    → ((t : ℕ) → CanFollow x own (next t)) → CanFollow x own sink → StepsFollow x owner own set row next sink
always_follow x owner own set row next sink goes ends = record {
  mine = λ o. elim (step_or_none set row) [ inl w ↦ inl (w.0, w.1, w.2, goes w.0.target) | inr none ↦ inr (none, ends) ];
  theirs = λ o t h e. goes t.target;
  none = λ n. ends;
}
