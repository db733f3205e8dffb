-- What holds of each transition.
use Rattle.std.proofs.Common.{◌≡◌, ℕ, ◌<◌, ◌^◌, Bool, List, length, get_or, ap, arith}
use Rattle.std.proofs.lemmas.List.Elements.{All-from_recursion, All-get_or}
use Rattle.systems.specs.declared.system.Transition.{Transition}
use Rattle.systems.specs.Numbered.{Numbered, IsTransitionOf, IsInside}

abbrev pub none : Transition
none = record { source = 0; label = 0; target = 0 }

-- the transition at an index
pub inside : (l : Numbered) (steps : List Transition) (i : ℕ) → IsInside l steps → i < length steps → IsTransitionOf l (get_or steps i none)
inside l steps i all lt = All-get_or (IsTransitionOf l) steps i none lt (All-from_recursion (IsTransitionOf l) steps all)

-- its label is among the decided ones
pub decided : (l : Numbered) (steps : List Transition) (i : ℕ) (chosen seen : List Bool) → IsInside l steps → i < length steps → seen ≡ chosen
    → ((k : ℕ) → k < length l.labels → k < 2 ^ 32 → k < length chosen) → (get_or steps i none).label < 2 ^ 32 → (get_or steps i none).label < length seen
decided l steps i chosen seen all lt e count fits = let step = inside l steps i all lt
    in omega (arith, ap length e, count (get_or steps i none).label step.label fits)
