-- Binders mean fixpoints, whatever sets their outer variables have.
use Rattle.std.specs.Prelude.{ℕ, ◌<◌, ◌≤◌, ◌↔◌, Bool, true, List, ◌∷◌, IsTrue}
use Rattle.systems.specs.System.{System, IsSystem}
use Rattle.calculus.specs.Tree.{Formula, Mu, Nu}
use Rattle.calculus.specs.Admitted.{Scope, is_admitted_in}
use Rattle.calculus.specs.Meaning.{Env, with_set, iterate, mean}

-- each variable has the set that its test tells
abbrev pub told_by_tests : (List ℕ → ℕ → Bool) → Env
told_by_tests tests name s = IsTrue (tests name s)

-- the map of sets that a binder's formula is: with this set for the binder's variable
abbrev pub body : System → Formula → Env → List ℕ → (ℕ → Type 0) → ℕ → Type 0
body l f e name set = mean l f (with_set e name set)

-- the formula may stand below a binder of the name, where these are around it
abbrev pub IsBody : Scope → List ℕ → Formula → Type 0
IsBody scope name f = IsTrue (is_admitted_in ((name, true) ∷ scope) f)

-- A test tells at which states a formula holds.
abbrev pub MeaningIsDecided : Type 0
MeaningIsDecided =
    (l : System) (f : Formula) (tests : List ℕ → ℕ → Bool) → IsSystem l
    → (test : ℕ → Bool) × ((s : ℕ) → s < l.states → IsTrue (test s) ↔ mean l f (told_by_tests tests) s)

-- A larger set gives a larger meaning.
abbrev pub BodyIsMonotone : Type 0
BodyIsMonotone =
    (l : System) (scope : Scope) (name : List ℕ) (f : Formula) (tests : List ℕ → ℕ → Bool) (U V : ℕ → Bool) → IsSystem l → IsBody scope name f
    → ((s : ℕ) → s < l.states → IsTrue (U s) → IsTrue (V s))
    → (s : ℕ) → s < l.states → body l f (told_by_tests tests) name (λ t. IsTrue (U t)) s → body l f (told_by_tests tests) name (λ t. IsTrue (V t)) s

-- For n states, the iterates from the nth on are one set: from no state that of `mu`, from all that of `nu`.
abbrev pub IteratesReach : Type 0
IteratesReach =
    (l : System) (scope : Scope) (name : List ℕ) (f : Formula) (tests : List ℕ → ℕ → Bool) (k : ℕ) → IsSystem l → IsBody scope name f → l.states ≤ k
    → (s : ℕ) → s < l.states
    → (iterate k (body l f (told_by_tests tests) name) (λ t. ⊥) s ↔ mean l (Mu name f) (told_by_tests tests) s)
    × (iterate k (body l f (told_by_tests tests) name) (λ t. Unit {0}) s ↔ mean l (Nu name f) (told_by_tests tests) s)

-- `mu` is a fixpoint, and in every set that the map stays in.
abbrev pub MuIsLeast : Type 0
MuIsLeast =
    (l : System) (scope : Scope) (name : List ℕ) (f : Formula) (tests : List ℕ → ℕ → Bool) → IsSystem l → IsBody scope name f
    → ((s : ℕ) → s < l.states → body l f (told_by_tests tests) name (mean l (Mu name f) (told_by_tests tests)) s ↔ mean l (Mu name f) (told_by_tests tests) s)
    × ((U : ℕ → Bool) → ((s : ℕ) → s < l.states → body l f (told_by_tests tests) name (λ t. IsTrue (U t)) s → IsTrue (U s))
    → (s : ℕ) → s < l.states → mean l (Mu name f) (told_by_tests tests) s → IsTrue (U s))

-- `nu` is a fixpoint, and has every set that stays in what the map makes of it.
abbrev pub NuIsGreatest : Type 0
NuIsGreatest =
    (l : System) (scope : Scope) (name : List ℕ) (f : Formula) (tests : List ℕ → ℕ → Bool) → IsSystem l → IsBody scope name f
    → ((s : ℕ) → s < l.states → body l f (told_by_tests tests) name (mean l (Nu name f) (told_by_tests tests)) s ↔ mean l (Nu name f) (told_by_tests tests) s)
    × ((U : ℕ → Bool) → ((s : ℕ) → s < l.states → IsTrue (U s) → body l f (told_by_tests tests) name (λ t. IsTrue (U t)) s)
    → (s : ℕ) → s < l.states → IsTrue (U s) → mean l (Nu name f) (told_by_tests tests) s)
