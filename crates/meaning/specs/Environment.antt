-- What a environment says.
use Rattle.std.specs.Prelude.{◌≡◌, ℕ, length}
use Rattle.calculus.specs.Meaning.{Env, no_sets, with_set, marked}
use Rattle.meaning.specs.declared.environment.Environment.{Environment}
use Rattle.meaning.specs.declared.environment.Environment.TheVariants.{Empty, More'}

abbrev pub sets_of : Environment → Env
sets_of Empty = no_sets
sets_of (More' name marks p outer) = with_set (sets_of outer) name.now.items (marked marks.now)

-- each set has one mark for each of n states
abbrev pub FitsEnvironment : ℕ → Environment → Type 0
FitsEnvironment n Empty = Unit {0}
FitsEnvironment n (More' name marks p outer) = (length marks.now ≡ n) × FitsEnvironment n outer
