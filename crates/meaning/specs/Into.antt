-- Which states lead into a set of marks.
use Rattle.std.specs.Prelude.{ℕ, Bool, List}
use Rattle.systems.specs.System.{System}
use Rattle.calculus.specs.Tree.{Regular}
use Rattle.calculus.specs.Meaning.{Leads, marked}

-- the regular formula leads from here to a marked state
abbrev pub Into : System → Regular → List Bool → ℕ → Type 0
Into l r marks s = (t : ℕ) × Leads l r s t × marked marks t
