-- The part of a system on which the answer for its initial state rests.
use Rattle.std.specs.Prelude.{◌≡◌, ℕ, ◌↔◌, ◌⊎◌, Bool, List, length, IsTrue}
use Rattle.systems.specs.System.{System, IsSystem}
use Rattle.calculus.specs.Tree.{Formula}
use Rattle.calculus.specs.Meaning.{Satisfies}
use Rattle.calculus.specs.Nodes.{Node}
use Rattle.game.specs.Arena.{arena, place}
use Rattle.game.specs.Game.{Game}
use Rattle.evidence.specs.Best.{IsEvenOf, IsOddOf}
use Rattle.evidence.specs.Evidence.{Evidence, IsEvidence, IsGood, has}
use Rattle.evidence.specs.Witness.{Goes, IsPartOf, AreReached, witness}

-- All states of the system and some of its arrows: where the formula holds at the initial state, these make it hold, and where it doesn't, these refute it.
pub record IsWitness (l : System) (f : Formula) (part : System) : Type 0 where
  pub system : IsSystem part
  pub some : IsPartOf l part
  pub same : Satisfies part f part.initial ↔ Satisfies l f l.initial

-- the vertex of the initial state with the root
abbrev pub root_of : System → List Node → ℕ
root_of l nodes = place (length nodes) l.initial 0

-- The part has the arrows that the play takes from the root, and no others.
abbrev pub HasTaken : System → List Node → Evidence → System → Type 0
HasTaken l nodes e part = (set : ℕ → Bool) × AreReached (arena l nodes) e (root_of l nodes) set × (part ≡ witness l nodes e set)

-- From the vertex the play goes one way at most.
abbrev pub GoesOneWayFrom : Game → Evidence → ℕ → Type 0
GoesOneWayFrom g e u = (s t : ℕ) → Goes g e u s → Goes g e u t → s ≡ t

abbrev pub GoesOneWay : Game → Evidence → Type 0
GoesOneWay g e = (u : ℕ) → GoesOneWayFrom g e u

-- Good evidence that has the vertex of the initial state with the root: its player has the answer there. Its play goes one way from each vertex, or it is
-- the evidence of the least progress tables, Even's or Odd's, of which there is one each.
pub record IsWinners (l : System) (nodes : List Node) (e : Evidence) : Type 0 where
  pub evidence : IsEvidence (arena l nodes) e
  pub good : IsGood (arena l nodes) e
  pub root : IsTrue (has e (root_of l nodes))
  pub kind : GoesOneWay (arena l nodes) e ⊎ (IsEvenOf (arena l nodes) e ⊎ IsOddOf (arena l nodes) e)

-- The part has just the arrows that the play takes from the initial state by the winner's evidence, and it is a witness.
pub record IsShown (l : System) (f : Formula) (nodes : List Node) (part : System) : Type 0 where
  pub evidence : Evidence
  pub winners : IsWinners l nodes evidence
  pub taken : HasTaken l nodes evidence part
  pub witness : IsWitness l f part
