-- What the play takes is a witness.
use Rattle.std.proofs.Common.{◌≡◌, ℕ, ◌↔◌, Bool, List, length, refl, sym, subst, IsTrue}
use Rattle.systems.specs.System.{System, IsSystem}
use Rattle.calculus.specs.Tree.{Formula}
use Rattle.calculus.specs.Admitted.{IsAdmitted}
use Rattle.calculus.specs.Meaning.{Satisfies}
use Rattle.calculus.specs.NormalTree.{Shape, ConstantNode, JunctionNode, ModalityNode, FixpointNode, VariableNode, normal_form}
use Rattle.calculus.specs.Nodes.{Node}
use Rattle.game.specs.declared.player.Player.{Player}
use Rattle.game.specs.declared.player.Player.TheVariants.{Even, Odd}
use Rattle.game.specs.Arena.{arena}
use Rattle.game.specs.Game.{Game}
use Rattle.laws.specs.Admissible.{IsNodes}
use Rattle.evidence.specs.Evidence.{Evidence, IsEvidence, IsGood, has}
use Rattle.evidence.specs.Witness.{IsPartOf, AreReached, Keeps, KeepsStep, witness}
use Rattle.evidence.proofs.Cutting.{reached_closed}
use Rattle.evidence.proofs.Kept.{parts_are_systems}
use Rattle.evidence.proofs.Parts.{witness_means}
use Rattle.evidence.proofs.Taken.{witness_shows}
use Rattle.witness.specs.Taken.{is_taken_by_some}
use Rattle.witness.specs.Witness.{HasTaken, IsWitness, root_of}

-- a system is a part of itself, and keeps its steps
itself : (l : System) → IsPartOf l l
itself l = record { states = refl; initial = refl; arrows = λ a c. c }

keeps_step : (l : System) (n s : ℕ) (sh : Shape) (u : ℕ) → KeepsStep l l n s sh u
keeps_step l n s (ConstantNode flag) u = tt
keeps_step l n s (JunctionNode flag a b) u = tt
keeps_step l n s (ModalityNode flag a child) u = λ t at step. step
keeps_step l n s (FixpointNode flag a) u = tt
keeps_step l n s (VariableNode b) u = tt

keeps_itself : (l : System) (nodes : List Node) (e : Evidence) (set : ℕ → Bool) → Keeps l l nodes e set
keeps_itself l nodes e set = λ s k node u h at i go. keeps_step l (length nodes) s node.shape u

-- both hold, or neither does
both_or_neither : (P Q : Type 0) (p : Player) → (p ≡ Even → P) × (p ≡ Odd → P → ⊥) → (p ≡ Even → Q) × (p ≡ Odd → Q → ⊥) → P ↔ Q
both_or_neither P Q Even h k = (λ _. k.0 refl, λ _. h.0 refl)
both_or_neither P Q Odd h k = (λ x. absurd (h.1 refl x), λ x. absurd (k.1 refl x))

pub is_witness : (l : System) (f : Formula) (nodes : List Node) (e : Evidence) (part : System) → IsSystem l → IsAdmitted f → IsNodes (normal_form f) nodes
    → IsEvidence (arena l nodes) e → IsGood (arena l nodes) e → IsTrue (has e (root_of l nodes)) → HasTaken l nodes e part → IsWitness l f part
is_witness l f nodes e part system admitted forms evidence good root taken =
    let set = taken.0 in
    let shows = witness_shows l f nodes e set system admitted forms evidence good root taken.1 in
    let closed = reached_closed (arena l nodes) e (root_of l nodes) set good root taken.1 in
    let whole = witness_means l l f nodes e set (itself l) evidence good closed.1 (keeps_itself l nodes e set) closed.0 system admitted forms in
    subst (λ m. IsWitness l f m) (sym taken.2) (record {
      system = shows.0;
      some = (parts_are_systems l (is_taken_by_some nodes e set) system).1;
      same = both_or_neither (Satisfies (witness l nodes e set) f l.initial) (Satisfies l f l.initial) e.player (shows.1, shows.2) whole;
    })

-- ------------------------------------------------------------------ by what the program has at hand

pub has_taken : (l : System) (nodes : List Node) (e : Evidence) (g : Game) (root : ℕ) (set : ℕ → Bool) (part : System) → g ≡ arena l nodes
    → root ≡ root_of l nodes
    → AreReached g e root set → part ≡ witness l nodes e set → HasTaken l nodes e part
has_taken l nodes e g root set part same at reached is =
    (set, subst (λ r. AreReached (arena l nodes) e r set) at (subst (λ h. AreReached h e root set) same reached), is)
