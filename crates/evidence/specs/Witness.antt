-- A part of a system in which evidence is still good.
use Rattle.std.specs.Prelude.{◌≡◌, ℕ, ◌+◌, ◌<◌, ◌↔◌, Bool, true, false, not, ◌&&◌, ◌||◌, ◌==◌, List, [], ◌∷◌, length, IsTrue, Contains, Option, Some, None}
use Rattle.std.specs.Prelude.{slice_get, filter, if◌then◌else◌}
use Rattle.std.specs.List.{list_any, range_with_len}
use Rattle.systems.specs.System.{Arrow, System}
use Rattle.systems.specs.Path.{IsPath}
use Rattle.calculus.specs.Holds.{holds}
use Rattle.calculus.specs.NormalTree.{Shape, ModalityNode}
use Rattle.calculus.specs.Nodes.{Node}
use Rattle.game.specs.declared.player.Player.{Player}
use Rattle.game.specs.declared.player.Player.TheVariants.{Even, Odd}
use Rattle.game.specs.Arena.{arena, is_step, owner_of, place}
use Rattle.game.specs.Game.{Game, Vertex, vertex}
use Rattle.evidence.specs.Evidence.{Entry, Evidence, GoesTo, entry_at, has}

-- some of the arrows of l, and all else as it is
pub record IsPartOf (l part : System) : Type 0 where
  pub states : part.states ≡ l.states
  pub initial : part.initial ≡ l.initial
  pub arrows : (a : Arrow) → Contains part.arrows a → Contains l.arrows a

-- an edge that the play may take from u
abbrev pub Goes : Game → Evidence → ℕ → ℕ → Type 0
Goes g e u t = (x : Entry) × (v : Vertex) × (entry_at e u ≡ Some x) × (vertex g u ≡ Some v) × GoesTo e.player v x t

-- the vertices that are reached from u
abbrev pub AreReached : Game → Evidence → ℕ → (ℕ → Bool) → Type 0
AreReached g e u set = (t : ℕ) → IsTrue (set t) ↔ ((others : List ℕ) × IsPath (Goes g e) u others t)

-- vertices of the evidence that the play doesn't leave
pub record IsClosedFor (g : Game) (e : Evidence) (set : ℕ → Bool) : Type 0 where
  pub inside : (u : ℕ) → IsTrue (set u) → IsTrue (has e u)
  pub stays : (u t : ℕ) → IsTrue (set u) → Goes g e u t → IsTrue (set t)

-- Where the play goes on from a modality to the vertex u by a step of l, the part has a step for it too.
abbrev pub KeepsStep : System → System → ℕ → ℕ → Shape → ℕ → Type 0
KeepsStep l part nodes s (ModalityNode flag a child) u = (t : ℕ) → u ≡ place nodes t child → IsTrue (is_step l a s t) → IsTrue (is_step part a s t)
KeepsStep l part nodes s _ u = Unit {0}

-- It does so at each state with each node in the set: one step for each move of the player, and all those of the opponent.
abbrev pub Keeps : System → System → List Node → Evidence → (ℕ → Bool) → Type 0
Keeps l part nodes e set =
    (s k : ℕ) (node : Node) (u : ℕ) → s < l.states → slice_get nodes k ≡ Some node → IsTrue (set (place (length nodes) s k))
    → Goes (arena l nodes) e (place (length nodes) s k) u
    → KeepsStep l part (length nodes) s node.shape u

abbrev pub cut_from : (ℕ → Bool) → ℕ → List (Option Entry) → List (Option Entry)
cut_from set v [] = []
cut_from set v (x ∷ xs) = (if set v then x else None) ∷ cut_from set (v + 1) xs

-- the evidence cut to a set
abbrev pub cut_to : (ℕ → Bool) → Evidence → Evidence
cut_to set e = record { player = e.player; entries = cut_from set 0 e.entries }

-- the arrows of l that pass a test, and all else as it is
abbrev pub filtered_system : (Arrow → Bool) → System → System
filtered_system p l = record { states = l.states; initial = l.initial; arrows = filter p l.arrows }

-- Where the play goes on from a modality to the vertex u, the part has each arrow of l that leads there.
abbrev pub HasArrows : System → System → ℕ → ℕ → Shape → ℕ → Type 0
HasArrows l part nodes s (ModalityNode flag a child) u =
    (arrow : Arrow) → Contains l.arrows arrow → arrow.source ≡ s → u ≡ place nodes arrow.target child → IsTrue (holds a arrow.label)
    → Contains part.arrows arrow
HasArrows l part nodes s _ u = Unit {0}

-- It does so at each state with each node in the set: the arrows to the player's moves, and all those that pass at the opponent's vertices.
abbrev pub HasAllArrows : System → System → List Node → Evidence → (ℕ → Bool) → Type 0
HasAllArrows l part nodes e set =
    (s k : ℕ) (node : Node) (u : ℕ) → s < l.states → slice_get nodes k ≡ Some node → IsTrue (set (place (length nodes) s k))
    → Goes (arena l nodes) e (place (length nodes) s k) u
    → HasArrows l part (length nodes) s node.shape u

-- ------------------------------------------------------------------ one such part

abbrev pub is_one_player : Player → Player → Bool
is_one_player Even Even = true
is_one_player Even Odd = false
is_one_player Odd Even = false
is_one_player Odd Odd = true

abbrev pub is_move : Option ℕ → ℕ → Bool
is_move None t = false
is_move (Some u) t = u == t

abbrev pub moves_to : Option Entry → ℕ → Bool
moves_to None t = false
moves_to (Some x) t = is_move x.move t

-- The play takes the arrow from the node of this number: the node is a modality and stands in the set with the arrow's source, its action formula holds of
-- the label, and if it is the player's, the arrow leads to the move.
abbrev pub is_taken : ℕ → Evidence → (ℕ → Bool) → Arrow → ℕ → Shape → Bool
is_taken nodes e set arrow k (ModalityNode flag a child) =
    set (place nodes arrow.source k) && holds a arrow.label
    && (not (is_one_player (owner_of (ModalityNode flag a child)) e.player) || moves_to (entry_at e (place nodes arrow.source k)) (place nodes arrow.target child))
is_taken nodes e set arrow k _ = false

abbrev pub is_taken_at : ℕ → Evidence → (ℕ → Bool) → Arrow → ℕ → Option Node → Bool
is_taken_at nodes e set arrow k None = false
is_taken_at nodes e set arrow k (Some node) = is_taken nodes e set arrow k node.shape

-- the part that has the arrows that the play takes in the set, and no others
abbrev pub witness : System → List Node → Evidence → (ℕ → Bool) → System
witness l nodes e set = filtered_system (λ arrow. list_any (λ k. is_taken_at (length nodes) e set arrow k (slice_get nodes k)) (range_with_len 0 (length nodes))) l
