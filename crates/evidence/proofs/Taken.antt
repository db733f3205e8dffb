-- The arrows that the play takes are enough.
use Rattle.std.proofs.Common.{◌≡◌, ◌≢◌, ℕ, ◌<◌, Bool, true, false, not, ◌&&◌, ◌||◌, List, length, refl, sym, ap, ◌∙◌, inl, inr, arith}
use Rattle.std.proofs.Common.{IsTrue, Some, None, Option}
use Rattle.std.specs.Prelude.{slice_get}
use Rattle.std.specs.List.{list_any, range_with_len}
use Rattle.std.proofs.lemmas.Option.{slice_get_within}
use Rattle.systems.specs.System.{Arrow, System}
use Rattle.calculus.specs.Holds.{holds}
use Rattle.calculus.specs.NormalTree.{Shape, ConstantNode, JunctionNode, ModalityNode, FixpointNode, VariableNode}
use Rattle.calculus.specs.Nodes.{Node}
use Rattle.game.specs.declared.player.Player.{Player}
use Rattle.game.specs.declared.player.Player.TheVariants.{Even, Odd}
use Rattle.game.specs.Arena.{arena, owner_of, place, vertex_of}
use Rattle.game.specs.Game.{Vertex}
use Rattle.laws.proofs.Flags.{and_true, or_left, or_right, same_true}
use Rattle.laws.proofs.Lists.{gives_any, gives_filter, gives_range}
use Rattle.laws.proofs.Vertices.{vertex_is}
use Rattle.evidence.specs.Evidence.{Entry, Evidence, GoesTo, entry_at}
use Rattle.evidence.specs.Witness.{Goes, HasArrows, HasAllArrows, is_move, is_one_player, is_taken, is_taken_at, moves_to, witness}
use Rattle.evidence.specs.Laws.{WitnessShows}
use Rattle.evidence.proofs.Cutting.{reached_closed}
use Rattle.evidence.proofs.Kept.{arrows_keep_steps, parts_are_systems}
use Rattle.evidence.proofs.Parts.{witness_means}

other_player : (p q : Player) → p ≢ q → is_one_player p q ≡ false
other_player Even Even n = absurd (n refl)
other_player Even Odd n = refl
other_player Odd Even n = refl
other_player Odd Odd n = absurd (n refl)

some_vertex : (a b : Vertex) → Some a ≡ Some b → a ≡ b
some_vertex a b q = cc

moved : (m : Option ℕ) (t : ℕ) → m ≡ Some t → is_move m t ≡ true
moved None t e = absurd cc
moved (Some u) t e = let q : u ≡ t = cc in same_true u t q

moved_to : (o : Option Entry) (x : Entry) (t : ℕ) → o ≡ Some x → x.move ≡ Some t → moves_to o t ≡ true
moved_to None x t h e = absurd cc
moved_to (Some y) x t h e = let q : y ≡ x = cc in moved y.move t (ap (λ (z : Entry). z.move) q ∙ e)

module _ (l : System) (nodes : List Node) (e : Evidence) (set : ℕ → Bool) where
  abbrev n : ℕ
  n = length nodes

  abbrev taken : Arrow → Bool
  taken arrow = list_any (λ k. is_taken_at n e set arrow k (slice_get nodes k)) (range_with_len 0 n)

  at_node : (s k : ℕ) (node : Node) (u : ℕ) → s < l.states → slice_get nodes k ≡ Some node → IsTrue (set (place n s k))
      → Goes (arena l nodes) e (place n s k) u → (sh : Shape) → node.shape ≡ sh
      → HasArrows l (witness l nodes e set) n s sh u
  at_node s k node u h at i go (ConstantNode flag) is = tt
  at_node s k node u h at i go (JunctionNode flag a b) is = tt
  at_node s k node u h at i go (ModalityNode flag a child) is = λ arrow c source leads label. gives_filter taken l.arrows arrow c (
      gives_any (λ j. is_taken_at n e set arrow j (slice_get nodes j)) (range_with_len 0 n) k
      (gives_range 0 n k (omega arith) (let b = slice_get_within nodes k node at in omega arith))
      (ap (is_taken_at n e set arrow k) at ∙ (ap (is_taken n e set arrow k) is ∙ passes arrow source leads label)))
    where
      owner : go.1.owner ≡ owner_of (ModalityNode flag a child)
      owner = ap (λ (v : Vertex). v.owner) (some_vertex go.1 (vertex_of l n s node) (sym go.3 ∙ vertex_is l nodes s k node h at)) ∙ ap owner_of is

      goes : (arrow : Arrow) → arrow.source ≡ s → u ≡ place n arrow.target child → GoesTo e.player go.1 go.0 u
          → (not (is_one_player (owner_of (ModalityNode flag a child)) e.player) || moves_to (entry_at e (place n arrow.source k)) (place n arrow.target child))
          ≡ true
      goes arrow source leads (inl w) =
          or_right (not (is_one_player (owner_of (ModalityNode flag a child)) e.player)) (moves_to (entry_at e (place n arrow.source k)) (place n arrow.target child))
          (moved_to (entry_at e (place n arrow.source k)) go.0 (place n arrow.target child) (ap (λ z. entry_at e (place n z k)) source ∙ go.2)
          (w.1 ∙ ap Some leads))
      goes arrow source leads (inr w) =
          or_left (not (is_one_player (owner_of (ModalityNode flag a child)) e.player)) (moves_to (entry_at e (place n arrow.source k)) (place n arrow.target child))
          (ap not (other_player (owner_of (ModalityNode flag a child)) e.player (λ q. w.0 (owner ∙ q))))

      passes : (arrow : Arrow) → arrow.source ≡ s → u ≡ place n arrow.target child → IsTrue (holds a arrow.label)
          → is_taken n e set arrow k (ModalityNode flag a child) ≡ true
      passes arrow source leads label =
          let mine = not (is_one_player (owner_of (ModalityNode flag a child)) e.player)
          || moves_to (entry_at e (place n arrow.source k)) (place n arrow.target child) in
          let here : set (place n arrow.source k) ≡ true = ap (λ z. set (place n z k)) source ∙ i in
          and_true (set (place n arrow.source k) && holds a arrow.label) mine (and_true (set (place n arrow.source k)) (holds a arrow.label) here label)
          (goes arrow source leads go.4)
  at_node s k node u h at i go (FixpointNode flag a) is = tt
  at_node s k node u h at i go (VariableNode b) is = tt

  pub witness_has : HasAllArrows l (witness l nodes e set) nodes e set
  witness_has s k node u h at i go = at_node s k node u h at i go node.shape refl

pub witness_shows : WitnessShows
witness_shows l f nodes e set system admitted forms evidence good root reached =
    let part = parts_are_systems l (taken l nodes e set) system in
    let closed = reached_closed (arena l nodes) e (place (length nodes) l.initial 0) set good root reached in
    let keeps = arrows_keep_steps l (witness l nodes e set) nodes e set (witness_has l nodes e set) in
    let m = witness_means l (witness l nodes e set) f nodes e set part.1 evidence good closed.1 keeps closed.0 part.0 admitted forms in
    (part.0, m.0, m.1)
