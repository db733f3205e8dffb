-- Progress tables of an arena are sound.
use Rattle.std.proofs.Common.{◌≡◌, ◌≢◌, ℕ, ◌+◌, ◌<◌, ◌≤◌, Bool, true, false, List, [], ◌∷◌, length, map, refl, sym, ap, subst, inl, inr, arith}
use Rattle.std.specs.Prelude.{IsTrue, Contains, Some, slice_get}
use Rattle.game.specs.declared.player.Player.TheVariants.{Even, Odd}
use Rattle.systems.specs.System.{System}
use Rattle.calculus.specs.NormalTree.{Norm, Constant, Junction, Modality, Fixpoint, Variable, size, Shape, shape_at}
use Rattle.calculus.specs.Nodes.{Node}
use Rattle.game.specs.Game.{Game}
use Rattle.game.specs.Arena.{targets, place, owner_of, vertex_of, successors_of, arena}
use Rattle.measures.specs.Measure.{Measure, Top, Counts, Reaches}
use Rattle.measures.specs.Progress.{IsProgress, value_at}
use Rattle.measures.proofs.Lists.{contains_first, contains_later}
use Rattle.laws.specs.Admissible.{IsEach, IsFitting, IsNodes, priority_in}
use Rattle.laws.specs.Laws.{TablesAreSound}
use Rattle.laws.proofs.Lists.{only_in, of_two, in_map, of_map}
use Rattle.laws.proofs.Sat.{nothing}
use Rattle.laws.proofs.Trees.{each_both}
use Rattle.laws.proofs.Descent.{IsDown, everywhere}
use Rattle.laws.proofs.Compared.{over_at, comparison, not_itself, finite, finite_counts, reaches_over_at, even_descends, odd_descends}
use Rattle.laws.proofs.Vertices.{IsPlaced, placed, count_nodes, vertex_is}
use Rattle.laws.proofs.Edges.{or_else_some, of_or_else, in_or_else}
use Rattle.laws.proofs.Spelled.{sets_mean}

first_of : {X : Type 0} (x y : X) → Contains (x ∷ y ∷ []) x
first_of x y = contains_first x (y ∷ [])

second_of : {X : Type 0} (x y : X) → Contains (x ∷ y ∷ []) y
second_of x y = contains_later x y (y ∷ []) (contains_first y [])

-- a list that begins
some_of : {X : Type 0} (xs : List X) (x : X) (rest : List X) → xs ≡ x ∷ rest → 1 ≤ length xs
some_of xs x rest e = let h : length xs ≡ length (x ∷ rest) = ap length e in omega arith

module _ (l : System) (nodes : List Node) (table : List Measure) (is : IsProgress (arena l nodes) table) where
  abbrev game : Game
  game = arena l nodes

  abbrev n : ℕ
  n = length nodes

  abbrev prio : ℕ → ℕ
  prio = priority_in nodes

  -- the value of a state with a node
  abbrev pub val : ℕ → ℕ → Measure
  val s k = value_at table (place n s k)

  -- at most the value of this state with this node
  abbrev IsOver : Bool → ℕ → ℕ → ℕ → ℕ → Type 0
  IsOver strict p u s k = IsTrue (over_at game strict p (value_at table u) (val s k))

  -- the false sink is lost
  lost : IsTrue (over_at game false 0 (value_at table 1) (value_at table 1)) → ⊥
  lost fin =
      let w = even_descends game table is 1 (record { owner = Even; priority = 1; successors = 1 ∷ [] }) refl (omega arith) refl in
      let e : w.0 ≡ 1 = only_in 1 w.0 w.1 in
      not_itself game 1 (value_at table 1) (reaches_over_at game true 1 (value_at table 1) (value_at table 1) refl fin
      (subst (λ u. Reaches game 1 (value_at table u) (value_at table 1)) e w.2))

  module _ (at : ℕ) (shape : Shape) (placed_at : slice_get nodes at ≡ Some (record { shape = shape; priority = prio at })) (s : ℕ) (lt : s < l.states) where
    abbrev IsSome : Type 0
    IsSome = 1 ≤ length (successors_of l n s shape)

    some_edge : IsSome → owner_of shape ≡ Even → (u : ℕ) × Contains (successors_of l n s shape) u × Reaches game (prio at) (value_at table u) (val s at)
    some_edge some even =
        even_descends game table is (place n s at) (vertex_of l n s (record { shape = shape; priority = prio at }))
        (vertex_is l nodes s at (record { shape = shape; priority = prio at }) lt placed_at) some even

    each_edge : IsSome → owner_of shape ≡ Odd → (u : ℕ) → Contains (successors_of l n s shape) u → Reaches game (prio at) (value_at table u) (val s at)
    each_edge some odd =
        odd_descends game table is (place n s at) (vertex_of l n s (record { shape = shape; priority = prio at }))
        (vertex_is l nodes s at (record { shape = shape; priority = prio at }) lt placed_at) some odd

    -- the only successor
    one_edge : (u : ℕ) → successors_of l n s shape ≡ u ∷ [] → owner_of shape ≡ Even → Reaches game (prio at) (value_at table u) (val s at)
    one_edge u one even =
        let w = some_edge (some_of (successors_of l n s shape) u [] one) even in
        subst (λ x. Reaches game (prio at) (value_at table x) (val s at)) (only_in u w.0 (subst (λ us. Contains us w.0) one w.1)) w.2

  -- at what is no binder
  plain : (at u s : ℕ) → prio at ≡ 0 → IsOver false 0 (place n s at) s at → Reaches game (prio at) (value_at table u) (val s at) → IsOver false 0 u s at
  plain at u s e fin h = reaches_over_at game false 0 (value_at table u) (val s at) refl fin (subst (λ p. Reaches game p (value_at table u) (val s at)) e h)

  -- the value descends at a part
  abbrev pub Down : ℕ → Norm → Type 0
  Down = IsDown l prio Measure (comparison game) val

  not_lost : (at u s : ℕ) → u ≡ 1 → IsOver false 0 u s at → ⊥
  not_lost at u s e h = lost (finite game false 0 (value_at table 1) (val s at) (subst (λ x. IsOver false 0 x s at) e h))

  part_down : (at : ℕ) (f : Norm) → IsPlaced nodes at f → IsFitting prio at f → Down at f
  part_down at (Constant true) stands fits = λ s lt fin. refl
  part_down at (Constant false) stands fits = λ s lt fin.
      absurd (not_lost at 1 s refl (plain at 1 s fits fin (one_edge at (shape_at at (Constant false)) stands s lt 1 refl refl)))
  part_down at (Junction true f g) stands fits = λ s lt fin.
      let w = some_edge at (shape_at at (Junction true f g)) stands s lt (omega arith) refl in
      let h = plain at w.0 s fits fin w.2 in
      elim (of_two (place n s (at + 1)) (place n s (at + 1 + size f)) w.0 w.1) [
        | inl e ↦ inl (subst (λ u. IsOver false 0 u s at) e h)
        | inr e ↦ inr (subst (λ u. IsOver false 0 u s at) e h)
      ]
  part_down at (Junction false f g) stands fits = λ s lt fin.
      let left : ℕ = place n s (at + 1) in
      let right : ℕ = place n s (at + 1 + size f) in
      let each = each_edge at (shape_at at (Junction false f g)) stands s lt (omega arith) refl in
      (plain at left s fits fin (each left (first_of left right)), plain at right s fits fin (each right (second_of left right)))
  part_down at (Modality true a f) stands fits = λ s lt fin.
      let some = or_else_some (map (λ t. place n t (at + 1)) (targets l a s)) 1 in
      let w = some_edge at (shape_at at (Modality true a f)) stands s lt
      (some_of (successors_of l n s (shape_at at (Modality true a f))) some.0 some.1 some.2) refl in
      let h = plain at w.0 s fits fin w.2 in
      elim (of_or_else (map (λ t. place n t (at + 1)) (targets l a s)) 1 w.0 w.1) [
        | inl e ↦ absurd (not_lost at w.0 s e h)
        | inr k ↦ (let m = of_map (λ t. place n t (at + 1)) (targets l a s) w.0 k in (m.0, m.1, subst (λ u. IsOver false 0 u s at) (sym m.2) h))
      ]
  part_down at (Modality false a f) stands fits = λ s lt fin.
      let some = or_else_some (map (λ t. place n t (at + 1)) (targets l a s)) 0 in
      let each = each_edge at (shape_at at (Modality false a f)) stands s lt
      (some_of (successors_of l n s (shape_at at (Modality false a f))) some.0 some.1 some.2) refl in
      λ t into. plain at (place n t (at + 1)) s fits fin
      (each (place n t (at + 1)) (in_or_else (map (λ t. place n t (at + 1)) (targets l a s)) 0 (place n t (at + 1))
      (in_map (λ t. place n t (at + 1)) (targets l a s) t into)))
  part_down at (Fixpoint flag f) stands fits = λ s lt fin.
      reaches_over_at game flag (prio at) (val s (at + 1)) (val s at) fits.0 fin
      (one_edge at (shape_at at (Fixpoint flag f)) stands s lt (place n s (at + 1)) refl refl)
  part_down at (Variable b) stands fits = λ s lt fin. plain at (place n s b) s fits fin
      (one_edge at (shape_at at (Variable b)) stands s lt (place n s b) refl refl)

  -- the values of a progress table descend at each part
  pub down : (f : Norm) → IsNodes f nodes → IsEach Down 0 f
  down f ok = each_both (IsPlaced nodes) (IsFitting prio) Down 0 f part_down (placed f nodes ok) ok.admissible

-- where they descend, a state whose value is finite belongs to the set of the node
pub tables_are_sound : TablesAreSound
tables_are_sound l f nodes table ok are is s k lt within not_top =
    let count = count_nodes f nodes are in
    (sets_mean l f ok s k lt (omega arith)).1
    (everywhere l (priority_in nodes) Measure (comparison (arena l nodes)) (val l nodes table is) f 0 (down l nodes table is f are) are.admissible nothing
    (λ b free t tl fin. absurd (are.closed b free)) s k lt (record { from = omega arith; to = omega arith })
    (counted (value_at table (place (length nodes) s k)) not_top))
  where
    counted : (m : Measure) → m ≢ Top → IsTrue (over_at (arena l nodes) false 0 m m)
    counted Top no_top = absurd (no_top refl)
    counted (Counts c) no_top = finite_counts (arena l nodes) c
