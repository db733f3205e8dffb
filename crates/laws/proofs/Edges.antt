-- Where the edges of an arena lead, Even choosing.
use Rattle.std.proofs.Common.{◌≡◌, ℕ, ◌⊎◌, true, false, List, [], ◌∷◌, map, refl, sym, ap, inl, inr, arith, true≢false}
use Rattle.std.specs.Prelude.{Contains, ◌≢◌}
use Rattle.systems.specs.System.{System}
use Rattle.calculus.specs.NormalTree.{Shape, ConstantNode, JunctionNode, ModalityNode, FixpointNode, VariableNode}
use Rattle.game.specs.declared.player.Player.TheVariants.{Even, Odd}
use Rattle.game.specs.Arena.{targets, place, or_else, owner_of, successors_of}
use Rattle.measures.proofs.Lists.{contains_none}
use Rattle.laws.proofs.Lists.{only_in, of_two, in_map, of_map}
use Rattle.laws.proofs.Moves.{IsNext, Moves, IsChoice}

-- a list or else one vertex has some
pub or_else_some : (xs : List ℕ) (v : ℕ) → (t : ℕ) × (ts : List ℕ) × (or_else xs v ≡ t ∷ ts)
or_else_some [] v = (v, [], refl)
or_else_some (x ∷ xs) v = (x, xs, refl)

-- what it has
pub of_or_else : (xs : List ℕ) (v u : ℕ) → Contains (or_else xs v) u → (u ≡ v) ⊎ Contains xs u
of_or_else [] v u h = inl (only_in v u h)
of_or_else (x ∷ xs) v u h = inr h

-- it has what the list has
pub in_or_else : (xs : List ℕ) (v u : ℕ) → Contains xs u → Contains (or_else xs v) u
in_or_else [] v u h = absurd (contains_none u h)
in_or_else (x ∷ xs) v u h = h

-- the vertex that Even chooses at a vertex of this shape
abbrev pub to_vertex : ℕ → Shape → ℕ → ℕ → ℕ
to_vertex n (ConstantNode flag) c s = 0
to_vertex n (JunctionNode flag a b) c s = place n s c
to_vertex n (ModalityNode flag act child) c s = place n c child
to_vertex n (FixpointNode flag child) c s = place n s child
to_vertex n (VariableNode b) c s = place n s b

odd_even : {X : Type 0} → Odd ≡ Even → X
odd_even e = cc

at_head : (x y : ℕ) (xs : List ℕ) → y ≡ x → Contains (x ∷ xs) y
at_head x y xs e = (0, omega arith, sym e)

at_second : (x y z : ℕ) → z ≡ y → Contains (x ∷ y ∷ []) z
at_second x y z e = (1, omega arith, sym e)

-- at a right choice Even's vertex is a successor
pub own_of : (l : System) (n : ℕ) (sh : Shape) (c s : ℕ) → IsChoice l sh c s → owner_of sh ≡ Even → Contains (successors_of l n s sh) (to_vertex n sh c s)
own_of l n (ConstantNode true) c s x o = at_head 0 0 [] refl
own_of l n (ConstantNode false) c s x o = absurd (true≢false (sym x))
own_of l n (JunctionNode false a b) c s x o = odd_even o
own_of l n (JunctionNode true a b) c s (inl e) o = at_head (place n s a) (place n s c) (place n s b ∷ []) (ap (place n s) e)
own_of l n (JunctionNode true a b) c s (inr e) o = at_second (place n s a) (place n s b) (place n s c) (ap (place n s) e)
own_of l n (ModalityNode true act child) c s x o = in_or_else (map (λ t. place n t child) (targets l act s)) 1 (place n c child)
    (in_map (λ t. place n t child) (targets l act s) c x)
own_of l n (ModalityNode false act child) c s x o = odd_even o
own_of l n (FixpointNode flag child) c s x o = at_head (place n s child) (place n s child) [] refl
own_of l n (VariableNode b) c s x o = at_head (place n s b) (place n s b) [] refl

-- where a move leads, as a vertex
pub record IsLed (l : System) (n : ℕ) (sh : Shape) (c s t : ℕ) : Type 0 where
  pub state : ℕ
  pub node : ℕ
  pub is : t ≡ place n state node
  pub next : IsNext sh node
  pub moves : Moves l sh c s state node

-- an edge at a vertex of this shape leads to the true sink, or as a move does
pub led : (l : System) (n : ℕ) (sh : Shape) (c s t : ℕ) → IsChoice l sh c s → ((owner_of sh ≡ Even) × (t ≡ to_vertex n sh c s))
    ⊎ ((owner_of sh ≢ Even) × Contains (successors_of l n s sh) t)
    → (t ≡ 0) ⊎ IsLed l n sh c s t
led l n (ConstantNode flag) c s t x (inl o) = inl o.1
led l n (ConstantNode flag) c s t x (inr o) = absurd (o.0 refl)
led l n (JunctionNode false a b) c s t x (inl o) = odd_even o.0
led l n (JunctionNode false a b) c s t x (inr o) = elim (of_two (place n s a) (place n s b) t o.1) [
  | inl e ↦ inr (record { state = s; node = a; is = e; next = inl refl; moves = (refl, tt) })
  | inr e ↦ inr (record { state = s; node = b; is = e; next = inr refl; moves = (refl, tt) })
]
led l n (JunctionNode true a b) c s t x (inl o) = inr (record { state = s; node = c; is = o.1; next = x; moves = (refl, refl) })
led l n (JunctionNode true a b) c s t x (inr o) = absurd (o.0 refl)
led l n (ModalityNode true act child) c s t x (inl o) = inr (record { state = c; node = child; is = o.1; next = refl; moves = (x, refl) })
led l n (ModalityNode true act child) c s t x (inr o) = absurd (o.0 refl)
led l n (ModalityNode false act child) c s t x (inl o) = odd_even o.0
led l n (ModalityNode false act child) c s t x (inr o) = elim (of_or_else (map (λ t. place n t child) (targets l act s)) 0 t o.1) [
  | inl e ↦ inl e
  | inr i ↦ (let m = of_map (λ t. place n t child) (targets l act s) t i
      in inr (record { state = m.0; node = child; is = sym m.2; next = refl; moves = (m.1, tt) }))
]
led l n (FixpointNode flag child) c s t x (inl o) = inr (record { state = s; node = child; is = o.1; next = refl; moves = refl })
led l n (FixpointNode flag child) c s t x (inr o) = absurd (o.0 refl)
led l n (VariableNode b) c s t x (inl o) = inr (record { state = s; node = b; is = o.1; next = refl; moves = refl })
led l n (VariableNode b) c s t x (inr o) = absurd (o.0 refl)
