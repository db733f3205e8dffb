-- The vertices of a system with a normal form.
use Rattle.game.proofs.Common.{◌≡◌, ◌+◌, ◌-◌, ◌*◌, ◌≤◌, ◌<◌, ℕ, zero, suc, Bool, true, false, List, [], ◌∷◌, ◌++◌, Option, Some, None, length, map, filter}
use Rattle.game.proofs.Common.{take, get_or, cond, refl, sym, ap, ◌∙◌, subst, arith, length-append, append_assoc, slice_get, option_map, AllByRecursion}
use Rattle.game.proofs.Common.{range_with_len, length-map, map-append, take_more, append-nil, mul-add-lt, slice_get-map, slice_get_read, slice_get_within}
use Rattle.game.proofs.Common.{get_or_from_slice_get, Shape, ConstantNode, JunctionNode, ModalityNode, FixpointNode, VariableNode, Node, node_of, nodes_of}
use Rattle.game.proofs.Common.{IsShape, IsNode, IsForm, System, Vertex, IsVertex, IsAscending, IsGame, is_step, targets, place, or_else, sink, successors_of}
use Rattle.game.proofs.Common.{vertex_of, rows, arena, Even}
use Rattle.std.proofs.lemmas.List.FromFn.{length-range_with_len}
use Rattle.std.proofs.Math.Nat.{mul-le-mul_left, mul-le-mul_right}
use Rattle.calculus.specs.declared.node as declared
use Rattle.std.specs.Prelude.{max}
use Rattle.game.specs.Game.{greatest, greatest_of}
use Rattle.game.proofs.Rows.{all_append}
use Rattle.game.proofs.Steps.{Rising}

-- One node more is one vertex more.
pub vertices_more : {X Y : Type 0} (f : X → Y) (xs : List X) (i : ℕ) (x : X) (y : Y) (base old new : List Y) → slice_get xs i ≡ Some x
    → old ≡ base ++ map f (take i xs) → new ≡ old ++ y ∷ [] → y ≡ f x → new ≡ base ++ map f (take (i + 1) xs)
vertices_more f xs i x y base old new is before push same =
    let cut : take (i + 1) xs ≡ take i xs ++ x ∷ [] = take_more xs i x (slice_get_within xs i x is)
    ∙ ap (λ z. take i xs ++ z ∷ []) (get_or_from_slice_get xs i x x is) in
    push
    ∙ ((λ j. before j ++ same j ∷ [])
    ∙ (append_assoc base (map f (take i xs)) (f x ∷ []) ∙ ap (λ zs. base ++ zs) (sym (map-append f (take i xs) (x ∷ [])) ∙ ap (map f) (sym cut))))

pub range_more : (a n : ℕ) → range_with_len a (n + 1) ≡ range_with_len a n ++ (a + n) ∷ []
range_more a zero = let e : a ≡ a + 0 = omega arith in (λ i. e i ∷ [])
range_more a (suc n) =
    let e : suc n + 1 ≡ suc (n + 1) = omega arith in
    let last : a + 1 + n ≡ a + suc n = omega arith in
    ap (range_with_len a) e ∙ (ap (λ xs. a ∷ xs) (range_more (a + 1) n) ∙ (λ i. a ∷ (range_with_len (a + 1) n ++ last i ∷ [])))

pub rows_append : (l : System) (nodes : List Node) (xs ys : List ℕ) → rows l nodes (xs ++ ys) ≡ rows l nodes xs ++ rows l nodes ys
rows_append l nodes [] ys = refl
rows_append l nodes (s ∷ xs) ys = ap (λ vs. map (vertex_of l (length nodes) s) nodes ++ vs) (rows_append l nodes xs ys)
    ∙ sym (append_assoc (map (vertex_of l (length nodes) s) nodes) (rows l nodes xs) (rows l nodes ys))

-- One state more.
pub rows_more : (l : System) (nodes : List Node) (a s : ℕ) (base old new : List Vertex) → a ≤ s → old ≡ base ++ rows l nodes (range_with_len a (s - a))
    → new ≡ old ++ map (vertex_of l (length nodes) s) nodes
    → new ≡ base ++ rows l nodes (range_with_len a (s + 1 - a))
rows_more l nodes a s base old new from before push =
    let n : ℕ = s - a in
    let vs = map (vertex_of l (length nodes) s) nodes in
    let here : a + n ≡ s = omega arith in
    let size : s + 1 - a ≡ n + 1 = omega arith in
    let last : rows l nodes (range_with_len a (s + 1 - a)) ≡ rows l nodes (range_with_len a n) ++ vs =
    (λ i. rows l nodes (range_with_len a (size i)))
    ∙ (ap (rows l nodes) (range_more a n)
    ∙ (rows_append l nodes (range_with_len a n) ((a + n) ∷ [])
    ∙ ap (λ xs. rows l nodes (range_with_len a n) ++ xs)
    (append-nil (map (vertex_of l (length nodes) (a + n)) nodes) ∙ (λ i. map (vertex_of l (length nodes) (here i)) nodes))))
    in
    push ∙ (ap (λ xs. xs ++ vs) before ∙ (append_assoc base (rows l nodes (range_with_len a n)) vs ∙ ap (λ xs. base ++ xs) (sym last)))

rows_length : (l : System) (nodes : List Node) (xs : List ℕ) → length (rows l nodes xs) ≡ length xs * length nodes
rows_length l nodes [] = omega arith
rows_length l nodes (s ∷ xs) = omega (
  arith,
  length-append (map (vertex_of l (length nodes) s) nodes) (rows l nodes xs),
  length-map nodes (vertex_of l (length nodes) s),
  rows_length l nodes xs,
)

-- how many vertices there are after so many states
pub rows_count : (l : System) (nodes : List Node) (s : ℕ) → length (rows l nodes (range_with_len 0 s)) ≡ s * length nodes
rows_count l nodes s = rows_length l nodes (range_with_len 0 s) ∙ ap (λ n. n * length nodes) (length-range_with_len 0 s)

-- there is room for one state more
pub rows_fit : (l : System) (nodes : List Node) (a s end : ℕ) (base old : List Vertex) → old ≡ base ++ rows l nodes (range_with_len a (s - a)) → a ≤ s
    → s < end → length base + (end - a) * length nodes ≤ 16777216 → length old + length nodes ≤ 16777216
rows_fit l nodes a s end base old is from below few =
    let n : ℕ = s - a in
    let le : n + 1 ≤ end - a = omega arith in
    let count : length (rows l nodes (range_with_len a n)) ≡ n * length nodes = rows_length l nodes (range_with_len a n)
    ∙ ap (λ k. k * length nodes) (length-range_with_len a n) in
    omega (arith, ap length is, length-append base (rows l nodes (range_with_len a n)), count, few, mul-le-mul_right (length nodes) le)

rising_weaker : (a b limit : ℕ) (xs : List ℕ) → a ≤ b → Rising b limit xs → Rising a limit xs
rising_weaker a b limit [] le h = tt
rising_weaker a b limit (x ∷ xs) le h = (omega (arith, h.0, le), h.1, h.2)

rising_below : (a limit : ℕ) (xs : List ℕ) → Rising a limit xs → AllByRecursion (λ t. t < limit) xs
rising_below a limit [] h = tt
rising_below a limit (x ∷ xs) h = (h.1, rising_below (x + 1) limit xs h.2)

rising_ascending : (a limit : ℕ) (xs : List ℕ) → Rising a limit xs → IsAscending xs
rising_ascending a limit [] h = tt
rising_ascending a limit (x ∷ []) h = tt
rising_ascending a limit (x ∷ y ∷ xs) h = (omega (arith, h.2.0), rising_ascending (x + 1) limit (y ∷ xs) h.2)

rising_filter : (f : ℕ → Bool) (a m n : ℕ) → a + m ≡ n → Rising a n (filter f (range_with_len a m))
rising_filter f a zero n size = tt
rising_filter f a (suc m) n size =
    let rest = rising_filter f (a + 1) m n (omega (arith, size)) in
    elim (f a) as (λ b. Rising a n (cond b (a ∷ filter f (range_with_len (a + 1) m)) (filter f (range_with_len (a + 1) m)))) [
      | true ↦ (omega arith, omega (arith, size), rest)
      | false ↦ rising_weaker a (a + 1) n (filter f (range_with_len (a + 1) m)) (omega arith) rest
    ]

place_below : (n s k states : ℕ) → s < states → k < n → place n s k < 2 + states * n
place_below n s k states below in_node = omega (arith, mul-add-lt s n k states below in_node)

rising_places : (n k a states : ℕ) (xs : List ℕ) → k < n → Rising a states xs → Rising (2 + a * n) (2 + states * n) (map (λ t. place n t k) xs)
rising_places n k a states [] in_node h = tt
rising_places n k a states (x ∷ xs) in_node h = (
  omega (arith, mul-le-mul_left n h.0),
  place_below n x k states h.1 in_node,
  rising_weaker (place n x k + 1) (2 + (x + 1) * n) (2 + states * n) (map (λ t. place n t k) xs) (omega (arith, in_node))
      (rising_places n k (x + 1) states xs in_node h.2),
)

-- what is asked of successors
record AreSuccessors (n : ℕ) (xs : List ℕ) : Type 0 where
  some : 1 ≤ length xs
  ascending : IsAscending xs
  within : AllByRecursion (λ t. t < n) xs

one_successor : (n v : ℕ) → v < n → AreSuccessors n (v ∷ [])
one_successor n v h = record { some = omega arith; ascending = tt; within = (h, tt) }

or_else_successors : (n v : ℕ) (a : ℕ) (xs : List ℕ) → v < n → Rising a n xs → AreSuccessors n (or_else xs v)
or_else_successors n v a [] h r = one_successor n v h
or_else_successors n v a (x ∷ xs) h r = record { some = omega arith; ascending = rising_ascending a n (x ∷ xs) r; within = rising_below a n (x ∷ xs) r }

two_below : (flag : Bool) (states n : ℕ) → cond flag 0 1 < 2 + states * n
two_below true states n = omega arith
two_below false states n = omega arith

other_below : (flag : Bool) (states n : ℕ) → cond flag 1 0 < 2 + states * n
other_below true states n = omega arith
other_below false states n = omega arith

successors_are : (l : System) (n s : ℕ) (shape : Shape) → s < l.states → IsShape n shape → AreSuccessors (2 + l.states * n) (successors_of l n s shape)
successors_are l n s (ConstantNode flag) below h = one_successor (2 + l.states * n) (sink flag) (two_below flag l.states n)
successors_are l n s (JunctionNode flag left right) below h =
    let last = place_below n s right l.states below h.1 in
    record { some = omega arith; ascending = (omega (arith, h.0), tt); within = (omega (arith, h.0, last), (last, tt)) }
successors_are l n s (ModalityNode flag a child) below h =
    or_else_successors (2 + l.states * n) (cond flag 1 0) (2 + 0 * n) (map (λ t. place n t child) (targets l a s)) (other_below flag l.states n)
    (rising_places n child 0 l.states (targets l a s) h (rising_filter (is_step l a s) 0 l.states l.states (omega arith)))
successors_are l n s (FixpointNode flag child) below h = one_successor (2 + l.states * n) (place n s child) (place_below n s child l.states below h)
successors_are l n s (VariableNode binder) below h = one_successor (2 + l.states * n) (place n s binder) (place_below n s binder l.states below h)

vertex_good : (l : System) (n s : ℕ) (node : Node) → s < l.states → IsNode n node → IsVertex (2 + l.states * n) (vertex_of l n s node)
vertex_good l n s node below h =
    let all = successors_are l n s node.shape below h.1 in
    record { priority = omega (arith, h.0); some = all.some; ascending = all.ascending; within = all.within }

state_good : (l : System) (n s : ℕ) (nodes : List Node) → s < l.states → AllByRecursion (IsNode n) nodes
    → AllByRecursion (IsVertex (2 + l.states * n)) (map (vertex_of l n s) nodes)
state_good l n s [] below h = tt
state_good l n s (node ∷ nodes) below h = (vertex_good l n s node below h.0, state_good l n s nodes below h.1)

rows_good : (l : System) (nodes : List Node) (xs : List ℕ) → AllByRecursion (IsNode (length nodes)) nodes → AllByRecursion (λ s. s < l.states) xs
    → AllByRecursion (IsVertex (2 + l.states * length nodes)) (rows l nodes xs)
rows_good l nodes [] h below = tt
rows_good l nodes (s ∷ xs) h below =
    all_append (IsVertex (2 + l.states * length nodes)) (map (vertex_of l (length nodes) s) nodes) (rows l nodes xs)
    (state_good l (length nodes) s nodes below.0 h) (rows_good l nodes xs h below.1)

range_below : (a m n : ℕ) → a + m ≡ n → AllByRecursion (λ s. s < n) (range_with_len a m)
range_below a zero n size = tt
range_below a (suc m) n size = (omega (arith, size), range_below (a + 1) m n (omega (arith, size)))

abbrev named_count : Option (ℕ × ℕ) → ℕ
named_count None = 0
named_count (Some names) = 2 + names.0 * names.1

-- The arena of a system and the nodes of a normal form is a game, where it has not too many vertices.
pub arena_is_game : (l : System) (nodes : List Node) → IsForm nodes → 2 + l.states * length nodes ≤ 16777216 → IsGame (arena l nodes)
arena_is_game l nodes form few =
    let vs = rows l nodes (range_with_len 0 l.states) in
    let count : length (arena l nodes).vertices ≡ 2 + l.states * length nodes = omega (arith, rows_count l nodes l.states) in
    let first : IsVertex (2 + l.states * length nodes) (record { owner = Even; priority = 0; successors = 0 ∷ [] }) = record {
      priority = omega arith;
      some = omega arith;
      ascending = tt;
      within = (omega arith, tt);
    } in
    let second : IsVertex (2 + l.states * length nodes) (record { owner = Even; priority = 1; successors = 1 ∷ [] }) = record {
      priority = omega arith;
      some = omega arith;
      ascending = tt;
      within = (omega arith, tt);
    } in
    record {
      some = omega (arith, count);
      limit = omega (arith, count, few);
      vertices = subst (λ n. AllByRecursion (IsVertex n) (arena l nodes).vertices) (sym count)
          (first, (second, rows_good l nodes (range_with_len 0 l.states) form.numbered (range_below 0 l.states l.states (omega arith))));
      named = λ states n is. count ∙ ap named_count is;
    }

-- ---- priorities

pub greatest_append : (xs ys : List Vertex) → greatest_of (xs ++ ys) ≡ max (greatest_of xs) (greatest_of ys)
greatest_append [] ys = omega arith
greatest_append (x ∷ xs) ys = let e = greatest_append xs ys in omega arith

state_low : (l : System) (n k s : ℕ) (nodes : List Node) → AllByRecursion (IsNode k) nodes → greatest_of (map (vertex_of l n s) nodes) ≤ 31
state_low l n k s [] h = omega arith
state_low l n k s (node ∷ nodes) h = let low : node.priority ≤ 31 = h.0.0 in let rest = state_low l n k s nodes h.1 in omega arith

rows_low : (l : System) (nodes : List Node) (states : List ℕ) → AllByRecursion (IsNode (length nodes)) nodes → greatest_of (rows l nodes states) ≤ 31
rows_low l nodes [] h = omega arith
rows_low l nodes (s ∷ states) h =
    let first = state_low l (length nodes) (length nodes) s nodes h in
    let rest = rows_low l nodes states h in
    let both = greatest_append (map (vertex_of l (length nodes) s) nodes) (rows l nodes states) in
    omega arith

-- no priority of an arena is above those of a normal form
pub arena_low : (l : System) (nodes : List Node) → IsForm nodes → greatest (arena l nodes) ≤ 31
arena_low l nodes h = let low = rows_low l nodes (range_with_len 0 l.states) h.numbered in omega arith
