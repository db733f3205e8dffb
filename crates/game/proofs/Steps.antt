-- The successors of a modality, found by walking over the transitions of a state by target.
use Rattle.game.proofs.Common.{◌≡◌, ◌==◌, ◌&&◌, ◌||◌, ◌+◌, ◌*◌, ◌-◌, ◌≤◌, ◌<◌, ℕ, zero, suc, Bool, true, false, List, [], ◌∷◌, ◌++◌, length, map, filter}
use Rattle.game.proofs.Common.{get_or, cond, inl, inr, refl, sym, ap, ◌∙◌, subst, arith, eq-eqb, drop, append_assoc, nat_le, Some, slice_get, slice_index_or}
use Rattle.game.proofs.Common.{list_any, AllByRecursion, range_with_len, list_any-IsPermutation, All-permutation, get_or-append_seam, ne_eqb, le-leb, lt-leb}
use Rattle.game.proofs.Common.{leb-true, leb-false, and_parts, and_from, and_cases, and_left, and_right, drop_more, length-map, recursion_from_All}
use Rattle.game.proofs.Common.{All-from_recursion, eqb_tells, mul-add-lt, get_or_from_slice_get, slice_get_within, Arrow, Numbered, arrow_of, arrows_from}
use Rattle.game.proofs.Common.{IsInside, Transition, holds, Shape, ConstantNode, JunctionNode, ModalityNode, FixpointNode, VariableNode, Node, IsForm, IsNode}
use Rattle.game.proofs.Common.{is_step, targets, place, or_else, owner_of, successors_of, vertex_of, IsSetOf, IsSetFor, IsRowOf, is_in, picks, successors_by}
use Rattle.game.proofs.Common.{vertex_by}
use Rattle.std.specs.List.Sorted.{IsNonDecreasingBy, IsPermutation}
use Rattle.std.proofs.Math.ListN.{get_or-append}
use Rattle.calculus.specs.Tree.{Action}

-- numbers that rise from this one on and stay below the limit
abbrev pub Rising : ℕ → ℕ → List ℕ → Type 0
Rising least limit [] = Unit {0}
Rising least limit (x ∷ xs) = (least ≤ x) × (x < limit) × Rising (x + 1) limit xs

pub rising_length : (least limit : ℕ) (xs : List ℕ) → least ≤ limit → Rising least limit xs → least + length xs ≤ limit
rising_length least limit [] le h = omega arith
rising_length least limit (x ∷ xs) le h = omega (arith, h.0, h.1, rising_length (x + 1) limit xs (omega (arith, h.1)) h.2)

pub picks_rising : (p : Transition → Bool) (least limit : ℕ) (row : List Transition) → AllByRecursion (λ t. t.target < limit) row
    → Rising least limit (picks p least row)
picks_rising p least limit [] h = tt
picks_rising p least limit (t ∷ row) h =
    elim (p t && nat_le least t.target) as (λ b. (p t && nat_le least t.target) ≡ b
    → Rising least limit (cond b (t.target ∷ picks p (t.target + 1) row) (picks p least row))) [
      | true ↦ λ e. (leb-true least t.target (second (p t) (nat_le least t.target) e), h.0, picks_rising p (t.target + 1) limit row h.1)
      | false ↦ λ e. picks_rising p least limit row h.1
    ] refl
  where
    second : (b c : Bool) → (b && c) ≡ true → c ≡ true
    second true c e = e
    second false c e = cc

-- one transition of a walk: the walk so far, with what it will pick, is all
module _ (p : Transition → Bool) (f : ℕ → ℕ) (least : ℕ) (row : List Transition) (i : ℕ) (d : Transition) (out all : List ℕ) (inside : i < length row)
    (before : out ++ map f (picks p least (drop i row)) ≡ all) where
  abbrev here : Transition
  here = get_or row i d

  abbrev rest : List Transition
  rest = drop (i + 1) row

  step : (b : Bool) → (p here && nat_le least here.target) ≡ b
      → picks p least (drop i row) ≡ cond b (here.target ∷ picks p (here.target + 1) rest) (picks p least rest)
  step b e = ap (picks p least) (drop_more row i d inside) ∙ ap (λ c. cond c (here.target ∷ picks p (here.target + 1) rest) (picks p least rest)) e

  pub picked : p here ≡ true → least ≤ here.target → (out ++ f here.target ∷ []) ++ map f (picks p (here.target + 1) rest) ≡ all
  picked takes le =
      append_assoc out (f here.target ∷ []) (map f (picks p (here.target + 1) rest))
      ∙ (ap (λ xs. out ++ map f xs) (sym (step true (and_from (p here) (nat_le least here.target) takes (le-leb least here.target le)))) ∙ before)

  passed_over : (p here && nat_le least here.target) ≡ false → out ++ map f (picks p least rest) ≡ all
  passed_over e = ap (λ xs. out ++ map f xs) (sym (step false e)) ∙ before

  pub unlabelled : p here ≡ false → out ++ map f (picks p least rest) ≡ all
  unlabelled without = passed_over (and_left (p here) (nat_le least here.target) without)

  pub seen : here.target < least → out ++ map f (picks p least rest) ≡ all
  seen lt = passed_over (and_right (p here) (nat_le least here.target) (lt-leb least here.target lt))

-- some transition that passes goes there
abbrev hits : (Transition → Bool) → List Transition → ℕ → Bool
hits p row v = list_any (λ t. p t && t.target == v) row

-- the tests agree on these numbers
filter_same : (f g : ℕ → Bool) (a n : ℕ) → ((v : ℕ) → a ≤ v → f v ≡ g v) → filter f (range_with_len a n) ≡ filter g (range_with_len a n)
filter_same f g a zero h = refl
filter_same f g a (suc n) h =
    (λ i. cond (h a (omega arith) i) (a ∷ filter f (range_with_len (a + 1) n)) (filter f (range_with_len (a + 1) n)))
    ∙ ap (λ xs. cond (g a) (a ∷ xs) xs) (filter_same f g (a + 1) n (λ v le. h v (omega (arith, le))))

-- no number before the first that passes is kept
filter_from : (f : ℕ → Bool) (a d n : ℕ) → ((v : ℕ) → a ≤ v → v < a + d → f v ≡ false)
    → filter f (range_with_len a (d + n)) ≡ filter f (range_with_len (a + d) n)
filter_from f a zero n h =
    let start : a ≡ a + 0 = omega arith in
    let count : 0 + n ≡ n = omega arith in
    (λ i. filter f (range_with_len (start i) (count i)))
filter_from f a (suc d) n h =
    let count : suc d + n ≡ suc (d + n) = omega arith in
    let next : a + 1 + d ≡ a + suc d = omega arith in
    ap (λ k. filter f (range_with_len a k)) count
    ∙ (ap (λ b. cond b (a ∷ filter f (range_with_len (a + 1) (d + n))) (filter f (range_with_len (a + 1) (d + n)))) (h a (omega arith) (omega arith))
    ∙ (filter_from f (a + 1) d n (λ v le lt. h v (omega (arith, le)) (omega (arith, lt))) ∙ ap (λ k. filter f (range_with_len k n)) next))

-- each is followed by none with a lesser target
abbrev Sorted : List Transition → Type 0
Sorted [] = Unit {0}
Sorted (t ∷ row) = AllByRecursion (λ u. t.target ≤ u.target) row × Sorted row

sorted_from : (row : List Transition) → IsNonDecreasingBy (λ t. t.target) row → Sorted row
sorted_from [] h = tt
sorted_from (t ∷ row) h = (
  recursion_from_All (λ (u : Transition). t.target ≤ u.target) row (λ k d below. h 0 (suc k) d (omega arith) (omega (arith, below))),
  sorted_from row (λ i j d le below. h (suc i) (suc j) d (omega arith) (omega (arith, below))),
)

-- no transition goes below the least target
none_below : (p : Transition → Bool) (row : List Transition) (m v : ℕ) → AllByRecursion (λ u. m ≤ u.target) row → v < m → hits p row v ≡ false
none_below p [] m v h lt = refl
none_below p (t ∷ row) m v h lt = (λ i. misses i || hits p row v) ∙ none_below p row m v h.1 lt
  where
    misses : (p t && t.target == v) ≡ false
    misses = and_right (p t) (t.target == v) (ne_eqb t.target v (λ e. omega (arith, e, h.0, lt)))

filter_none : (f : ℕ → Bool) (a n : ℕ) → ((v : ℕ) → f v ≡ false) → filter f (range_with_len a n) ≡ []
filter_none f a zero h = refl
filter_none f a (suc n) h = ap (λ b. cond b (a ∷ filter f (range_with_len (a + 1) n)) (filter f (range_with_len (a + 1) n))) (h a) ∙ filter_none f (a + 1) n h

-- a transition that passes and is the first to go there
found : (p : Transition → Bool) (t : Transition) (row : List Transition) (a d k : ℕ) → p t ≡ true → t.target ≡ a + d
    → AllByRecursion (λ u. t.target ≤ u.target) row
    → filter (hits p (t ∷ row)) (range_with_len a (d + suc k)) ≡ t.target ∷ filter (hits p row) (range_with_len (t.target + 1) k)
found p t row a d k passes at after =
    filter_from (hits p (t ∷ row)) a d (suc k) (λ v le lt. none_below p (t ∷ row) t.target v (omega arith, after) (omega (arith, at, lt)))
    ∙ (ap (λ b. filter (hits p (t ∷ row)) (range_with_len b (suc k))) (sym at)
    ∙ (ap (λ b. cond b (t.target ∷ filter (hits p (t ∷ row)) (range_with_len (t.target + 1) k))
    (filter (hits p (t ∷ row)) (range_with_len (t.target + 1) k))) here
    ∙ ap (λ xs. t.target ∷ xs) (filter_same (hits p (t ∷ row)) (hits p row) (t.target + 1) k
    (λ v le. ap (λ b. b || hits p row v) (and_right (p t) (t.target == v) (ne_eqb t.target v (λ e. omega (arith, e, le))))))))
  where
    here : hits p (t ∷ row) t.target ≡ true
    here = ap (λ b. b || hits p row t.target) (and_from (p t) (t.target == t.target) passes (eq-eqb t.target t.target refl))

-- The walk finds the targets, each once and ascending.
picks_is : (p : Transition → Bool) (n a m : ℕ) (row : List Transition) → a + m ≡ n → Sorted row → AllByRecursion (λ t. t.target < n) row
    → picks p a row ≡ filter (hits p row) (range_with_len a m)
picks_is p n a m [] size sorted inside = sym (filter_none (hits p []) a m (λ v. refl))
picks_is p n a m (t ∷ row) size sorted inside =
    elim (p t && nat_le a t.target) as (λ b. (p t && nat_le a t.target) ≡ b
    → cond b (t.target ∷ picks p (t.target + 1) row) (picks p a row) ≡ filter (hits p (t ∷ row)) (range_with_len a m)) [
      | true ↦ λ e.
          let both = and_parts (p t) (nat_le a t.target) e in
          let le : a ≤ t.target = leb-true a t.target both.1 in
          let d : ℕ = t.target - a in
          let k : ℕ = m - d - 1 in
          let at : t.target ≡ a + d = omega arith in
          let cut : m ≡ d + suc k = omega (arith, inside.0, size) in
          ap (λ xs. t.target ∷ xs) (picks_is p n (t.target + 1) k row (omega (arith, size, cut, at)) sorted.1 inside.1)
          ∙ (sym (found p t row a d k both.0 at sorted.0) ∙ ap (λ j. filter (hits p (t ∷ row)) (range_with_len a j)) (sym cut))
      | false ↦ λ e.
          picks_is p n a m row size sorted.1 inside.1
          ∙ filter_same (hits p row) (hits p (t ∷ row)) a m (λ v le. sym (ap (λ b. b || hits p row v) (missed e v le)))
    ] refl
  where
    missed : (p t && nat_le a t.target) ≡ false → (v : ℕ) → a ≤ v → (p t && t.target == v) ≡ false
    missed e v le =
        elim (and_cases (p t) (nat_le a t.target) e) [
          | inl fails ↦ and_left (p t) (t.target == v) fails
          | inr short ↦ and_right (p t) (t.target == v) (ne_eqb t.target v (λ same. omega (arith, same, le, leb-false a t.target short)))
        ]

-- To test the images is to test by them.
list_any-map : {X Y : Type 0} (q : Y → Bool) (f : X → Y) (xs : List X) → list_any q (map f xs) ≡ list_any (λ x. q (f x)) xs
list_any-map q f [] = refl
list_any-map q f (x ∷ xs) = ap (λ b. q (f x) || b) (list_any-map q f xs)

all_permuted : {X : Type 0} (P : X → Type 0) (xs ys : List X) → IsPermutation xs ys → AllByRecursion P xs → AllByRecursion P ys
all_permuted P xs ys moved h = recursion_from_All P ys (All-permutation P xs ys moved (All-from_recursion P xs h))

-- The transitions of a state in another order, by target.
pub row_of : (l : Numbered) (s : ℕ) (xs ys : List Transition) → map (arrow_of l.labels) xs ≡ arrows_from l.system s → IsInside l xs
    → AllByRecursion (λ t. t.label < 4294967296) xs → IsPermutation xs ys
    → IsNonDecreasingBy (λ t. t.target) ys → IsRowOf l s ys
row_of l s xs ys arrows inside numbers moved sorted =
    record {
      same = λ q. sym (list_any-IsPermutation (λ t. q (arrow_of l.labels t)) xs ys moved)
          ∙ (sym (list_any-map q (arrow_of l.labels) xs) ∙ ap (list_any q) arrows);
      sorted = sorted;
      inside = all_permuted _ xs ys moved inside;
      numbers = all_permuted _ xs ys moved numbers;
    }

-- To test what is kept is to test by both.
list_any-filter : {X : Type 0} (f g : X → Bool) (xs : List X) → list_any f (filter g xs) ≡ list_any (λ x. g x && f x) xs
list_any-filter f g [] = refl
list_any-filter f g (x ∷ xs) =
    elim (g x) as (λ b. list_any f (cond b (x ∷ filter g xs) (filter g xs)) ≡ ((b && f x) || list_any (λ y. g y && f y) xs))
    [ true ↦ ap (λ b. f x || b) (list_any-filter f g xs) | false ↦ list_any-filter f g xs ]

list_any_same : {X : Type 0} (f g : X → Bool) (xs : List X) → AllByRecursion (λ x. f x ≡ g x) xs → list_any f xs ≡ list_any g xs
list_any_same f g [] h = refl
list_any_same f g (x ∷ xs) h = (λ i. h.0 i || list_any_same f g xs h.1 i)

and_comm : (x y : Bool) → (x && y) ≡ (y && x)
and_comm true true = refl
and_comm true false = refl
and_comm false true = refl
and_comm false false = refl

and_assoc : (x y z : Bool) → ((x && y) && z) ≡ (x && (y && z))
and_assoc true y z = refl
and_assoc false y z = refl

-- The arrows from s to v with a label that passes are found by the set of labels.
step_is : (l : Numbered) (a : Action) (s v : ℕ) (set : List Bool) (row : List Transition) → IsRowOf l s row → IsSetOf a l.labels set
    → is_step l.system a s v ≡ hits (is_in set) row v
step_is l a s v set row h k =
    list_any_same _ _ l.system.arrows (every l.system.arrows)
    ∙ (sym (list_any-filter passes (λ arrow. arrow.source == s) l.system.arrows)
    ∙ (sym (h.same passes) ∙ list_any_same _ _ row (agrees row h.inside h.numbers)))
  where
    passes : Arrow → Bool
    passes arrow = arrow.target == v && holds a arrow.label

    every : (xs : List Arrow) → AllByRecursion (λ arrow. (arrow.source == s && arrow.target == v && holds a arrow.label)
        ≡ (arrow.source == s && passes arrow)) xs
    every [] = tt
    every (x ∷ xs) = (and_assoc (x.source == s) (x.target == v) (holds a x.label), every xs)

    agrees : (ts : List Transition) → IsInside l ts → AllByRecursion (λ t. t.label < 4294967296) ts
        → AllByRecursion (λ t. passes (arrow_of l.labels t) ≡ (is_in set t && t.target == v)) ts
    agrees [] i n = tt
    agrees (t ∷ ts) i n = (ap (λ b. t.target == v && b) (sym (k t.label i.0.label n.0)) ∙ and_comm (t.target == v) (is_in set t), agrees ts i.1 n.1)

-- The targets are those that the walk finds.
targets_is : (l : Numbered) (a : Action) (s : ℕ) (set : List Bool) (row : List Transition) → IsRowOf l s row → IsSetOf a l.labels set
    → targets l.system a s ≡ picks (is_in set) 0 row
targets_is l a s set row h k =
    filter_same (is_step l.system a s) (hits (is_in set) row) 0 l.system.states (λ v le. step_is l a s v set row h k)
    ∙ sym (picks_is (is_in set) l.system.states 0 l.system.states row (omega arith) (sorted_from row h.sorted) (all_target row h.inside))
  where
    all_target : (ts : List Transition) → IsInside l ts → AllByRecursion (λ t. t.target < l.system.states) ts
    all_target [] i = tt
    all_target (t ∷ ts) i = (i.0.target, all_target ts i.1)

-- The vertex that is pushed is the arena's.
pub vertex_is : (l : Numbered) (n s : ℕ) (set : List Bool) (row : List Transition) (node : Node) → IsRowOf l s row → IsSetFor l.labels node.shape set
    → vertex_by n s (picks (is_in set) 0 row) node ≡ vertex_of l.system n s node
vertex_is l n s set row node h k = λ i. record { owner = owner_of node.shape; priority = node.priority; successors = same node.shape k i }
  where
    same : (shape : Shape) → IsSetFor l.labels shape set → successors_by n s (picks (is_in set) 0 row) shape ≡ successors_of l.system n s shape
    same (ConstantNode flag) k = refl
    same (JunctionNode flag left right) k = refl
    same (ModalityNode flag a child) k = ap (λ ts. or_else (map (λ t. place n t child) ts) (cond flag 1 0)) (sym (targets_is l a s set row h k))
    same (FixpointNode flag child) k = refl
    same (VariableNode binder) k = refl

-- A modality has not more successors than there may be states.
reached_few : (p : Transition → Bool) (row : List Transition) (n child sink : ℕ) → AllByRecursion (λ t. t.target < 1000000) row
    → length (or_else (map (λ t. place n t child) (picks p 0 row)) sink) ≤ 1000000
reached_few p row n child sink h = few (picks p 0 row) (rising_length 0 1000000 (picks p 0 row) (omega arith) (picks_rising p 0 1000000 row h))
  where
    few : (xs : List ℕ) → 0 + length xs ≤ 1000000 → length (or_else (map (λ t. place n t child) xs) sink) ≤ 1000000
    few [] h = omega arith
    few (x ∷ xs) h = omega (arith, h, length-map xs (λ t. place n t child))

-- Nor has any vertex.
pub successors_few : (p : Transition → Bool) (row : List Transition) (n s : ℕ) (node : Node) → AllByRecursion (λ t. t.target < 1000000) row
    → length (vertex_by n s (picks p 0 row) node).successors ≤ 1000000
successors_few p row n s node h = few node.shape
  where
    few : (shape : Shape) → length (successors_by n s (picks p 0 row) shape) ≤ 1000000
    few (ConstantNode flag) = omega arith
    few (JunctionNode flag left right) = omega arith
    few (ModalityNode flag a child) = reached_few p row n child (cond flag 1 0) h
    few (FixpointNode flag child) = omega arith
    few (VariableNode binder) = omega arith

pub inside_below : (l : Numbered) (ts : List Transition) → l.system.states ≤ 1000000 → IsInside l ts → AllByRecursion (λ t. t.target < 1000000) ts
inside_below l [] few i = tt
inside_below l (t ∷ ts) few i = (omega (arith, i.0.target, few), inside_below l ts few i.1)

pub target_low : (row : List Transition) (i : ℕ) (d : Transition) → AllByRecursion (λ t. t.target < 1000000) row → i < length row
    → (get_or row i d).target < 1000000
target_low row i d h inside = All-from_recursion (λ (t : Transition). t.target < 1000000) row h i d inside

-- The vertex of what is reached has a number that fits.
pub place_low : (row : List Transition) (i nodes child : ℕ) (d : Transition) → AllByRecursion (λ t. t.target < 1000000) row → i < length row → nodes ≤ 4096
    → child < nodes
    → (get_or row i d).target * nodes + child < 4096000000
place_low row i nodes child d h inside few below = omega (
  arith,
  few,
  mul-add-lt (get_or row i d).target nodes child 1000000 (target_low row i d h inside) below,
)

-- A node of the form is within its numbers.
pub node_numbered : (nodes : List Node) (n i : ℕ) (node : Node) → IsForm nodes → n ≡ length nodes → slice_get nodes i ≡ Some node → IsNode n node
node_numbered nodes n i node form count is =
    subst (λ k. IsNode k node) (sym count) (subst (IsNode (length nodes)) (get_or_from_slice_get nodes i node node is)
    (All-from_recursion (IsNode (length nodes)) nodes form.numbered i node (slice_get_within nodes i node is)))
