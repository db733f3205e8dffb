-- Numbers that no count of a measure of an arena may pass.
use Rattle.std.proofs.Common.{◌≡◌, ◌≢◌, ℕ, zero, suc, ◌+◌, ◌-◌, ◌*◌, ◌%◌, ◌<◌, ◌≤◌, ◌==◌, max, Bool, true, false, cond, if◌then◌else◌, List, [], ◌∷◌, ◌++◌, length}
use Rattle.std.proofs.Common.{map, take, count_by, refl, sym, ap, subst, ◌∙◌, inl, inr, arith, eq-eqb, ne_eqb}
use Rattle.std.specs.Prelude.{Some, slice_get}
use Rattle.std.specs.List.{AllByRecursion, AllZip}
use Rattle.std.proofs.lemmas.Bool.Decides.{eqb_tells}
use Rattle.std.proofs.lemmas.List.{take_more}
use Rattle.std.proofs.lemmas.List.Sums.{sum_by_push}
use Rattle.std.proofs.lemmas.Option.{get_or_from_slice_get, slice_get_within}
use Rattle.systems.specs.System.{System}
use Rattle.calculus.specs.Form.{IsForm, IsNode}
use Rattle.calculus.specs.Nodes.{Node, greatest_node_priority}
use Rattle.game.specs.declared.player.Player.{Player}
use Rattle.game.specs.declared.player.Player.TheVariants.{Even, Odd}
use Rattle.game.specs.Game.{Game, count, dual, greatest}
use Rattle.game.specs.Arena.{arena}
use Rattle.game.proofs.Lending.{count_arena, count_dual, greatest_arena, greatest_dual, top_of}
use Rattle.measures.specs.Measure.{is_odd, odd_down}
use Rattle.measures.specs.StoredProposal.{AreBoundsIn, game_for}
use Rattle.rankings.specs.Least.{risen_of}

-- ---- nodes, one by one

-- the first so many and one more
node_more : {X : Type 0} (xs : List X) (i : ℕ) (x : X) → slice_get xs i ≡ Some x → take (i + 1) xs ≡ take i xs ++ x ∷ []
node_more xs i x at = take_more xs i x (slice_get_within xs i x at) ∙ ap (λ z. take i xs ++ z ∷ []) (get_or_from_slice_get xs i x x at)

-- how many of the first so many nodes have this priority
abbrev pub counted : ℕ → ℕ → List Node → ℕ
counted p i nodes = count_by (λ (node : Node). node.priority == p) (take i nodes)

counted_more : (p i : ℕ) (nodes : List Node) (x : Node) → slice_get nodes i ≡ Some x
    → counted p (i + 1) nodes ≡ counted p i nodes + cond {A = ℕ} (x.priority == p) 1 0
counted_more p i nodes x at = ap (count_by (λ (node : Node). node.priority == p)) (node_more nodes i x at)
    ∙ sum_by_push (λ (node : Node). cond {A = ℕ} (node.priority == p) 1 0) (take i nodes) x

pub counted_yes : (p i : ℕ) (nodes : List Node) (x : Node) → slice_get nodes i ≡ Some x → x.priority ≡ p → counted p (i + 1) nodes ≡ counted p i nodes + 1
counted_yes p i nodes x at e = counted_more p i nodes x at ∙ ap (λ b. counted p i nodes + cond {A = ℕ} b 1 0) (eq-eqb x.priority p e)

pub counted_no : (p i : ℕ) (nodes : List Node) (x : Node) → slice_get nodes i ≡ Some x → x.priority ≢ p → counted p (i + 1) nodes ≡ counted p i nodes
counted_no p i nodes x at n =
    let none : counted p i nodes + 0 ≡ counted p i nodes = omega arith in
    counted_more p i nodes x at ∙ (ap (λ b. counted p i nodes + cond {A = ℕ} b 1 0) (ne_eqb x.priority p n) ∙ none)

greatest_push : (nodes : List Node) (x : Node) → greatest_node_priority (nodes ++ x ∷ []) ≡ max (greatest_node_priority nodes) x.priority
greatest_push [] x = omega arith
greatest_push (node ∷ nodes) x = let e = greatest_push nodes x in omega (arith, e)

-- one node more
pub greatest_more : (i : ℕ) (nodes : List Node) (x : Node) → slice_get nodes i ≡ Some x
    → greatest_node_priority (take (i + 1) nodes) ≡ max (greatest_node_priority (take i nodes)) x.priority
greatest_more i nodes x at = ap greatest_node_priority (node_more nodes i x at) ∙ greatest_push (take i nodes) x

greatest_few : (n : ℕ) (nodes : List Node) → AllByRecursion (IsNode n) nodes → greatest_node_priority nodes ≤ 31
greatest_few n [] h = omega arith
greatest_few n (node ∷ nodes) h = let low : node.priority ≤ 31 = h.0.0 in let rest = greatest_few n nodes h.1 in omega arith

-- priorities of a normal form are at most 31
pub form_low : (nodes : List Node) → IsForm nodes → greatest_node_priority nodes ≤ 31
form_low nodes form = greatest_few (length nodes) nodes form.numbered

same_top : (nodes : List Node) → top_of nodes ≡ greatest_node_priority nodes
same_top [] = refl
same_top (node ∷ nodes) = ap (max node.priority) (same_top nodes)

-- ---- bounds

-- how many states there are with a node whose priority is this one in the player's game
abbrev pub bound_at : ℕ → List Node → ℕ → ℕ → ℕ
bound_at states nodes risen p = states * count_by (λ (node : Node). node.priority == p - risen) nodes

bounded_down : (f h : ℕ → ℕ) → ((p : ℕ) → f (suc p) ≤ h (suc p)) → (n : ℕ) → AllZip (λ k p. k ≤ h p) (map f (odd_down n)) (odd_down n)
bounded_down f h le zero = tt
bounded_down f h le (suc n) = by (bounded_down f h le n) (is_odd (suc n))
  where
    by : AllZip (λ k p. k ≤ h p) (map f (odd_down n)) (odd_down n) → (b : Bool)
        → AllZip (λ k p. k ≤ h p) (map f (if b then suc n ∷ odd_down n else odd_down n)) (if b then suc n ∷ odd_down n else odd_down n)
    by rest true = (le n, rest)
    by rest false = rest

-- in the player's game
greatest_for : (player : Player) (l : System) (nodes : List Node) → 1 ≤ l.states
    → greatest (game_for player (arena l nodes)) ≡ max 1 (greatest_node_priority nodes) + risen_of player
greatest_for Even l nodes some = let e = greatest_arena l nodes some in let t = same_top nodes in omega (arith, e, t)
greatest_for Odd l nodes some = let e = greatest_arena l nodes some in let t = same_top nodes in
    let d = greatest_dual (arena l nodes) (omega arith) in omega (arith, e, t, d)

bounded_for : (player : Player) (l : System) (nodes : List Node) (p : ℕ)
    → bound_at l.states nodes (risen_of player) (suc p) ≤ count (game_for player (arena l nodes)) (suc p)
bounded_for Even l nodes p =
    let same : suc p ≡ suc p - 0 = omega arith in
    subst (λ k. l.states * count_by (λ (node : Node). node.priority == k) nodes ≤ count (arena l nodes) (suc p)) same (count_arena l nodes (suc p))
bounded_for Odd l nodes p =
    let same : p + 1 ≡ suc p = omega arith in
    let one : p ≡ suc p - 1 = omega arith in
    subst (λ k. l.states * count_by (λ (node : Node). node.priority == k) nodes ≤ count (dual (arena l nodes)) (suc p)) one
    (subst (λ k. l.states * count_by (λ (node : Node). node.priority == p) nodes ≤ k)
    (sym (count_dual (arena l nodes) p) ∙ ap (count (dual (arena l nodes))) same)
    (count_arena l nodes p))

-- an even number is left out
pub even_down : (f : ℕ → ℕ) (p : ℕ) (xs ys : List ℕ) → 0 < p → (p - 1) % 2 ≢ 0 → xs ++ map f (odd_down p) ≡ ys → xs ++ map f (odd_down (p - 1)) ≡ ys
even_down f zero xs ys some odd is = absurd (omega arith)
even_down f (suc n) xs ys some odd is =
    let less : suc n - 1 ≡ n = omega arith in
    ap (λ m. xs ++ map f (odd_down m)) less ∙ (ap (λ ps. xs ++ map f ps) (sym down) ∙ is)
  where
    down : odd_down (suc n) ≡ odd_down n
    down = elim (eqb_tells (suc n % 2) 1) [
      | inl w ↦ (let e = w.1 in absurd (odd (omega arith)))
      | inr w ↦ ap (λ b. if b then suc n ∷ odd_down n else odd_down n) w.0
    ]

-- what is found by code bounds the counts of the player's game
pub are_bounds : (player : Player) (l : System) (nodes : List Node) (states risen : ℕ) (items : List ℕ) → 1 ≤ states → l.states ≡ states
    → risen ≡ risen_of player → items ≡ map (bound_at states nodes risen) (odd_down (max 1 (greatest_node_priority nodes) + risen))
    → AreBoundsIn (game_for player (arena l nodes)) items
are_bounds player l nodes states risen items some same raised is =
    let g : Game = game_for player (arena l nodes) in
    let e : map (bound_at l.states nodes (risen_of player)) (odd_down (greatest g)) ≡ items =
    ap (λ n. map (bound_at l.states nodes (risen_of player)) (odd_down n)) (greatest_for player l nodes (omega arith))
    ∙ ((λ i. map (bound_at (same i) nodes (sym raised i)) (odd_down (max 1 (greatest_node_priority nodes) + sym raised i))) ∙ sym is)
    in
    subst (λ ks. AllZip (λ k p. k ≤ count g p) ks (odd_down (greatest g))) e
    (bounded_down (bound_at l.states nodes (risen_of player)) (count g) (bounded_for player l nodes) (greatest g))
