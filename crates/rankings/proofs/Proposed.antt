-- What is proposed is good at each vertex of an arena.
use Rattle.std.proofs.Common.{◌≡◌, ℕ, zero, suc, ◌+◌, ◌*◌, ◌<◌, ◌≤◌, List, [], ◌∷◌, ◌++◌, length, map, refl, sym, ap, subst, ◌∙◌, inl, inr, arith}
use Rattle.std.proofs.Common.{Bool, Vec, Global}
use Rattle.std.specs.Prelude.{None, Some, if◌then◌else◌, slice_get, slice_index_or}
use Rattle.std.specs.List.{AllByRecursion}
use Rattle.std.proofs.lemmas.Bool.Decides.{eqb_tells}
use Rattle.std.proofs.lemmas.List.{get_or-map, get_or_append_left, get_or_at, length-append}
use Rattle.std.proofs.lemmas.List.Elements.{All-from_recursion}
use Rattle.std.proofs.lemmas.Option.{get_or_from_slice_get, slice_get_within}
use Rattle.systems.specs.System.{System}
use Rattle.systems.specs.Numbered.{Numbered}
use Rattle.systems.specs.declared.system.Transition.{Transition}
use Rattle.calculus.specs.Form.{IsForm}
use Rattle.calculus.specs.Nodes.{Node}
use Rattle.calculus.specs.Normal.{normal_nodes}
use Rattle.calculus.specs.Taken.{AreSets, IsSetFor, is_in}
use Rattle.game.specs.declared.player.Player.{Player}
use Rattle.game.specs.declared.player.Player.TheVariants.{Even, Odd}
use Rattle.game.specs.Arena.{arena, place, vertex_of}
use Rattle.game.specs.Steps.{IsRowOf, picks, vertex_by}
use Rattle.game.specs.Game.{Game, IsGame, IsVertex, Vertex, dual, vertex}
use Rattle.measures.specs.Progress.{IsLeastTable}
use Rattle.measures.specs.Laws.{IsBestMove}
use Rattle.measures.specs.Measure.{Measure}
use Rattle.measures.specs.Proposal.{IsGoodVertex, IsFirstMove, IsFirstMoveBy, ReachesFrom}
use Rattle.measures.specs.StoredProposal.{game_for, layout_of, move_said, proposal_in, shift_in, values_of, winner_at}
use Rattle.measures.specs.declared.proposal.Proposals.{Proposals}
use Rattle.rankings.specs.Least.{AreTestedTo, AreWinnersMoves, IsTestedAt, tested_arena}
use Rattle.rankings.specs.declared.least.LeastTest.{LeastTest}
use Rattle.game.proofs.Lending.{dual_is_game}
use Rattle.game.proofs.Duals.{long_dual}
use Rattle.game.proofs.Arenas.{arena_is_game, arena_low}
use Rattle.game.proofs.Steps.{vertex_is as step_vertex_is}
use Rattle.laws.proofs.Vertices.{vertex_is}
use Rattle.rankings.proofs.Places.{arena_long}
use Rattle.measures.proofs.Lists.{all_contained, all_got}
use Rattle.measures.proofs.Moves.{first_reached}
use Rattle.measures.proofs.Proposals.{good_least}
use Rattle.measures.proofs.StoredProposals.{values_long}

-- the vertex of a state with a node is within a game's limits
vertex_low : (l : System) (nodes : List Node) (s k : ℕ) (node : Node) → IsForm nodes → 2 + l.states * length nodes ≤ 16777216 → s < l.states
    → slice_get nodes k ≡ Some node → IsVertex (2 + l.states * length nodes) (vertex_of l (length nodes) s node)
vertex_low l nodes s k node form few below at =
    let g : Game = arena l nodes in
    let v : ℕ = place (length nodes) s k in
    let x : Vertex = vertex_of l (length nodes) s node in
    let is = vertex_is l nodes s k node below at in
    subst (λ n. IsVertex n x) (arena_long l nodes)
    (subst (IsVertex (length g.vertices)) (get_or_from_slice_get g.vertices v x x is)
    (All-from_recursion (IsVertex (length g.vertices)) g.vertices (arena_is_game l nodes form few).vertices v x (slice_get_within g.vertices v x is)))

-- what is known of the vertex of a state with a node, where code has it
pub record IsSeen (c : Proposals) (l : System) (nodes : List Node) (v : ℕ) (x : Vertex) : Type 0 where
  pub is : vertex (arena l nodes) v ≡ Some x
  pub low : x.priority < 255
  pub within : AllByRecursion (λ t. t < c.vertices) x.successors

pub seen : (c : Proposals) (l : Numbered) (nodes : List Node) (sets : List (List Bool)) (n s k : ℕ) (set : List Bool) (row : List Transition) (node : Node)
    (x : Vertex) → IsForm nodes → 2 + l.system.states * length nodes ≤ 16777216 → c.vertices ≡ 2 + l.system.states * length nodes
    → s < l.system.states → AreSets l.labels nodes sets → slice_index_or sets k [] ≡ set → n ≡ length nodes → slice_get nodes k ≡ Some node
    → IsRowOf l s row → x ≡ vertex_by n s (picks (is_in set) 0 row) node → IsSeen c l.system nodes (place n s k) x
seen c l nodes sets n s k set row node x form few long below are there count at of_state told =
    let passes : IsSetFor l.labels node.shape set = subst (IsSetFor l.labels node.shape) there (are k node at) in
    let same : vertex_of l.system (length nodes) s node ≡ x = sym (told ∙ (ap (λ m. vertex_by m s (picks (is_in set) 0 row) node) count
    ∙ step_vertex_is l (length nodes) s set row node of_state passes)) in
    let good : IsVertex c.vertices x = subst (λ m. IsVertex m x) (sym long)
    (subst (IsVertex (2 + l.system.states * length nodes)) same (vertex_low l.system nodes s k node form few below at)) in
    record {
      is = ap (λ m. vertex (arena l.system nodes) (place m s k)) count ∙ (vertex_is l.system nodes s k node below at ∙ ap Some same);
      low = (let h = good.priority in omega arith);
      within = good.within;
    }

-- the set of a node, read from the list of sets
pub set_there : (sets : List (Vec Bool Global)) (k : ℕ) (one : Vec Bool Global) (set : List Bool) → k < length sets → one ≡ slice_index_or sets k one
    → set ≡ one.items → slice_index_or (map (λ (s : Vec Bool Global). s.items) sets) k [] ≡ set
set_there sets k one set inside at is = get_or-map (λ (s : Vec Bool Global). s.items) sets k one [] inside
    ∙ (ap (λ (s : Vec Bool Global). s.items) (sym at) ∙ sym is)

-- the sinks
pub sink_is : (l : System) (nodes : List Node) (v : ℕ) → v < 2
    → vertex (arena l nodes) v ≡ Some (record { owner = Even; priority = v; successors = v ∷ [] })
sink_is l nodes zero h = refl
sink_is l nodes (suc zero) h = refl
sink_is l nodes (suc (suc v)) h = absurd (omega arith)

-- the values of a player
pub least_for : (player : Player) (c : Proposals) (g : Game) → IsGame g → c.vertices ≡ length g.vertices
    → ((p : ℕ) → shift_in (layout_of player c) p ≤ shift_in (layout_of player c) (suc p))
    → ((v : ℕ) → v < length g.vertices → IsGoodVertex (proposal_in player c g) v) → IsLeastTable g (values_of player c)
least_for player c g game long rising good = good_least (proposal_in player c g) game (record {
  long = values_long player c ∙ long;
  rising = rising;
  vertices = good;
})

-- What Even goes on to is the best move by the least table.
module _ (g : Game) (game : IsGame g) (table : List Measure) (least : IsLeastTable g table) (v next : ℕ) (x : Vertex) (at : vertex g v ≡ Some x) where
  said_some : next < 4294967295 → move_said next ≡ Some next
  said_some h = elim (eqb_tells next 4294967295) [
    | inl w ↦ (let e = w.1 in absurd (omega (arith, e, h)))
    | inr w ↦ ap (λ (b : Bool). if b then None else Some next) w.0
  ]

  by : (o : Player) → x.owner ≡ o → IsFirstMoveBy o (ReachesFrom g table x.priority v) x.successors next → IsBestMove g table x (move_said next)
  by Even own m =
      let is = first_reached g game table least v x at own m.place m.before next m.inside m.there m.holds in
      let inside = all_contained (λ t. t < length g.vertices) x.successors next (all_got (IsVertex (length g.vertices)) g.vertices v x game.vertices at).within
      is.0.successor in
      subst (IsBestMove g table x) (sym (said_some (let few = game.limit in omega (arith, inside, few)))) (own, is.0, is.1)
  by Odd own m = subst (λ n. IsBestMove g table x (move_said n)) (sym m.0) own

  pub best_move : IsFirstMove g table v next → IsBestMove g table x (move_said next)
  best_move (y, there, move) = by x.owner refl (subst (λ (z : Vertex). IsFirstMoveBy z.owner (ReachesFrom g table z.priority v) z.successors next)
      (some_same y x (sym there ∙ at)) move)
    where
      some_same : (a b : Vertex) → Some a ≡ Some b → a ≡ b
      some_same a b e = cc

-- one more vertex
pub tested_more : (t : LeastTest) (moves : List ℕ) (n next : ℕ) → AreTestedTo t moves n → IsTestedAt t.proposals.now (tested_arena t) n next
    → AreTestedTo t (moves ++ (next ∷ [])) (n + 1)
tested_more t moves n next before here = record { count = (let l = length-append moves (next ∷ []) in let old = before.count in omega arith); each = each }
  where
    each : (v : ℕ) → v < n + 1 → IsTestedAt t.proposals.now (tested_arena t) v (slice_index_or (moves ++ (next ∷ [])) v 0)
    each v h = elim (eqb_tells v n) [
      | inl w ↦ subst (λ u. IsTestedAt t.proposals.now (tested_arena t) u (slice_index_or (moves ++ (next ∷ [])) u 0)) (sym w.1)
          (subst (IsTestedAt t.proposals.now (tested_arena t) n) (sym (get_or_at moves next [] 0 n before.count)) here)
      | inr w ↦ (
          let differs = w.1 in
          let below : v < n = omega arith in
          subst (IsTestedAt t.proposals.now (tested_arena t) v)
          (sym (get_or_append_left moves (next ∷ []) 0 v (subst (λ m. v < m) (sym before.count) below))) (before.each v below))
    ]

-- where all vertices are tested
module _ (t : LeastTest) (few : 2 + t.lts.now.system.states * length (normal_nodes t.form.now) ≤ 16777216)
    (vertices : t.proposals.now.vertices ≡ 2 + t.lts.now.system.states * length (normal_nodes t.form.now)) (form : IsForm (normal_nodes t.form.now))
    (moves : List ℕ)
    (tested : AreTestedTo t moves t.proposals.now.vertices) where
  abbrev g : Game
  g = tested_arena t

  game : IsGame g
  game = arena_is_game t.lts.now.system (normal_nodes t.form.now) form few

  dual_game : IsGame (dual g)
  dual_game = dual_is_game g game (arena_low t.lts.now.system (normal_nodes t.form.now) form)

  long : t.proposals.now.vertices ≡ length g.vertices
  long = vertices ∙ sym (arena_long t.lts.now.system (normal_nodes t.form.now))

  pub even_least : ((p : ℕ) → shift_in t.proposals.now.even p ≤ shift_in t.proposals.now.even (suc p)) → IsLeastTable g (values_of Even t.proposals.now)
  even_least rising = least_for Even t.proposals.now g game long rising (λ v h. (tested.each v (let l = long in omega arith)).even)

  pub odd_least : ((p : ℕ) → shift_in t.proposals.now.odd p ≤ shift_in t.proposals.now.odd (suc p)) → IsLeastTable (dual g) (values_of Odd t.proposals.now)
  odd_least rising = least_for Odd t.proposals.now (dual g) dual_game (long ∙ sym (long_dual g)) rising
      (λ v h. (tested.each v (let l = long in let e = long_dual g in omega arith)).odd)

  module _ (even : (p : ℕ) → shift_in t.proposals.now.even p ≤ shift_in t.proposals.now.even (suc p))
      (odd : (p : ℕ) → shift_in t.proposals.now.odd p ≤ shift_in t.proposals.now.odd (suc p)) where
    best : (p : Player) (v next : ℕ) (x : Vertex) → vertex (game_for p g) v ≡ Some x → IsFirstMove (game_for p g) (values_of p t.proposals.now) v next
        → IsBestMove (game_for p g) (values_of p t.proposals.now) x (move_said next)
    best Even v next x at move = best_move g game (values_of Even t.proposals.now) (even_least even) v next x at move
    best Odd v next x at move = best_move (dual g) dual_game (values_of Odd t.proposals.now) (odd_least odd) v next x at move

    long_for : (p : Player) → length (game_for p g).vertices ≡ length g.vertices
    long_for Even = refl
    long_for Odd = long_dual g

    pub winners_moves : AreWinnersMoves t.proposals.now g moves
    winners_moves = record {
      count = tested.count;
      best = λ v x at.
          let p = winner_at t.proposals.now v in
          let inside = slice_get_within (game_for p g).vertices v x at in
          best p v (slice_index_or moves v 0) x at (tested.each v (let l = long in let e = long_for p in omega arith)).move;
    }
