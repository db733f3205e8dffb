-- Vertices are ranked, where their numbers follow as they have to.
use Rattle.std.proofs.Common.{◌≡◌, ◌≢◌, ℕ, ◌<◌, ◌⊎◌, Bool, true, List, [], ◌∷◌, length, map, refl, sym, ap, subst, ◌∙◌, inl, inr, arith, true≢false}
use Rattle.std.specs.Prelude.{Contains, if◌then◌else◌}
use Rattle.systems.specs.Numbered.{Numbered}
use Rattle.systems.specs.System.{IsSystem}
use Rattle.systems.specs.declared.system.Transition.{Transition}
use Rattle.calculus.specs.Tree.{Action}
use Rattle.calculus.specs.Form.{IsNode, IsShape}
use Rattle.calculus.specs.Nodes.{Node}
use Rattle.calculus.specs.NormalTree.{ConstantNode, JunctionNode, ModalityNode}
use Rattle.game.specs.declared.player.Player.{Player}
use Rattle.game.specs.Arena.{or_else, owner_of, place, sink, successors_of, targets, vertex_of}
use Rattle.game.specs.Game.{Vertex}
use Rattle.calculus.specs.Taken.{IsSetOf, is_in}
use Rattle.measures.proofs.Lists.{contains_first, contains_later, contains_none}
use Rattle.laws.proofs.Flags.{cases}
use Rattle.laws.proofs.Lists.{in_map, of_map, of_two, only_in}
use Rattle.rankings.specs.Cells.{Cells, cell, number_in, ranking_of}
use Rattle.rankings.specs.Ranking.{GoesOnWell, IsRanked, Ranking, winner_of}
use Rattle.rankings.specs.Slopes.{AreSlopes, CanFollow, IsNoStep, StepsFollow, StepsFollowAt, TwoFollow}
use Rattle.rankings.specs.declared.slope.Slopes.{Slopes}
use Rattle.rankings.proofs.Places.{number_at}
use Rattle.rankings.proofs.Steps.{step_of, target_of}

-- one successor
pub ranked_one : (r : Ranking) (n t : ℕ) (x : Vertex) → x.successors ≡ t ∷ [] → GoesOnWell r (winner_of n) x.priority n (r.number t) → IsRanked r n x
ranked_one r n t x e g = record {
  own = λ o. (t, subst (λ ts. Contains ts t) (sym e) (contains_first t []), g);
  other = λ o u h. subst (λ z. GoesOnWell r (winner_of n) x.priority n (r.number z)) (sym (only_in t u (subst (λ ts. Contains ts u) e h))) g;
}

-- two of them
ranked_two : (r : Ranking) (n t u : ℕ) (x : Vertex) → x.successors ≡ t ∷ u ∷ []
    → (x.owner ≡ winner_of n → GoesOnWell r (winner_of n) x.priority n (r.number t) ⊎ GoesOnWell r (winner_of n) x.priority n (r.number u))
    → (x.owner ≢ winner_of n → GoesOnWell r (winner_of n) x.priority n (r.number t) × GoesOnWell r (winner_of n) x.priority n (r.number u))
    → IsRanked r n x
ranked_two r n t u x e own other = record {
  own = λ o. elim (own o) [
    | inl g ↦ (t, subst (λ ts. Contains ts t) (sym e) (contains_first t (u ∷ [])), g)
    | inr g ↦ (u, subst (λ ts. Contains ts u) (sym e) (contains_later t u (u ∷ []) (contains_first u [])), g)
  ];
  other = λ o z h. elim (of_two t u z (subst (λ ts. Contains ts z) e h)) [
    | inl q ↦ subst (λ w. GoesOnWell r (winner_of n) x.priority n (r.number w)) (sym q) (other o).0
    | inr q ↦ subst (λ w. GoesOnWell r (winner_of n) x.priority n (r.number w)) (sym q) (other o).1
  ];
}

-- these vertices, or the other one where there are none
or_else_cases : (xs : List ℕ) (v u : ℕ) → Contains (or_else xs v) u → ((xs ≡ []) × (u ≡ v)) ⊎ Contains xs u
or_else_cases [] v u h = inl (refl, only_in v u h)
or_else_cases (x ∷ xs) v u h = inr h

in_or_else : (xs : List ℕ) (v u : ℕ) → Contains xs u → Contains (or_else xs v) u
in_or_else [] v u h = absurd (contains_none u h)
in_or_else (x ∷ xs) v u h = h

else_in : (xs : List ℕ) (v : ℕ) → ((u : ℕ) → Contains xs u → ⊥) → Contains (or_else xs v) v
else_in [] v h = contains_first v []
else_in (x ∷ xs) v h = absurd (h x (contains_first x xs))

module _ (c : Cells) (l : Numbered) (x : Slopes) (s k : ℕ) (node : Node) (is : IsNode (length c.nodes) node)
    (slopes : AreSlopes (ranking_of c) node.priority x) where
  abbrev n : ℕ
  n = length c.nodes

  abbrev r : Ranking
  r = ranking_of c

  abbrev v : Vertex
  v = vertex_of l.system n s node

  -- the play goes on well at the vertex of a node that may follow
  goes : (t m : ℕ) → m < n → CanFollow x (cell c k s) (cell c m t) → GoesOnWell r (winner_of (cell c k s)) node.priority (cell c k s) (number_in c (place n t m))
  goes t m h f = subst (GoesOnWell r (winner_of (cell c k s)) node.priority (cell c k s)) (sym (number_at c n t m refl h)) (f r node.priority slopes)

  pub constant_ranked : (flag : Bool) → node.shape ≡ ConstantNode flag → CanFollow x (cell c k s) (number_in c (sink flag)) → IsRanked r (cell c k s) v
  constant_ranked flag e f = ranked_one r (cell c k s) (sink flag) v (ap (successors_of l.system n s) e) (f r node.priority slopes)

  pub single_ranked : (m : ℕ) → successors_of l.system n s node.shape ≡ place n s m ∷ [] → m < n → CanFollow x (cell c k s) (cell c m s)
      → IsRanked r (cell c k s) v
  single_ranked m e h f = ranked_one r (cell c k s) (place n s m) v e (goes s m h f)

  pub junction_ranked : (flag : Bool) (left right : ℕ) → node.shape ≡ JunctionNode flag left right
      → TwoFollow x (owner_of node.shape) (cell c k s) (cell c left s) (cell c right s) → IsRanked r (cell c k s) v
  junction_ranked flag left right e f =
      let i : (left < right) × (right < n) = subst (IsShape n) e is.1 in
      let low : left < n = (let a = i.0 in let b = i.1 in omega arith) in
      ranked_two r (cell c k s) (place n s left) (place n s right) v (ap (successors_of l.system n s) e)
      (λ o. elim (f.mine o) [ inl g ↦ inl (goes s left low g) | inr g ↦ inr (goes s right i.1 g) ])
      (λ o. (goes s left low (f.theirs o).0, goes s right i.1 (f.theirs o).1))

  module _ (flag : Bool) (a : Action) (m : ℕ) (e : node.shape ≡ ModalityNode flag a m) (ok : IsSystem l.system) (below : s < l.system.states)
      (set : List Bool) (exact : IsSetOf a l.labels set)
      (f : StepsFollowAt l x (owner_of node.shape) set (cell c k) (cell c m) (number_in c (if flag then 1 else 0)) s)
    where
      abbrev at : ℕ → ℕ
      at t = place n t m

      abbrev to : List ℕ
      to = targets l.system a s

      abbrev from_sink : ℕ
      from_sink = if flag then 1 else 0

      low : m < n
      low = subst (IsShape n) e is.1

      step : (t : ℕ) → Contains to t → (u : Transition) × Contains f.row u × (is_in set u ≡ true) × (u.target ≡ t)
      step = step_of l ok a s below set f.row f.arrows f.inside f.numbers exact

      target : (u : Transition) → Contains f.row u → is_in set u ≡ true → Contains to u.target
      target = target_of l ok a s below set f.row f.arrows f.inside f.numbers exact

      no_target : IsNoStep set f.row → (u : ℕ) → Contains (map at to) u → ⊥
      no_target none u h =
          let w = of_map at to u h in
          let y = step w.0 w.1 in
          true≢false (sym y.2 ∙ none y.0 y.1)

      no_step : map at to ≡ [] → IsNoStep set f.row
      no_step empty u h = elim (cases (is_in set u)) [
        | inl takes ↦ absurd (contains_none (at u.target) (subst (λ xs. Contains xs (at u.target)) empty (in_map at to u.target (target u h takes))))
        | inr none ↦ none
      ]

      there : v.successors ≡ or_else (map at to) from_sink
      there = ap (successors_of l.system n s) e

      pub modality_ranked : IsRanked r (cell c k s) v
      modality_ranked = record {
        own = λ o. elim (f.steps.mine o) [
          | inl w ↦ (
            at w.0.target,
            subst (λ xs. Contains xs (at w.0.target)) (sym there)
                (in_or_else (map at to) from_sink (at w.0.target) (in_map at to w.0.target (target w.0 w.1 w.2))),
            goes w.0.target m low w.3,
          )
          | inr w ↦ (
            from_sink,
            subst (λ xs. Contains xs from_sink) (sym there) (else_in (map at to) from_sink (no_target w.0)),
            w.1 r node.priority slopes,
          )
        ];
        other = λ o u h. elim (or_else_cases (map at to) from_sink u (subst (λ xs. Contains xs u) there h)) [
          | inl w ↦ subst (λ z. GoesOnWell r (winner_of (cell c k s)) node.priority (cell c k s) (number_in c z)) (sym w.1)
              (f.steps.none (no_step w.0) r node.priority slopes)
          | inr w ↦ (
              let t = of_map at to u w in
              let y = step t.0 t.1 in
              subst (λ z. GoesOnWell r (winner_of (cell c k s)) node.priority (cell c k s) (number_in c z)) (ap at y.3 ∙ t.2)
              (goes y.0.target m low (f.steps.theirs o y.0 y.1 y.2)))
        ];
      }

-- the same of equal owners and numbers
pub two_moved : (x : Slopes) (o p : Player) (a b d a' b' d' : ℕ) → o ≡ p → a ≡ a' → b ≡ b' → d ≡ d' → TwoFollow x o a b d → TwoFollow x p a' b' d'
two_moved x o p a b d a' b' d' e f g h t =
    subst (λ q. TwoFollow x q a' b' d') e
    (subst (λ z. TwoFollow x o z b' d') f
    (subst (λ z. TwoFollow x o a z d') g
    (subst (λ z. TwoFollow x o a b z) h t)))

pub steps_moved : (l : Numbered) (x : Slopes) (o p : Player) (set : List Bool) (a b a' b' : ℕ → ℕ) (m s : ℕ) → o ≡ p → a s ≡ a' s → b ≡ b'
    → StepsFollowAt l x o set a b m s → StepsFollowAt l x p set a' b' m s
steps_moved l x o p set a b a' b' m s e f g t =
    subst (λ q. StepsFollowAt l x q set a' b' m s) e
    (subst (λ z. StepsFollowAt l x o set a' z m s) g
    (record {
      row = t.row;
      arrows = t.arrows;
      inside = t.inside;
      numbers = t.numbers;
      steps = subst (λ n. StepsFollow x o n set t.row b m) f t.steps;
    }))

pub two_columns : (x : Slopes) (a b a' b' : ℕ) → a ≡ a' → b ≡ b' → CanFollow x a b → CanFollow x a' b'
two_columns x a b a' b' e f h = subst (λ z. CanFollow x z b') e (subst (λ z. CanFollow x a z) f h)
