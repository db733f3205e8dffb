-- The vertices of the states with the root node.
use Rattle.std.proofs.Common.{◌≡◌, ◌*◌, ◌<◌, ◌≤◌, ℕ, Bool, List, length, Some, refl, sym, ap, ◌∙◌, subst}
use Rattle.std.proofs.Common.{arith}
use Rattle.std.specs.Prelude.{IsTrue, ◌↔◌, option_map}
use Rattle.std.proofs.Math.Nat.{mul-lt-mul_of_pos_right}
use Rattle.game.specs.Game.{Game, IsGame}
use Rattle.game.specs.Arena.{arena, place, place_in}
use Rattle.game.specs.Wins.{Wins}
use Rattle.calculus.specs.Meaning.{marked, MarksOf, Satisfies}
use Rattle.calculus.specs.Tree.{Formula}
use Rattle.calculus.specs.Admitted.{IsAdmitted}
use Rattle.systems.specs.System.{System, IsSystem}
use Rattle.calculus.specs.NormalTree.{normal_form}
use Rattle.calculus.specs.Nodes.{Node}
use Rattle.laws.specs.Admissible.{IsNodes}
use Rattle.laws.specs.Laws.{EvenWinsFormula}
use Rattle.requests.specs.Roots.{HasRoots, WinsRoot}

some_same : (a b : ℕ) → Some a ≡ Some b → a ≡ b
some_same a b e = cc

-- the vertex of a state with the root node
pub root_is : (nodes s v : ℕ) (g : Game) (states : ℕ) → g.named ≡ Some (states, nodes) → place_in g s 0 ≡ Some v → place nodes s 0 ≡ v
root_is nodes s v g states named at = some_same (place nodes s 0) v (sym (ap (option_map (λ n. place n.1 s 0)) named) ∙ at)

pub root_below : (states s v : ℕ) (g : Game) → IsGame g → HasRoots states g → s < states → place_in g s 0 ≡ Some v → v < length g.vertices
root_below states s v g is (nodes, some, named) h at =
    let e = root_is nodes s v g states named at in
    let size = is.named states nodes named in
    let room : s * nodes < states * nodes = mul-lt-mul_of_pos_right h some in
    omega (arith, e, size, room)

-- that Even wins a state's vertex with the root node
pub wins_root : (s v : ℕ) (g : Game) (mark : Bool) → place_in g s 0 ≡ Some v → IsTrue mark ↔ Wins g v → IsTrue mark ↔ WinsRoot g s
wins_root s v g mark at w = (λ m. (v, at, w.0 m), λ h. w.1 (subst (Wins g) (some_same h.0 v (sym h.1 ∙ at)) h.2))

-- the arena of a system and these nodes has roots
pub arena_roots : (l : System) (ns : List Node) (g : Game) (n : ℕ) → g ≡ arena l ns → n ≡ l.states → 1 ≤ length ns → HasRoots n g
arena_roots l ns g n e h some = (length ns, some, ap (λ (x : Game). x.named) e ∙ ap (λ k. Some (k, length ns)) (sym h))

-- The marks of the states whose root vertex Even wins are those of the formula's states.
pub roots_mean : (l : System) (f : Formula) (ns : List Node) (marks : List Bool) → EvenWinsFormula → IsSystem l → IsAdmitted f → IsNodes (normal_form f) ns
    → MarksOf l.states marks (WinsRoot (arena l ns)) → MarksOf l.states marks (Satisfies l f)
roots_mean l f ns marks wins is admitted nodes m = record { count = m.count; exact = exact }
  where
    exact : (s : ℕ) → s < l.states → marked marks s ↔ Satisfies l f s
    exact s h =
        let there = m.exact s h in
        let decided = wins l f ns is admitted nodes s h in
        (λ mark. (let w = there.0 mark in decided.0 (subst (Wins (arena l ns)) (sym (some_same _ _ w.1)) w.2)), λ x. there.1 (_, refl, decided.1 x))
