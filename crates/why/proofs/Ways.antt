-- Where a play can go on from a vertex.
use Rattle.std.proofs.Common.{◌≡◌, ◌≢◌, ℕ, ◌+◌, ◌≤◌, ◌<◌, List, [], ◌∷◌, length, refl, sym, subst, ◌∙◌, arith, Some, None}
use Rattle.std.specs.List.{AllByRecursion}
use Rattle.game.specs.Game.{Game, IsAscending, IsVertex, Vertex, vertex}
use Rattle.measures.proofs.Lists.{contains_first, contains_later}
use Rattle.laws.proofs.Lists.{only_in}
use Rattle.evidence.specs.Evidence.{Entry, Evidence, IsGood, entry_at}
use Rattle.witness.specs.Walk.{AreGoals}
use Rattle.witness.proofs.Walking.{all_goals}
use Rattle.why.specs.Telling.{GoesOnlyTo}
use Rattle.why.specs.Walk.{AreAll, AreWaysFrom, HasTwo}
use Rattle.why.specs.declared.walk.Ways.{Ways}
use Rattle.why.specs.declared.walk.Ways.TheVariants.{One, Many}

pub one_goal : (g : Game) (e : Evidence) (u t : ℕ) → AreGoals g e u (t ∷ []) → GoesOnlyTo g e u t
one_goal g e u t goals = ((goals t).1 (contains_first t []), λ a b go goes. only_in t a ((goals a).0 go) ∙ sym (only_in t b ((goals b).0 goes)))

two_of : (xs : List ℕ) → 1 ≤ length xs → length xs ≢ 1 → IsAscending xs → HasTwo xs
two_of [] some more rises = absurd (omega arith)
two_of (x ∷ []) some more rises = absurd (more refl)
two_of (x ∷ y ∷ xs) some more rises = (x, y, λ e. (let lt = rises.0 in absurd (omega arith)), contains_first x (y ∷ xs), contains_later x y (y ∷ xs) (contains_first y xs))

few_from : (x : ℕ) (xs : List ℕ) (n : ℕ) → IsAscending (x ∷ xs) → AllByRecursion (λ t. t < n) (x ∷ xs) → x + length (x ∷ xs) ≤ n
few_from x [] n rises below = let lt = below.0 in omega arith
few_from x (y ∷ ys) n rises below = let lt = rises.0 in let r = few_from y ys n rises.1 below.1 in omega arith

few : (xs : List ℕ) (n : ℕ) → IsAscending xs → AllByRecursion (λ t. t < n) xs → length xs ≤ n
few [] n rises below = omega arith
few (x ∷ xs) n rises below = let r = few_from x xs n rises below in omega arith

pub ways_of_all : (g : Game) (e : Evidence) (good : IsGood g e) (u : ℕ) (x : Entry) (v : Vertex) (ways : Ways) → entry_at e u ≡ Some x → vertex g u ≡ Some v
    → x.move ≡ None → IsVertex (length g.vertices) v → AreAll v.successors ways → AreWaysFrom g e u ways
ways_of_all g e good u x v (One t) here at none is h = one_goal g e u t (subst (AreGoals g e u) h (all_goals g e good u x v here at none))
ways_of_all g e good u x v (Many ts) here at none is h = (
  subst (AreGoals g e u) h.0 (all_goals g e good u x v here at none),
  subst HasTwo h.0 (two_of v.successors is.some h.1 is.ascending),
  subst (λ xs. length xs ≤ length g.vertices) h.0 (few v.successors (length g.vertices) is.ascending is.within),
)
