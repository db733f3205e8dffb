-- Worked examples of progress measures.
use Rattle.std.specs.Prelude.{◌≡◌, false, true, [], ◌∷◌, length, map, codes, refl}
use Rattle.calculus.specs.Tree.{Formula, Step, Or, Dia, Var, Mu, Nu}
use Rattle.vectors.specs.Formulas.{name_a, name_b}
use Rattle.calculus.specs.Nodes.{nodes}
use Rattle.systems.specs.System.{System}
use Rattle.vectors.specs.Systems.{arrow}
use Rattle.game.specs.Game.{Game, count}
use Rattle.game.specs.Arena.{arena}
use Rattle.std.proofs.Common.{arith, subst, true≢false}
use Rattle.measures.specs.Measure.{Measure, Top, Counts, components, kept, measure_cmp, IsMeasure, IsRank, IsProg}
use Rattle.std.specs.declared.cmp.Ordering.TheVariants.{Less, Equal, Greater}
use Rattle.measures.proofs.Measures.{full, least_prog, none_prog, raised, top_prog}
use Rattle.measures.proofs.Order.{Over, over_itself}
use Rattle.measures.proofs.Ranks.{rank_is}

-- the system with a loop: des (0,2,2), (0,"a",1), (1,"b",1)
abbrev pub with_loop : System
with_loop = record { states = 2; initial = 0; arrows = arrow 0 (codes "a") 1 ∷ arrow 1 (codes "b") 1 ∷ [] }

-- mu Z. nu Y. mu X. (<a>Z || <b>Y)
abbrev pub three_binders : Formula
three_binders = Mu (codes "Z") (Nu (codes "Y") (Mu (codes "X") (Or (Dia (Step name_a) (Var (codes "Z"))) (Dia (Step name_b) (Var (codes "Y"))))))

abbrev pub three_binder_game : Game
three_binder_game = arena with_loop (nodes three_binders)

-- what its measures count, how far, and how many vertices it has
three_binder_counts : (components three_binder_game ≡ 3 ∷ 1 ∷ []) × (map (count three_binder_game) (components three_binder_game) ≡ 2 ∷ 3 ∷ [])
    × (length three_binder_game.vertices ≡ 18)
three_binder_counts = (refl, refl, refl)

-- the count of the greatest priority decides first, and top is the last
order : (measure_cmp (Counts (0 ∷ 3 ∷ [])) (Counts (1 ∷ 0 ∷ [])) ≡ Less) × (measure_cmp (Counts (2 ∷ 3 ∷ [])) Top ≡ Less) × (measure_cmp Top Top ≡ Equal)
    × (measure_cmp (Counts (1 ∷ 2 ∷ [])) (Counts (1 ∷ 1 ∷ [])) ≡ Greater)
order = (refl, refl, refl, refl)

-- at priority 3 of (2,0): top
prog_top : IsProg three_binder_game 3 (Counts (2 ∷ 0 ∷ [])) Top
prog_top = none_prog three_binder_game 3 (2 ∷ 0 ∷ []) (full (count three_binder_game) 3 (1 ∷ []) true 0 2 (0 ∷ []) (omega arith) (λ x b o. true≢false o))

-- at priority 1 of (0,3): (1,0)
prog_carry : IsProg three_binder_game 1 (Counts (0 ∷ 3 ∷ [])) (Counts (1 ∷ 0 ∷ []))
prog_carry =
    let last = full (count three_binder_game) 1 [] true 0 3 [] (omega arith) (λ x b o. true≢false o) in
    least_prog three_binder_game 1 (0 ∷ 3 ∷ []) (1 ∷ 0 ∷ []) (raised (count three_binder_game) 3 (1 ∷ []) true 1 0 (3 ∷ []) (omega arith) last)

-- at priority 0 a measure reaches itself
pub prog_at_0 : (g : Game) (m : Measure) → kept g 0 ≡ length (components g) → IsMeasure g m → IsProg g 0 m m
prog_at_0 g Top all h = top_prog g 0
prog_at_0 g (Counts c) all h = least_prog g 0 c c
    (record { bounded = h; over = over_itself (kept g 0) c; least = λ x b o. subst (λ k. Over false k c x) all o })

-- at priority 0 of (1,3): (1,3)
prog_even : IsProg three_binder_game 0 (Counts (1 ∷ 3 ∷ [])) (Counts (1 ∷ 3 ∷ []))
prog_even = prog_at_0 three_binder_game (Counts (1 ∷ 3 ∷ [])) refl (omega arith, (omega arith, tt))

-- four measures are below (1,0), those from (0,0) to (0,3): its rank is 4
rank_carry : IsRank three_binder_game (Counts (1 ∷ 0 ∷ [])) 4
rank_carry = rank_is three_binder_game (Counts (1 ∷ 0 ∷ [])) (omega arith, (omega arith, tt))

-- twelve are below top: three counts of priority 3 with four of priority 1
rank_top : IsRank three_binder_game Top 12
rank_top = rank_is three_binder_game Top tt
