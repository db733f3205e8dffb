-- Worked examples of lifts and of progress tables.
use Rattle.std.specs.Prelude.{◌≡◌, ℕ, suc, ◌<◌, ◌≤◌, true, List, [], ◌∷◌, length, Some, slice_set, refl}
use Rattle.std.specs.List.{AllByRecursion, range_with_len}
use Rattle.std.proofs.Common.{arith, sym, ap, subst, ◌∙◌, true≢false}
use Rattle.std.proofs.lemmas.List.{length-set}
use Rattle.std.proofs.lemmas.Option.{slice_get_within}
use Rattle.game.specs.declared.player.Player.{Player}
use Rattle.game.specs.declared.player.Player.TheVariants.{Even, Odd}
use Rattle.game.specs.Game.{Game, count, vertex}
use Rattle.measures.specs.Lifting.{IsLifted, AreLifts}
use Rattle.measures.specs.Measure.{Measure, Top, Counts, IsMeasure, IsProg}
use Rattle.measures.specs.Progress.{IsLift, IsLiftAt, IsProgress, IsLeastTable, IsTable, IsUnder, greater_of, opening, value_at}
use Rattle.measures.proofs.Bests.{best_single}
use Rattle.measures.proofs.Lifting.{lifting_least}
use Rattle.measures.proofs.Lists.{all_contained, all_or}
use Rattle.measures.proofs.Measures.{at_most_top, at_most_trans, full, least_prog, none_least, none_prog, own_greater, raised, top_prog}
use Rattle.measures.proofs.Monotone.{lift_one}
use Rattle.measures.proofs.Plain.{value_set_other, value_set_same}
use Rattle.laws.proofs.Lists.{gives_range}
use Rattle.vectors.specs.Systems.{◌&◌}
use Rattle.vectors.specs.Games.{even_to, vertex_at, often_a_game, is_game_often_a}
use Rattle.vectors.specs.Measures.{prog_at_0}

abbrev pub number : ℕ → Measure
number k = Counts (k ∷ [])

opening_often_a : opening often_a_game
    ≡ number 0 ∷ Top ∷ number 0 ∷ number 0 ∷ number 0 ∷ number 0 ∷ number 0 ∷ number 0
    ∷ number 0 ∷ number 0 ∷ number 0 ∷ number 0 ∷ number 0 ∷ number 0 ∷ number 0 ∷ number 0 ∷ []
opening_often_a = refl

-- at priority 0 a measure reaches itself
prog_0 : (k : ℕ) → k ≤ 3 → IsProg often_a_game 0 (number k) (number k)
prog_0 k h = prog_at_0 often_a_game (number k) refl (h, tt)

-- at priority 1 it takes one more
prog_1 : (k : ℕ) → suc k ≤ 3 → IsProg often_a_game 1 (number k) (number (suc k))
prog_1 k h = least_prog often_a_game 1 (k ∷ []) (suc k ∷ []) (raised (count often_a_game) 1 [] true 0 k [] h (λ x b o. true≢false o))

-- three vertices have priority 1, so that nothing but top comes after 3
prog_1_last : IsProg often_a_game 1 (number 3) Top
prog_1_last = none_prog often_a_game 1 (3 ∷ []) (full (count often_a_game) 1 [] true 0 3 [] (omega arith) (λ x b o. true≢false o))

-- at priority 2 the count of priority 1 begins again
prog_2 : (k : ℕ) → IsProg often_a_game 2 (number k) (number 0)
prog_2 k = least_prog often_a_game 2 (k ∷ []) (0 ∷ [])
    (record { bounded = (omega arith, tt); over = refl; least = λ x b o. none_least (count often_a_game) (1 ∷ []) x b })

-- Even takes the least of the successors' values, Odd the greatest, and no vertex falls below its own
lift_even : IsLift often_a_game (vertex_at 0 Even (5 ∷ 7 ∷ [])) (number 0) (number 0 ∷ Top ∷ []) (number 0)
lift_even = (number 0 ∷ Top ∷ [], number 0, prog_0 0 (omega arith) & top_prog often_a_game 0 & tt, ((0, omega arith, refl), refl & refl & tt), refl)

lift_odd : IsLift often_a_game (vertex_at 0 Odd (5 ∷ 7 ∷ [])) (number 0) (number 0 ∷ Top ∷ []) Top
lift_odd = (number 0 ∷ Top ∷ [], Top, prog_0 0 (omega arith) & top_prog often_a_game 0 & tt, ((1, omega arith, refl), refl & refl & tt), refl)

lift_last : IsLift often_a_game (even_to 1 4) (number 2) (number 3 ∷ []) Top
lift_last = (Top ∷ [], Top, (prog_1_last, tt), best_single Even Top, refl)

lift_own : IsLift often_a_game (even_to 2 10) (number 1) (number 3 ∷ []) (number 1)
lift_own = (number 0 ∷ [], number 0, (prog_2 3, tt), best_single Even (number 0), refl)

-- at vertex 11 the value is taken from vertex 14
lift_11 : (own : Measure) → number 1 ≡ greater_of own (number 1) → IsLift often_a_game (vertex_at 0 Even (12 ∷ 14 ∷ [])) own (Top ∷ number 1 ∷ []) (number 1)
lift_11 own is = (Top ∷ number 1 ∷ [], number 1, top_prog often_a_game 0 & prog_0 1 (omega arith) & tt, ((1, omega arith, refl), refl & refl & tt), is)

-- the lift at a vertex with one successor
pub single : (g : Game) (table : List Measure) (v p t : ℕ) (o : Player) (r : Measure) → vertex g v ≡ Some (vertex_at p o (t ∷ [])) → IsProg g p (value_at table t) r
    → IsLiftAt g table v (greater_of (value_at table v) r)
single g table v p t o r at is = (vertex_at p o (t ∷ []), at, (r ∷ [], r, (is, tt), best_single o r, refl))

-- a table that has the lift at each vertex
pub settled : (g : Game) (table : List Measure) → IsTable g table
    → AllByRecursion (λ v. IsLiftAt g table v (value_at table v)) (range_with_len 0 (length g.vertices)) → IsProgress g table
settled g table is each = (
  is,
  λ v r lift. lift_one g table v r (value_at table v) lift
      (all_contained (λ u. IsLiftAt g table u (value_at table u)) (range_with_len 0 (length g.vertices)) v each
      (gives_range 0 (length g.vertices) v (omega arith) (omega (arith, slice_get_within g.vertices v lift.0 lift.1)))),
)

-- the least progress table: top where Even loses, and elsewhere how many of the vertices of priority 1 are met before one of priority 2
abbrev pub least_often_a : List Measure
least_often_a =
    number 0 ∷ Top ∷ number 0 ∷ number 1 ∷ number 0 ∷ number 0 ∷ number 0 ∷ Top
    ∷ number 1 ∷ number 0 ∷ number 2 ∷ number 1 ∷ Top ∷ number 0 ∷ number 1 ∷ number 2 ∷ []

table_often_a : IsTable often_a_game least_often_a
table_often_a = (refl, z & tt & z & o & z & z & z & tt & o & z & w & o & tt & z & o & w & tt)
  where
    z : IsMeasure often_a_game (number 0)
    z = (omega arith, tt)

    o : IsMeasure often_a_game (number 1)
    o = (omega arith, tt)

    w : IsMeasure often_a_game (number 2)
    w = (omega arith, tt)

-- at each vertex the lift is its value
settled_often_a : AllByRecursion (λ v. IsLiftAt often_a_game least_often_a v (value_at least_often_a v)) (range_with_len 0 16)
settled_often_a =
    let one = single often_a_game least_often_a in
    let top = top_prog often_a_game in
    let zero = prog_0 0 (omega arith) in
    let number_1 = prog_0 1 (omega arith) in
    one 0 0 0 Even (number 0) refl zero & one 1 1 1 Even Top refl (top 1) & one 2 2 3 Even (number 0) refl (prog_2 1)
    & one 3 1 4 Even (number 1) refl (prog_1 0 (omega arith)) & (vertex_at 0 Even (5 ∷ 7 ∷ []), refl, lift_even) & one 5 0 13 Even (number 0) refl zero
    & one 6 0 2 Even (number 0) refl zero & one 7 0 1 Even Top refl (top 0) & one 8 0 3 Even (number 1) refl number_1
    & one 9 2 10 Even (number 0) refl (prog_2 2) & one 10 1 11 Even (number 2) refl (prog_1 1 (omega arith))
    & (vertex_at 0 Even (12 ∷ 14 ∷ []), refl, lift_11 (number 1) refl) & one 12 0 1 Even Top refl (top 0) & one 13 0 9 Even (number 0) refl zero
    & one 14 0 8 Even (number 1) refl number_1 & one 15 0 10 Even (number 2) refl (prog_0 2 (omega arith)) & tt

pub progress_often_a : IsProgress often_a_game least_often_a
progress_often_a = settled often_a_game least_often_a table_often_a settled_often_a

-- one vertex lifted
lifted : (table : List Measure) (v : ℕ) (m : Measure) → v < length table → IsLiftAt often_a_game table v m → IsLifted often_a_game table (slice_set table v m)
lifted table v m h lift = record {
  at = v;
  lift = subst (IsLiftAt often_a_game table v) (sym (value_set_same table v m h)) lift;
  others = λ u n. value_set_other table v u m n;
  long = length-set table v m;
}

-- the tables after each of these values is set
abbrev set_each : List Measure → List (ℕ × Measure) → List (List Measure)
set_each table [] = []
set_each table (x ∷ xs) = slice_set table x.0 x.1 ∷ set_each (slice_set table x.0 x.1) xs

abbrev lifted_tables : List (List Measure)
lifted_tables = set_each (opening often_a_game)
    ((7, Top) ∷ (12, Top) ∷ (3, number 1) ∷ (8, number 1) ∷ (14, number 1) ∷ (11, number 1) ∷ (10, number 2) ∷ (15, number 2) ∷ [])

-- the lift at a vertex of Even's with one successor
rise : {table : List Measure} (v p t : ℕ) (r : Measure) → v < length table → vertex often_a_game v ≡ Some (even_to p t)
    → IsProg often_a_game p (value_at table t) r → IsLifted often_a_game table (slice_set table v (greater_of (value_at table v) r))
rise {table} v p t r h at is = lifted table v (greater_of (value_at table v) r) h (single often_a_game table v p t Even r at is)

lifts_often_a : AreLifts often_a_game (opening often_a_game) lifted_tables least_often_a
lifts_often_a =
    rise 7 0 1 Top (omega arith) refl (top_prog often_a_game 0) & rise 12 0 1 Top (omega arith) refl (top_prog often_a_game 0)
    & rise 3 1 4 (number 1) (omega arith) refl (prog_1 0 (omega arith)) & rise 8 0 3 (number 1) (omega arith) refl (prog_0 1 (omega arith))
    & rise 14 0 8 (number 1) (omega arith) refl (prog_0 1 (omega arith))
    & lifted _ 11 (number 1) (omega arith) (vertex_at 0 Even (12 ∷ 14 ∷ []), refl, lift_11 (number 0) refl)
    & rise 10 1 11 (number 2) (omega arith) refl (prog_1 1 (omega arith)) & rise 15 0 10 (number 2) (omega arith) refl (prog_0 2 (omega arith)) & refl

-- eight lifts from the opening table come to it
pub least_table_often_a : IsLeastTable often_a_game least_often_a
least_table_often_a = lifting_least often_a_game is_game_often_a lifted_tables least_often_a lifts_often_a progress_often_a

-- at vertex 10 a count of 1 is below, and 2 too; 3 is not, as the least progress table shows
under_one : IsUnder often_a_game 10 (number 1)
under_one table progress = at_most_trans (number 1) (number 2) (value_at table 10) refl (least_table_often_a.under 10 (omega arith) table progress)

under_two : IsUnder often_a_game 10 (number 2)
under_two = least_table_often_a.under 10 (omega arith)

not_under_three : IsUnder often_a_game 10 (number 3) → ⊥
not_under_three under = true≢false (sym (under least_often_a progress_often_a))

-- at vertex 1, the false sink, every progress table has top
under_top : IsUnder often_a_game 1 Top
under_top = least_table_often_a.under 1 (omega arith)

-- the opening table isn't a progress table
opening_not_settled : IsProgress often_a_game (opening often_a_game) → ⊥
opening_not_settled is =
    let e : Top ≡ number 0 = is.1 7 Top (single often_a_game (opening often_a_game) 7 0 1 Even Top refl (top_prog often_a_game 0)) in cc

-- the table of tops is one, though not the least
abbrev tops : List Measure
tops = Top ∷ Top ∷ Top ∷ Top ∷ Top ∷ Top ∷ Top ∷ Top ∷ Top ∷ Top ∷ Top ∷ Top ∷ Top ∷ Top ∷ Top ∷ Top ∷ []

top_at : (v : ℕ) → value_at tops v ≡ Top
top_at v =
    all_or (λ m. m ≡ Top) tops v Top
    (refl & refl & refl & refl & refl & refl & refl & refl & refl & refl & refl & refl & refl & refl & refl & refl & tt) refl

progress_tops : IsProgress often_a_game tops
progress_tops = (
  (refl, tt & tt & tt & tt & tt & tt & tt & tt & tt & tt & tt & tt & tt & tt & tt & tt & tt),
  λ v r lift. lift.2.4 ∙ (ap (λ own. greater_of own lift.2.1) (top_at v) ∙ own_greater Top lift.2.1 (at_most_top lift.2.1)) ∙ sym (top_at v),
)

not_least_tops : IsLeastTable often_a_game tops → ⊥
not_least_tops least = true≢false (sym (least.under 0 (omega arith) least_often_a progress_often_a))
