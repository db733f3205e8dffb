-- Worked examples of lifting by several workers: what events do, a late raise, and a quiet end.
use Rattle.std.specs.Prelude.{◌≡◌, ℕ, ◌++◌, Bool, true, false, List, [], ◌∷◌, length, map, Contains, Some, slice_get, refl, IsTrue}
use Rattle.std.proofs.Common.{arith, sym, ap, ◌∙◌}
use Rattle.game.specs.declared.player.Player.TheVariants.{Even}
use Rattle.calculus.specs.Tree.{Dia, True}
use Rattle.calculus.specs.Tree as tree
use Rattle.calculus.specs.Nodes.{nodes}
use Rattle.game.specs.Game.{Game, vertex}
use Rattle.game.specs.Arena.{arena}
use Rattle.game.specs.Predecessors.{predecessors}
use Rattle.measures.specs.Measure.{Measure, Top, IsProg}
use Rattle.measures.specs.Progress.{IsProgress, greater_of, opening}
use Rattle.measures.proofs.Bests.{best_single}
use Rattle.measures.proofs.Measures.{top_prog}
use Rattle.liftcore.specs.Core.{Core, Worker, Idle, Holding, Owing, is_quiet, starting_core, without}
use Rattle.liftcore.specs.Step.{TakesVertex, ReadsVertex, LiftsHeld, Skips, Does, Step, Steps, after_raise, value_in, with_pending, with_worker}
use Rattle.liftcore.specs.declared.event.Event.{Event}
use Rattle.liftcore.specs.declared.event.Event.TheVariants.{Take, Read, Raise, Push}
use Rattle.liftcore.proofs.Reached.{steps_last}
use Rattle.liftcore.proofs.Sets.{same_eqb}
use Rattle.vectors.specs.Systems.{two_states, ◌&◌}
use Rattle.vectors.specs.Formulas.{name_a}
use Rattle.vectors.specs.Games.{even_to, game_of_one_step}
use Rattle.vectors.specs.Measures.{prog_at_0}
use Rattle.vectors.specs.Tables.{number, settled, single}

-- <a><a>true on the two-state system
abbrev pub two_steps : Game
two_steps = record {
  vertices = even_to 0 0 ∷ even_to 1 1 ∷ even_to 0 6 ∷ even_to 0 7 ∷ even_to 0 0 ∷ even_to 0 1 ∷ even_to 0 1 ∷ even_to 0 0 ∷ [];
  named = Some (2, 3);
}

arena_two : arena two_states (nodes (Dia (tree.Step name_a) (Dia (tree.Step name_a) True))) ≡ two_steps
arena_two = refl

predecessors_two : (predecessors two_steps 6 ≡ 2 ∷ []) × (predecessors two_steps 1 ≡ 1 ∷ 5 ∷ 6 ∷ []) × (predecessors two_steps 2 ≡ [])
unfolding predecessors
predecessors_two = (refl, refl, refl)

-- ---- steps

-- a worker that holds u and has read nothing, or v with this value
abbrev took : ℕ → Worker
took u = Holding u []

abbrev read : ℕ → ℕ → Measure → Worker
read u v m = Holding u (record { vertex = v; value = m } ∷ [])

takes : {old new : Core} {w v : ℕ} → slice_get old.workers w ≡ Some Idle → Contains old.pending v
    → new ≡ with_worker (with_pending old (without v old.pending)) w (took v) → TakesVertex old w v new
takes idle pending effect = record { idle = idle; pending = pending; effect = effect }

-- a worker reads, and then lifts, at a vertex of Even's with one successor
reads : {old new : Core} {w v : ℕ} (u p : ℕ) → slice_get old.workers w ≡ Some (took u) → vertex old.table.game u ≡ Some (even_to p v)
    → new ≡ with_worker old w (read u v (value_in old v)) → ReadsVertex old w v new
reads {old} {new} {w} {v} u p holds held effect = record {
  u = u;
  notes = [];
  x = even_to p v;
  holds = holds;
  held = held;
  successor = (0, omega arith, refl);
  unread = refl;
  effect = effect;
}

lifts : {old new : Core} {w : ℕ} (u p v : ℕ) (m : Measure) → slice_get old.workers w ≡ Some (read u v m)
    → vertex old.table.game u ≡ Some (even_to p v) → IsProg old.table.game p m m
    → new ≡ after_raise old w u (greater_of (value_in old u) m) → LiftsHeld old w new
lifts {old} {new} {w} u p v m holds held is effect = record {
  u = u;
  notes = record { vertex = v; value = m } ∷ [];
  x = even_to p v;
  values = m ∷ [];
  lifted = greater_of (value_in old u) m;
  holds = holds;
  held = held;
  read = (rw (same_eqb v v refl) refl, tt);
  lift = (m ∷ [], m, (is, tt), best_single Even m, refl);
  effect = effect;
}

-- these events, each with the state that it comes to, are done one after the other
abbrev Passes : Core → List (Event × Core) → Type 0
Passes old [] = Unit {0}
Passes old (step ∷ steps) = Does old step.0 step.1 × Passes step.1 steps

abbrev end_of : Core → List (Event × Core) → Core
end_of old [] = old
end_of old (step ∷ steps) = end_of step.1 steps

abbrev events_of : List (Event × Core) → List Event
events_of steps = map (λ step. step.0) steps

abbrev all_done : List (Event × Core) → List Bool
all_done steps = map (λ step. true) steps

steps_of : (old : Core) (steps : List (Event × Core)) → Passes old steps → Steps old (events_of steps) (all_done steps) (end_of old steps)
steps_of old [] h = refl
steps_of old (step ∷ steps) h = (step.1, h.0, steps_of step.1 steps h.1)

-- ---- three events, and eighteen

abbrev one_table : Measure → List Measure
one_table at_4 = number 0 ∷ Top ∷ number 0 ∷ number 0 ∷ at_4 ∷ number 0 ∷ []

-- two workers on the game of <a>true: the value of vertex 4, what is pending, and the first worker; the second is idle
abbrev one_core : Measure → List ℕ → Worker → Core
one_core at_4 pending x = record { table = record { game = game_of_one_step; values = one_table at_4 }; pending = pending; workers = x ∷ Idle ∷ [] }

-- three events of worker 0: it takes vertex 4, reads the false sink, and raises to top
abbrev first_run : List (Event × Core)
first_run =
    (Take 0 4, one_core (number 0) (0 ∷ 1 ∷ 2 ∷ 3 ∷ 5 ∷ []) (took 4)) ∷ (Read 0 1, one_core (number 0) (0 ∷ 1 ∷ 2 ∷ 3 ∷ 5 ∷ []) (read 4 1 Top))
    ∷ (Raise 0, one_core Top (0 ∷ 1 ∷ 2 ∷ 3 ∷ 5 ∷ []) Idle) ∷ []

first_passes : Passes (starting_core game_of_one_step 2) first_run
unfolding predecessors
first_passes = takes refl (4, omega arith, refl) refl & reads 4 0 refl refl refl & lifts 4 0 1 Top refl refl (top_prog game_of_one_step 0) refl & tt

abbrev first_end : Core
first_end = one_core Top (0 ∷ 1 ∷ 2 ∷ 3 ∷ 5 ∷ []) Idle

pub first_steps : Steps (starting_core game_of_one_step 2) (events_of first_run) (true ∷ true ∷ true ∷ []) first_end
first_steps = steps_of (starting_core game_of_one_step 2) first_run first_passes

-- each vertex is taken, read for and raised once
abbrev each_run : List (Event × Core)
each_run =
    (Take 0 0, one_core (number 0) (1 ∷ 2 ∷ 3 ∷ 4 ∷ 5 ∷ []) (took 0)) ∷ (Read 0 0, one_core (number 0) (1 ∷ 2 ∷ 3 ∷ 4 ∷ 5 ∷ []) (read 0 0 (number 0)))
    ∷ (Raise 0, one_core (number 0) (1 ∷ 2 ∷ 3 ∷ 4 ∷ 5 ∷ []) Idle) ∷ (Take 0 1, one_core (number 0) (2 ∷ 3 ∷ 4 ∷ 5 ∷ []) (took 1))
    ∷ (Read 0 1, one_core (number 0) (2 ∷ 3 ∷ 4 ∷ 5 ∷ []) (read 1 1 Top)) ∷ (Raise 0, one_core (number 0) (2 ∷ 3 ∷ 4 ∷ 5 ∷ []) Idle)
    ∷ (Take 0 2, one_core (number 0) (3 ∷ 4 ∷ 5 ∷ []) (took 2)) ∷ (Read 0 5, one_core (number 0) (3 ∷ 4 ∷ 5 ∷ []) (read 2 5 (number 0)))
    ∷ (Raise 0, one_core (number 0) (3 ∷ 4 ∷ 5 ∷ []) Idle) ∷ (Take 0 3, one_core (number 0) (4 ∷ 5 ∷ []) (took 3))
    ∷ (Read 0 0, one_core (number 0) (4 ∷ 5 ∷ []) (read 3 0 (number 0))) ∷ (Raise 0, one_core (number 0) (4 ∷ 5 ∷ []) Idle)
    ∷ (Take 0 4, one_core (number 0) (5 ∷ []) (took 4)) ∷ (Read 0 1, one_core (number 0) (5 ∷ []) (read 4 1 Top)) ∷ (Raise 0, one_core Top (5 ∷ []) Idle)
    ∷ (Take 0 5, one_core Top [] (took 5)) ∷ (Read 0 0, one_core Top [] (read 5 0 (number 0))) ∷ (Raise 0, one_core Top [] Idle) ∷ []

each_passes : Passes (starting_core game_of_one_step 2) each_run
unfolding predecessors
each_passes =
    let same = prog_at_0 game_of_one_step (number 0) refl (omega arith, tt) in
    takes refl (0, omega arith, refl) refl & reads 0 0 refl refl refl & lifts 0 0 0 (number 0) refl refl same refl
    & takes refl (0, omega arith, refl) refl & reads 1 1 refl refl refl & lifts 1 1 1 Top refl refl (top_prog game_of_one_step 1) refl
    & takes refl (0, omega arith, refl) refl & reads 2 0 refl refl refl & lifts 2 0 5 (number 0) refl refl same refl
    & takes refl (0, omega arith, refl) refl & reads 3 0 refl refl refl & lifts 3 0 0 (number 0) refl refl same refl
    & takes refl (0, omega arith, refl) refl & reads 4 0 refl refl refl & lifts 4 0 1 Top refl refl (top_prog game_of_one_step 0) refl
    & takes refl (0, omega arith, refl) refl & reads 5 0 refl refl refl & lifts 5 0 0 (number 0) refl refl same refl & tt

abbrev each_end : Core
each_end = one_core Top [] Idle

pub each_steps : Steps (starting_core game_of_one_step 2) (events_of each_run) (all_done each_run) each_end
each_steps = steps_of (starting_core game_of_one_step 2) each_run each_passes

-- ---- thirteen events

abbrev two_table : Measure → Measure → Measure → List Measure
two_table at_2 at_5 at_6 = number 0 ∷ Top ∷ at_2 ∷ number 0 ∷ number 0 ∷ at_5 ∷ at_6 ∷ number 0 ∷ []

-- two workers on the game of <a><a>true: the values of the vertices 2, 5 and 6, what is pending, and the workers
abbrev two_core : Measure → Measure → Measure → List ℕ → Worker → Worker → Core
two_core at_2 at_5 at_6 pending x y =
    record { table = record { game = two_steps; values = two_table at_2 at_5 at_6 }; pending = pending; workers = x ∷ y ∷ [] }

abbrev late_5 : Core
late_5 = two_core (number 0) (number 0) Top (0 ∷ 1 ∷ 3 ∷ 4 ∷ 5 ∷ 7 ∷ []) (read 2 6 (number 0)) (Owing (2 ∷ []))

-- thirteen events of two workers, of which the sixth raises by a late value
abbrev late_run : List (Event × Core)
late_run =
    (Take 0 2, two_core (number 0) (number 0) (number 0) (0 ∷ 1 ∷ 3 ∷ 4 ∷ 5 ∷ 6 ∷ 7 ∷ []) (took 2) Idle)
    ∷ (Read 0 6, two_core (number 0) (number 0) (number 0) (0 ∷ 1 ∷ 3 ∷ 4 ∷ 5 ∷ 6 ∷ 7 ∷ []) (read 2 6 (number 0)) Idle)
    ∷ (Take 1 6, two_core (number 0) (number 0) (number 0) (0 ∷ 1 ∷ 3 ∷ 4 ∷ 5 ∷ 7 ∷ []) (read 2 6 (number 0)) (took 6))
    ∷ (Read 1 1, two_core (number 0) (number 0) (number 0) (0 ∷ 1 ∷ 3 ∷ 4 ∷ 5 ∷ 7 ∷ []) (read 2 6 (number 0)) (read 6 1 Top)) ∷ (Raise 1, late_5)
    ∷ (Raise 0, two_core (number 0) (number 0) Top (0 ∷ 1 ∷ 3 ∷ 4 ∷ 5 ∷ 7 ∷ []) Idle (Owing (2 ∷ [])))
    ∷ (Push 1 2, two_core (number 0) (number 0) Top (0 ∷ 1 ∷ 2 ∷ 3 ∷ 4 ∷ 5 ∷ 7 ∷ []) Idle Idle)
    ∷ (Take 0 2, two_core (number 0) (number 0) Top (0 ∷ 1 ∷ 3 ∷ 4 ∷ 5 ∷ 7 ∷ []) (took 2) Idle)
    ∷ (Read 0 6, two_core (number 0) (number 0) Top (0 ∷ 1 ∷ 3 ∷ 4 ∷ 5 ∷ 7 ∷ []) (read 2 6 Top) Idle)
    ∷ (Raise 0, two_core Top (number 0) Top (0 ∷ 1 ∷ 3 ∷ 4 ∷ 5 ∷ 7 ∷ []) Idle Idle)
    ∷ (Take 1 5, two_core Top (number 0) Top (0 ∷ 1 ∷ 3 ∷ 4 ∷ 7 ∷ []) Idle (took 5))
    ∷ (Read 1 1, two_core Top (number 0) Top (0 ∷ 1 ∷ 3 ∷ 4 ∷ 7 ∷ []) Idle (read 5 1 Top))
    ∷ (Raise 1, two_core Top Top Top (0 ∷ 1 ∷ 3 ∷ 4 ∷ 7 ∷ []) Idle Idle) ∷ []

late_passes : Passes (starting_core two_steps 2) late_run
unfolding predecessors
late_passes =
    takes refl (2, omega arith, refl) refl & reads 2 0 refl refl refl & takes refl (5, omega arith, refl) refl & reads 6 0 refl refl refl
    & lifts 6 0 1 Top refl refl (top_prog two_steps 0) refl & lifts 2 0 6 (number 0) refl refl (prog_at_0 two_steps (number 0) refl (omega arith, tt)) refl
    & record { owed = 2 ∷ []; owes = refl; among = (0, omega arith, refl); effect = refl } & takes refl (2, omega arith, refl) refl
    & reads 2 0 refl refl refl & lifts 2 0 6 Top refl refl (top_prog two_steps 0) refl & takes refl (4, omega arith, refl) refl & reads 5 0 refl refl refl
    & lifts 5 0 1 Top refl refl (top_prog two_steps 0) refl & tt

abbrev late_end : Core
late_end = two_core Top Top Top (0 ∷ 1 ∷ 3 ∷ 4 ∷ 7 ∷ []) Idle Idle

pub late_steps : Steps (starting_core two_steps 2) (events_of late_run) (all_done late_run) late_end
late_steps = steps_of (starting_core two_steps 2) late_run late_passes

-- ---- what holds at the end

pub first_settled : IsProgress game_of_one_step (one_table Top)
first_settled =
    let one = single game_of_one_step (one_table Top) in
    let top = top_prog game_of_one_step in
    let same = prog_at_0 game_of_one_step (number 0) refl (omega arith, tt) in
    settled game_of_one_step (one_table Top) (refl, (omega arith, tt) & tt & (omega arith, tt) & (omega arith, tt) & tt & (omega arith, tt) & tt)
    (one 0 0 0 Even (number 0) refl same & one 1 1 1 Even Top refl (top 1) & one 2 0 5 Even (number 0) refl same & one 3 0 0 Even (number 0) refl same
    & one 4 0 1 Even Top refl (top 0) & one 5 0 0 Even (number 0) refl same & tt)

pub late_settled : IsProgress two_steps (two_table Top Top Top)
late_settled =
    let one = single two_steps (two_table Top Top Top) in
    let top = top_prog two_steps in
    let same = prog_at_0 two_steps (number 0) refl (omega arith, tt) in
    settled two_steps (two_table Top Top Top)
    (refl, (omega arith, tt) & tt & tt & (omega arith, tt) & (omega arith, tt) & tt & tt & (omega arith, tt) & tt)
    (one 0 0 0 Even (number 0) refl same & one 1 1 1 Even Top refl (top 1) & one 2 0 6 Even Top refl (top 0) & one 3 0 7 Even (number 0) refl same
    & one 4 0 0 Even (number 0) refl same & one 5 0 1 Even Top refl (top 0) & one 6 0 1 Even Top refl (top 0) & one 7 0 0 Even (number 0) refl same & tt)

opening_not_settled : IsProgress two_steps (opening two_steps) → ⊥
opening_not_settled is =
    let e : Top ≡ number 0 = is.1 5 Top (single two_steps (opening two_steps) 5 0 1 Even Top refl (top_prog two_steps 0)) in cc

-- the last state of the eighteen events is quiet, that of the three isn't
quiet : IsTrue (is_quiet each_end) × (is_quiet first_end ≡ false)
quiet = (refl, refl)

-- ---- what is skipped

-- an idle worker raises nothing
skips_raise : (old : Core) → slice_get old.workers 0 ≡ Some Idle → Skips old (Raise 0) old
skips_raise old idle = record { nothing = λ c h. (let e = sym idle ∙ h.holds in cc); same = refl }

-- a second raise at the end is skipped, and so is one before the first event
pub raised_twice : Steps (starting_core game_of_one_step 2) (events_of first_run ++ Raise 0 ∷ []) (true ∷ true ∷ true ∷ false ∷ []) first_end
raised_twice =
    steps_last (starting_core game_of_one_step 2) first_end first_end (events_of first_run) (true ∷ true ∷ true ∷ []) (Raise 0) false first_steps
    (skips_raise first_end refl)

pub raised_first : Steps (starting_core two_steps 2) (Raise 0 ∷ events_of late_run) (false ∷ all_done late_run) late_end
raised_first = (starting_core two_steps 2, skips_raise (starting_core two_steps 2) refl, late_steps)

-- A step that can be done isn't skipped: where vertex 4 is pending and worker 0 idle, it is taken.
not_skipped : Step (starting_core game_of_one_step 2) (Take 0 4) false (starting_core game_of_one_step 2) → ⊥
not_skipped h = h.nothing (one_core (number 0) (0 ∷ 1 ∷ 2 ∷ 3 ∷ 5 ∷ []) (took 4)) first_passes.0

-- nor is it done in another way: it doesn't stay pending
not_kept : TakesVertex (starting_core game_of_one_step 2) 0 4 (starting_core game_of_one_step 2) → ⊥
not_kept h = let e : ◌≡◌ {A = ℕ} 6 5 = ap (λ (c : Core). length c.pending) h.effect in omega (arith, e)

-- After the fifth event worker 1 owes vertex 2, and so a raise that makes nothing owed is no step.
owes_two : slice_get late_5.workers 1 ≡ Some (Owing (2 ∷ []))
owes_two = refl
