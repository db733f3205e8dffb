-- What every event keeps: the game, that values stay below, and that notes are at most the present values.
use Rattle.std.proofs.Common.{◌≡◌, ℕ, Bool, true, false, if◌then◌else◌, List, [], ◌∷◌, refl, sym, ◌∙◌, ap, subst, inl, inr, Option, Some, None, slice_set}
use Rattle.std.specs.Prelude.{slice_get, unwrap_or}
use Rattle.std.specs.Ordering.{is_lt}
use Rattle.std.proofs.lemmas.Option.{none-some, slice_get_within}
use Rattle.game.specs.Game.{Game, IsGame}
use Rattle.measures.specs.Measure.{Measure, IsAtMost, measure_cmp}
use Rattle.measures.specs.Progress.{IsProgress, opening, value_at}
use Rattle.measures.specs.Tables.{IsPlain, IsSettled, LiesBelow}
use Rattle.measures.proofs.Measures.{at_most_itself, at_most_trans, below_at_most}
use Rattle.measures.proofs.Plain.{opening_plain, plain_settled, set_plain}
use Rattle.liftcore.specs.Core.{with_note, without, Core, Note, Idle, Holding, Owing, noted, owing, starting_core}
use Rattle.game.specs.Predecessors.{predecessors}
use Rattle.liftcore.specs.Step.{Does, LiftsHeld, Step, Steps, after_raise, value_in, with_value, with_worker}
use Rattle.liftcore.specs.declared.event.Event.{Event}
use Rattle.liftcore.specs.declared.event.Event.TheVariants.{Take, Read, Raise, Push}
use Rattle.liftcore.proofs.Sets.{get_back}
use Rattle.liftcore.proofs.Notes.{holds_same, idle_holds, noted_more, noted_or, owing_holds, start_idle, zip_noted}
use Rattle.liftcore.proofs.Raising.{noted_below, rises_set}

-- what each event keeps holds to the end
pub steps_keep : (P : Core → Type 0) → ((old new : Core) (event : Event) → Does old event new → P old → P new)
    → (old new : Core) (events : List Event) (dones : List Bool) → Steps old events dones new → P old → P new
steps_keep P keep old new [] [] h p = subst P (sym h) p
steps_keep P keep old new [] (d ∷ ds) h p = absurd h
steps_keep P keep old new (e ∷ es) [] h p = absurd h
steps_keep P keep old new (e ∷ es) (true ∷ ds) (c, s, r) p = steps_keep P keep c new es ds r (keep old c e s p)
steps_keep P keep old new (e ∷ es) (false ∷ ds) (c, s, r) p = steps_keep P keep c new es ds r (subst P (sym s.same) p)

-- a raise in two cases
pub raise_cases : (P : Core → Type 0) (c : Core) (w u : ℕ) (m : Measure)
    → (is_lt (measure_cmp (value_in c u) m) ≡ true → P (with_worker (with_value c u m) w (owing (predecessors c.table.game u))))
    → (is_lt (measure_cmp (value_in c u) m) ≡ false → P (with_worker c w Idle)) → P (after_raise c w u m)
raise_cases P c w u m rise stay = by (is_lt (measure_cmp (value_in c u) m)) rise stay
  where
    by : (b : Bool) → (b ≡ true → P (with_worker (with_value c u m) w (owing (predecessors c.table.game u)))) → (b ≡ false → P (with_worker c w Idle))
        → P (if b then with_worker (with_value c u m) w (owing (predecessors c.table.game u)) else with_worker c w Idle)
    by true f h = f refl
    by false f h = h refl

-- ---- the table never falls

pub does_rises : (old new : Core) (event : Event) → Does old event new → (v : ℕ) → IsAtMost (value_in old v) (value_in new v)
does_rises old new (Take w t) d v = subst (λ (c : Core). IsAtMost (value_in old v) (value_in c v)) (sym d.effect) (at_most_itself (value_in old v))
does_rises old new (Read w t) d v = subst (λ (c : Core). IsAtMost (value_in old v) (value_in c v)) (sym d.effect) (at_most_itself (value_in old v))
does_rises old new (Push w t) d v = subst (λ (c : Core). IsAtMost (value_in old v) (value_in c v)) (sym d.effect) (at_most_itself (value_in old v))
does_rises old new (Raise w) d v = subst (λ (c : Core). IsAtMost (value_in old v) (value_in c v)) (sym d.effect)
    (raise_cases (λ c. IsAtMost (value_in old v) (value_in c v)) old w d.u d.lifted
    (λ e. rises_set old.table.values d.u v d.lifted (below_at_most (value_in old d.u) d.lifted e))
    (λ e. at_most_itself (value_in old v)))

pub never_falls : (old new : Core) (event : Event) (done : Bool) → Step old event done new → (v : ℕ) → IsAtMost (value_in old v) (value_in new v)
never_falls old new event true s v = does_rises old new event s v
never_falls old new event false s v = subst (λ (c : Core). IsAtMost (value_in old v) (value_in c v)) (sym s.same) (at_most_itself (value_in old v))

-- ---- the game stays

pub game_does : (g : Game) (old new : Core) (event : Event) → Does old event new → old.table.game ≡ g → new.table.game ≡ g
game_does g old new (Take w t) d e = ap (λ (c : Core). c.table.game) d.effect ∙ e
game_does g old new (Read w t) d e = ap (λ (c : Core). c.table.game) d.effect ∙ e
game_does g old new (Push w t) d e = ap (λ (c : Core). c.table.game) d.effect ∙ e
game_does g old new (Raise w) d e = ap (λ (c : Core). c.table.game) d.effect ∙ raise_cases (λ c. c.table.game ≡ g) old w d.u d.lifted (λ i. e) (λ i. e)

pub game_stays : (g : Game) (workers : ℕ) (events : List Event) (dones : List Bool) (c : Core) → Steps (starting_core g workers) events dones c → c.table.game ≡ g
game_stays g workers events dones c s = steps_keep (λ k. k.table.game ≡ g) (game_does g) (starting_core g workers) c events dones s refl

-- ---- values stay below

pub record Sound (c : Core) : Type 0 where
  pub plain : IsPlain c.table
  pub low : (k u : ℕ) (notes : List Note) → slice_get c.workers k ≡ Some (Holding u notes) → (t : ℕ) (m : Measure) → noted notes t ≡ Some m
      → IsAtMost m (value_in c t)

-- what was noted, or else the value, is at most the value
noted_low : (c : Core) (notes : List Note) → ((t : ℕ) (m : Measure) → noted notes t ≡ Some m → IsAtMost m (value_in c t)) → (t : ℕ)
    → IsAtMost (noted_or notes (value_in c) t) (value_in c t)
noted_low c notes low t = by (noted notes t) (low t)
  where
    by : (o : Option Measure) → ((m : Measure) → o ≡ Some m → IsAtMost m (value_in c t)) → IsAtMost (unwrap_or o (value_in c t)) (value_in c t)
    by None h = at_most_itself (value_in c t)
    by (Some m) h = h m refl

-- the lifted measure lies below
lifted_below : (old new : Core) (w : ℕ) → Sound old → (d : LiftsHeld old w new) → LiesBelow old.table.game d.u d.lifted
lifted_below old new w s d =
    noted_below old.table.game old.table.values s.plain d.u d.x (noted_or d.notes (value_in old)) d.values d.lifted d.held
    (noted_low old d.notes (s.low w d.u d.notes d.holds))
    (zip_noted d.notes (value_in old) d.x.successors d.values d.read) d.lift

pub sound_does : (old new : Core) (event : Event) → Does old event new → Sound old → Sound new
sound_does old new (Take w v) d s = subst Sound (sym d.effect) (record {
  plain = s.plain;
  low = λ k u notes e t m n. elim (get_back old.workers w k (Holding v []) Idle (Holding u notes) d.idle e) [
    | inl q ↦ absurd (none-some m (subst (λ ns. noted ns t ≡ Some m) (sym (holds_same v u [] notes q).1) n))
    | inr q ↦ s.low k u notes q t m n
  ];
})
sound_does old new (Read w v) d s = subst Sound (sym d.effect) (record {
  plain = s.plain;
  low = λ k u notes e t m n. elim (get_back old.workers w k (Holding d.u (with_note (record { vertex = v; value = value_in old v }) d.notes))
      (Holding d.u d.notes) (Holding u notes) d.holds e) [
        | inl q ↦ elim (noted_more (record { vertex = v; value = value_in old v }) d.notes t m
            (subst (λ ns. noted ns t ≡ Some m) (sym (holds_same d.u u (with_note (record { vertex = v; value = value_in old v }) d.notes) notes q).1) n)) [
              | inl i ↦ s.low w d.u d.notes d.holds t m i
              | inr i ↦ subst (λ z. IsAtMost z (value_in old t)) i.1
                  (subst (λ z. IsAtMost (value_in old v) (value_in old z)) i.0 (at_most_itself (value_in old v)))
            ]
        | inr q ↦ s.low k u notes q t m n
      ];
})
sound_does old new (Push w v) d s = subst Sound (sym d.effect) (record {
  plain = s.plain;
  low = λ k u notes e t m n. elim (get_back old.workers w k (owing (without v d.owed)) (Owing d.owed) (Holding u notes) d.owes e) [
    | inl q ↦ absurd (owing_holds (without v d.owed) u notes q)
    | inr q ↦ s.low k u notes q t m n
  ];
})
sound_does old new (Raise w) d s = subst Sound (sym d.effect) (raise_cases Sound old w d.u d.lifted
    (λ b. record {
      plain = set_plain old.table d.u d.lifted s.plain (slice_get_within old.table.game.vertices d.u d.x d.held) (lifted_below old new w s d);
      low = λ k u notes e t m n. elim (get_back old.workers w k (owing (predecessors old.table.game d.u)) (Holding d.u d.notes) (Holding u notes) d.holds e) [
        | inl q ↦ absurd (owing_holds (predecessors old.table.game d.u) u notes q)
        | inr q ↦ at_most_trans m (value_in old t) (value_at (slice_set old.table.values d.u d.lifted) t) (s.low k u notes q t m n)
            (rises_set old.table.values d.u t d.lifted (below_at_most (value_in old d.u) d.lifted b))
      ];
    })
    (λ b. record {
      plain = s.plain;
      low = λ k u notes e t m n. elim (get_back old.workers w k Idle (Holding d.u d.notes) (Holding u notes) d.holds e) [
        | inl q ↦ absurd (idle_holds u notes q)
        | inr q ↦ s.low k u notes q t m n
      ];
    }))

pub sound_start : (g : Game) (workers : ℕ) → IsGame g → Sound (starting_core g workers)
sound_start g workers game = record {
  plain = opening_plain g (opening g) game refl;
  low = λ k u notes e t m n. absurd (idle_holds u notes (start_idle workers k (Holding u notes) e));
}

pub stays_below : (g : Game) (workers : ℕ) (events : List Event) (dones : List Bool) (c : Core) → IsGame g → Steps (starting_core g workers) events dones c
    → IsPlain c.table
stays_below g workers events dones c game s = (steps_keep Sound sound_does (starting_core g workers) c events dones s (sound_start g workers game)).plain

pub settled_is_least : (g : Game) (workers : ℕ) (events : List Event) (dones : List Bool) (c : Core) → IsGame g → Steps (starting_core g workers) events dones c
    → IsProgress g c.table.values → IsSettled c.table
settled_is_least g workers events dones c game s is =
    plain_settled c.table (stays_below g workers events dones c game s)
    (subst (λ h. IsProgress h c.table.values) (sym (game_stays g workers events dones c s)) is)
