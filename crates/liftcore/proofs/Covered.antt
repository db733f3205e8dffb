-- A vertex waits, or is owed, or is held by a worker that read no old value, or is settled.
use Rattle.std.proofs.Common.{◌≡◌, ◌≢◌, ◌⊎◌, ℕ, ◌<◌, Bool, true, false, List, [], ◌∷◌, length, sym, ◌∙◌, ap, subst, inl, inr, arith, true≢false, Contains}
use Rattle.std.proofs.Common.{Some, slice_set, IsTrue}
use Rattle.std.specs.Prelude.{slice_get, ◌==◌}
use Rattle.std.specs.List.{AllZip, list_all, list_any}
use Rattle.std.specs.Ordering.{is_lt}
use Rattle.std.proofs.lemmas.Bool.Decides.{eqb_tells}
use Rattle.std.proofs.lemmas.Option.{none-some, same_Some, slice_get_within}
use Rattle.game.specs.Game.{Game, IsGame, Vertex, vertex}
use Rattle.measures.specs.Measure.{Measure, IsAtMost, measure_cmp}
use Rattle.measures.specs.Progress.{IsLift, IsProgress, value_at}
use Rattle.measures.specs.Settling.{IsStill}
use Rattle.measures.proofs.Bests.{vertex_here}
use Rattle.measures.proofs.Lifts.{Settled}
use Rattle.measures.proofs.Lists.{contains_none}
use Rattle.measures.proofs.Measures.{at_most_itself, below_at_most, own_greater}
use Rattle.measures.proofs.Plain.{value_set_other, value_set_same}
use Rattle.measures.proofs.Settling.{all_still}
use Rattle.game.specs.NumberSet.{with_number}
use Rattle.liftcore.specs.Core.{with_note, without, Core, Note, Worker, Idle, Holding, Owing, is_empty, is_idle, is_quiet, noted, owing, starting_core}
use Rattle.game.specs.Predecessors.{predecessors}
use Rattle.liftcore.specs.Step.{Does, Steps, value_in, with_pending, with_value, with_worker}
use Rattle.liftcore.specs.declared.event.Event.{Event}
use Rattle.liftcore.specs.declared.event.Event.TheVariants.{Take, Read, Raise, Push}
use Rattle.liftcore.proofs.Sets.{and_both, cases, get_kept, get_same, gives_any, gives_range, in_with_itself, in_with_kept, map_same, same_eqb, set_get_other}
use Rattle.liftcore.proofs.Sets.{set_get_same, without_kept}
use Rattle.liftcore.proofs.Notes.{all_idle, holds_owes, holds_same, idle_holds, idle_owes, in_predecessors, noted_more, owes_same, owing_has, zip_fresh}
use Rattle.liftcore.proofs.Raising.{lift_settles, not_risen, rises_set, still_kept}
use Rattle.liftcore.proofs.Sound.{Sound, game_stays, raise_cases, sound_does, sound_start, steps_keep}

abbrev Owed : Core → ℕ → Type 0
Owed c y = (k : ℕ) × (owed : List ℕ) × (slice_get c.workers k ≡ Some (Owing owed)) × Contains owed y

-- held, and what was noted of its successors are the present values
abbrev Fresh : Core → ℕ → Vertex → Type 0
Fresh c y x = (k : ℕ) × (notes : List Note) × (slice_get c.workers k ≡ Some (Holding y notes))
    × ((t : ℕ) (m : Measure) → Contains x.successors t → noted notes t ≡ Some m → m ≡ value_in c t)

abbrev Covered : Core → ℕ → Vertex → Type 0
Covered c y x = Contains c.pending y ⊎ (Owed c y ⊎ (Fresh c y x ⊎ Settled c.table.game c.table.values y x))

-- it holds of each vertex
abbrev pub AllCovered : Core → Type 0
AllCovered c = (y : ℕ) (x : Vertex) → vertex c.table.game y ≡ Some x → Covered c y x

take_covers : (old : Core) (w v y : ℕ) (x : Vertex) → slice_get old.workers w ≡ Some Idle → Covered old y x
    → Covered (with_worker (with_pending old (without v old.pending)) w (Holding v [])) y x
take_covers old w v y x idle (inl p) = elim (eqb_tells y v) [
  | inl q ↦ inr (inr (inl (
    w,
    [],
    subst (λ z. slice_get (slice_set old.workers w (Holding v [])) w ≡ Some (Holding z [])) (sym q.1) (set_get_same old.workers w (Holding v []) Idle idle),
    λ t m h n. absurd (none-some m n),
  )))
  | inr q ↦ inl (without_kept v y old.pending q.1 p)
]
take_covers old w v y x idle (inr (inl (k, owed, e, h))) = inr
    (inl (k, owed, get_kept old.workers w k (Holding v []) Idle (Owing owed) idle e (idle_owes owed), h))
take_covers old w v y x idle (inr (inr (inl (k, notes, e, f)))) = inr
    (inr (inl (k, notes, get_kept old.workers w k (Holding v []) Idle (Holding y notes) idle e (idle_holds y notes), f)))
take_covers old w v y x idle (inr (inr (inr s))) = inr (inr (inr s))

abbrev note_in : Core → ℕ → Note
note_in c v = record { vertex = v; value = value_in c v }

read_covers : (old : Core) (w v u : ℕ) (notes : List Note) (y : ℕ) (x : Vertex) → slice_get old.workers w ≡ Some (Holding u notes) → Covered old y x
    → Covered (with_worker old w (Holding u (with_note (note_in old v) notes))) y x
read_covers old w v u notes y x holds (inl p) = inl p
read_covers old w v u notes y x holds (inr (inl (k, owed, e, h))) = inr
    (inl (k, owed, get_kept old.workers w k (Holding u (with_note (note_in old v) notes)) (Holding u notes) (Owing owed) holds e (holds_owes u notes owed), h))
read_covers old w v u notes y x holds (inr (inr (inl (k, ns, e, f)))) = elim (eqb_tells k w) [
  | inl q ↦ (let new = with_note (note_in old v) notes in
      let same = holds_same y u ns notes (get_same old.workers w k (Holding u notes) (Holding y ns) q.1 holds e) in
      inr (inr (inl (
        w,
        new,
        subst (λ z. slice_get (slice_set old.workers w (Holding u new)) w ≡ Some (Holding z new)) (sym same.0)
            (set_get_same old.workers w (Holding u new) (Holding u notes) holds),
        λ t m h n. elim (noted_more (note_in old v) notes t m n) [
          | inl i ↦ f t m h (subst (λ os. noted os t ≡ Some m) (sym same.1) i)
          | inr i ↦ sym i.1 ∙ ap (value_in old) i.0
        ],
      ))))
  | inr q ↦ inr (inr (inl (k, ns, set_get_other old.workers w k (Holding u (with_note (note_in old v) notes)) q.1 ∙ e, f)))
]
read_covers old w v u notes y x holds (inr (inr (inr s))) = inr (inr (inr s))

push_covers : (old : Core) (w v : ℕ) (owed : List ℕ) (y : ℕ) (x : Vertex) → slice_get old.workers w ≡ Some (Owing owed) → Covered old y x
    → Covered (with_worker (with_pending old (with_number v old.pending)) w (owing (without v owed))) y x
push_covers old w v owed y x owes (inl p) = inl (in_with_kept v y old.pending p)
push_covers old w v owed y x owes (inr (inl (k, os, e, h))) = elim (eqb_tells y v) [
  | inl q ↦ inl (subst (λ z. Contains (with_number v old.pending) z) (sym q.1) (in_with_itself v old.pending))
  | inr q ↦ elim (eqb_tells k w) [
    | inl i ↦ (let same = owes_same os owed (get_same old.workers w k (Owing owed) (Owing os) i.1 owes e) in
        let c = without_kept v y owed q.1 (subst (λ (z : List ℕ). Contains z y) same h) in
        inr (inl (
          w,
          without v owed,
          set_get_same old.workers w (owing (without v owed)) (Owing owed) owes
              ∙ ap (λ (z : Worker). Some z) (owing_has (without v owed) y c),
          c,
        )))
    | inr i ↦ inr (inl (k, os, set_get_other old.workers w k (owing (without v owed)) i.1 ∙ e, h))
  ]
]
push_covers old w v owed y x owes (inr (inr (inl (k, notes, e, f)))) =
    inr (inr (inl (
      k,
      notes,
      get_kept old.workers w k (owing (without v owed)) (Owing owed) (Holding y notes) owes e (λ q. holds_owes y notes owed (sym q)),
      f,
    )))
push_covers old w v owed y x owes (inr (inr (inr s))) = inr (inr (inr s))

module _ (old : Core) (w u : ℕ) (notes : List Note) (z : Vertex) (values : List Measure) (r : Measure)
    (holds : slice_get old.workers w ≡ Some (Holding u notes)) (held : vertex old.table.game u ≡ Some z)
    (read : AllZip (λ t m. noted notes t ≡ Some m) z.successors values) (lift : IsLift old.table.game z (value_in old u) values r) where
  -- where the raising worker read no old value, its vertex is settled by its lift
  raised_settles : (new : List Measure) (k y : ℕ) (ns : List Note) (x : Vertex) → vertex old.table.game y ≡ Some x → k ≡ w
      → slice_get old.workers k ≡ Some (Holding y ns)
      → ((t : ℕ) (m : Measure) → Contains x.successors t → noted ns t ≡ Some m → m ≡ value_at new t) → IsAtMost r (value_at new u)
      → Settled old.table.game new y x
  raised_settles new k y ns x at q e f h =
      let same = holds_same y u ns notes (get_same old.workers w k (Holding u notes) (Holding y ns) q holds e) in
      let xz : x ≡ z = same_Some x z (sym at ∙ (ap (vertex old.table.game) same.0 ∙ held)) in
      let fresh = λ (t : ℕ) (m : Measure) (c : Contains z.successors t) (n : noted notes t ≡ Some m). f t m
      (subst (λ (a : Vertex). Contains a.successors t) (sym xz) c) (subst (λ os. noted os t ≡ Some m) (sym same.1) n) in
      let s = lift_settles old.table.game new u z (value_in old u) values r (zip_fresh notes (value_at new) z.successors values fresh read) lift h in
      subst (λ (a : ℕ). Settled old.table.game new a x) (sym same.0) (subst (λ (a : Vertex). Settled old.table.game new u a) (sym xz) s)

  stay_covers : is_lt (measure_cmp (value_in old u) r) ≡ false → (y : ℕ) (x : Vertex) → vertex old.table.game y ≡ Some x → Covered old y x
      → Covered (with_worker old w Idle) y x
  stay_covers b y x at (inl p) = inl p
  stay_covers b y x at (inr (inl (k, owed, e, h))) = inr (inl
      (k, owed, get_kept old.workers w k Idle (Holding u notes) (Owing owed) holds e (holds_owes u notes owed), h))
  stay_covers b y x at (inr (inr (inl (k, ns, e, f)))) = elim (eqb_tells k w) [
    | inl q ↦ inr (inr (inr (raised_settles old.table.values k y ns x at q.1 e f (not_risen (value_in old u) r b))))
    | inr q ↦ inr (inr (inl (k, ns, set_get_other old.workers w k Idle q.1 ∙ e, f)))
  ]
  stay_covers b y x at (inr (inr (inr s))) = inr (inr (inr s))

  abbrev raised : List Measure
  raised = slice_set old.table.values u r

  abbrev owes : Worker
  owes = owing (predecessors old.table.game u)

  rise_apart : u < length old.table.values → IsAtMost (value_in old u) r → (y : ℕ) (x : Vertex) → vertex old.table.game y ≡ Some x
      → ((t : ℕ) → Contains x.successors t → t ≢ u) → Covered old y x → Covered (with_worker (with_value old u r) w owes) y x
  rise_apart inside b y x at apart (inl p) = inl p
  rise_apart inside b y x at apart (inr (inl (k, owed, e, h))) = inr
      (inl (k, owed, get_kept old.workers w k owes (Holding u notes) (Owing owed) holds e (holds_owes u notes owed), h))
  rise_apart inside b y x at apart (inr (inr (inl (k, ns, e, f)))) =
      let now = λ (t : ℕ) (m : Measure) (c : Contains x.successors t) (n : noted ns t ≡ Some m). f t m c n
      ∙ sym (value_set_other old.table.values u t r (apart t c)) in
      elim (eqb_tells k w) [
        | inl q ↦ inr (inr (inr (raised_settles raised k y ns x at q.1 e now
            (subst (λ (m : Measure). IsAtMost r m) (sym (value_set_same old.table.values u r inside)) (at_most_itself r)))))
        | inr q ↦ inr (inr (inl (k, ns, set_get_other old.workers w k owes q.1 ∙ e, now)))
      ]
  rise_apart inside b y x at apart (inr (inr (inr s))) =
      inr (inr (inr (still_kept old.table.game old.table.values raised y x
      (map_same (value_at old.table.values) (value_at raised) x.successors (λ t c. sym (value_set_other old.table.values u t r (apart t c))))
      (rises_set old.table.values u y r b) s)))

  rise_covers : u < length old.table.values → IsAtMost (value_in old u) r → (y : ℕ) (x : Vertex) → vertex old.table.game y ≡ Some x → Covered old y x
      → Covered (with_worker (with_value old u r) w owes) y x
  rise_covers inside b y x at cov = elim (cases (list_any (λ t. t == u) x.successors)) [
    | inl q ↦ (let c = in_predecessors old.table.game y u x at q in
        inr (inl (
          w,
          predecessors old.table.game u,
          set_get_same old.workers w owes (Holding u notes) holds
              ∙ ap (λ (a : Worker). Some a) (owing_has (predecessors old.table.game u) y c),
          c,
        )))
    | inr q ↦ rise_apart inside b y x at (λ t c e. true≢false (sym (gives_any (λ s. s == u) x.successors t c (same_eqb t u e)) ∙ q)) cov
  ]

covered_does : (old new : Core) (event : Event) → Does old event new → Sound old → AllCovered old → AllCovered new
covered_does old new (Take w v) d s all = subst AllCovered (sym d.effect) (λ y x at. take_covers old w v y x d.idle (all y x at))
covered_does old new (Read w v) d s all = subst AllCovered (sym d.effect) (λ y x at. read_covers old w v d.u d.notes y x d.holds (all y x at))
covered_does old new (Push w v) d s all = subst AllCovered (sym d.effect) (λ y x at. push_covers old w v d.owed y x d.owes (all y x at))
covered_does old new (Raise w) d s all = subst AllCovered (sym d.effect) (raise_cases AllCovered old w d.u d.lifted
    (λ b y x at. rise_covers old w d.u d.notes d.x d.values d.lifted d.holds d.held d.read d.lift
    (let l = slice_get_within old.table.game.vertices d.u d.x d.held in let e = s.plain.long in omega (arith, l, e))
    (below_at_most (value_in old d.u) d.lifted b) y x at (all y x at))
    (λ b y x at. stay_covers old w d.u d.notes d.x d.values d.lifted d.holds d.held d.read d.lift b y x at (all y x at)))

covered_start : (g : Game) (workers : ℕ) → AllCovered (starting_core g workers)
covered_start g workers y x at = let l = slice_get_within g.vertices y x at in inl (gives_range 0 (length g.vertices) y (omega arith) (omega (arith, l)))

-- where all is quiet nothing is left but that the vertex is settled
quiet_settled : (c : Core) (y : ℕ) (x : Vertex) → is_empty c.pending ≡ true → list_all is_idle c.workers ≡ true → Covered c y x
    → Settled c.table.game c.table.values y x
quiet_settled c y x none idle (inl p) = absurd (empty c.pending none p)
  where
    empty : (xs : List ℕ) → is_empty xs ≡ true → Contains xs y → ⊥
    empty [] e h = contains_none y h
    empty (a ∷ more) e h = true≢false (sym e)
quiet_settled c y x none idle (inr (inl (k, owed, e, h))) = absurd (true≢false (sym (all_idle c.workers k (Owing owed) idle e)))
quiet_settled c y x none idle (inr (inr (inl (k, notes, e, f)))) = absurd (true≢false (sym (all_idle c.workers k (Holding y notes) idle e)))
quiet_settled c y x none idle (inr (inr (inr s))) = s

still_from : (g : Game) (values : List Measure) (y : ℕ) (x : Vertex) → vertex g y ≡ Some x → Settled g values y x → IsStill g values y
still_from g values y x at s = (x, at, (s.progs, s.best, s.zipped, s.best_is, sym (own_greater (value_at values y) s.best s.under)))

pub quiet_is_settled : (g : Game) (workers : ℕ) (events : List Event) (dones : List Bool) (c : Core) → IsGame g → Steps (starting_core g workers) events dones c
    → IsTrue (is_quiet c) → IsProgress g c.table.values
quiet_is_settled g workers events dones c game steps quiet =
    let kept = steps_keep (λ k. Sound k × AllCovered k) (λ old new event d p. (sound_does old new event d p.0, covered_does old new event d p.0 p.1))
    (starting_core g workers) c events dones steps
    (sound_start g workers game, covered_start g workers) in
    let parts = and_both (is_empty c.pending) (list_all is_idle c.workers) quiet in
    subst (λ h. IsProgress h c.table.values) (game_stays g workers events dones c steps)
    (all_still c.table.game c.table.values kept.0.plain
    (λ v l. let here = vertex_here c.table.game v l in still_from c.table.game c.table.values v here.0 here.1
    (quiet_settled c v here.0 parts.0 parts.1 (kept.1 v here.0 here.1))))
