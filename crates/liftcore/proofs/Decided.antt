-- A text spells a schedule, or a fault decides.
use Rattle.std.proofs.Common.{◌≡◌, ℕ, ◌+◌, ◌<◌, ◌≤◌, ◌⊎◌, inl, inr, List, [], ◌∷◌, ◌++◌, length, Option, Some, None, refl, sym, ◌∙◌, subst, append-nil, append_assoc}
use Rattle.std.specs.Prelude.{IfSome, IsSomeAnd}
use Rattle.std.specs.List.{AllZip}
use Rattle.std.proofs.lemmas.Bool.Decides.{leb_tells}
use Rattle.text.specs.Text.{pieces_of}
use Rattle.text.specs.Tokens.{whole_number}
use Rattle.liftcore.specs.Scan.{event_at}
use Rattle.liftcore.specs.Schedule.{HasScheduleFault, IsEventLine, IsGoodScheduleLine, IsSchedule, ScheduleLineFault, vertex_of_event, worker_of_event}
use Rattle.liftcore.specs.declared.event.Event.{Event}
use Rattle.liftcore.specs.declared.error.ScheduleFault.{ScheduleFault}
use Rattle.liftcore.specs.declared.error.ScheduleFault.TheVariants.{BadLine, NoSuchVertex, NoSuchWorker}
use Rattle.liftcore.proofs.Lines.{event_given, no_event}
use Rattle.liftcore.proofs.Schedules.{each_more}
use Rattle.liftcore.proofs.Schedules as schedules

module _ (workers vertices : ℕ) where
  abbrev Judged : List ℕ → Type 0
  Judged line = ((event : Event) × IsGoodScheduleLine workers vertices line event) ⊎ ((fault : ScheduleFault) × ScheduleLineFault workers vertices line fault)

  by_vertex : (line : List ℕ) (event : Event) → IsEventLine line event → worker_of_event event < workers → (o : Option ℕ) → vertex_of_event event ≡ o
      → Judged line
  by_vertex line event is worker None none =
      inl (event, record { spelled = is; within = record { worker = worker; vertex = subst (λ o. IfSome o (λ v. v < vertices)) (sym none) tt } })
  by_vertex line event is worker (Some v) some = elim (leb_tells vertices v) [
    | inl w ↦ inr (NoSuchVertex, (event, is, worker, subst (λ o. IsSomeAnd o (λ v. vertices ≤ v)) (sym some) w.1))
    | inr w ↦ inl (event, record { spelled = is; within = record { worker = worker; vertex = subst (λ o. IfSome o (λ v. v < vertices)) (sym some) w.1 } })
  ]

  by_worker : (line : List ℕ) (event : Event) → IsEventLine line event → Judged line
  by_worker line event is = elim (leb_tells workers (worker_of_event event)) [
    | inl w ↦ inr (NoSuchWorker, (event, is, w.1))
    | inr w ↦ by_vertex line event is w.1 (vertex_of_event event) refl
  ]

  by_scan : (line : List ℕ) (o : Option Event) → event_at whole_number line ≡ o → Judged line
  by_scan line None none = inr (BadLine, no_event line none)
  by_scan line (Some event) found = let given = event_given line event found in by_worker line given.0 given.1

  -- all lines are good, or one is the first that isn't
  abbrev Lines : List (List ℕ) → Type 0
  Lines all =
      ((events : List Event) × AllZip (IsGoodScheduleLine workers vertices) all events)
      ⊎ ((fault : ScheduleFault) × (front : List (List ℕ)) × (line : List ℕ) × (back : List (List ℕ)) × (before : List Event) × (all ≡ front ++ line ∷ back)
      × AllZip (IsGoodScheduleLine workers vertices) front before × ScheduleLineFault workers vertices line fault)

  behind : (all front back : List (List ℕ)) (events : List Event) → all ≡ front ++ back → AllZip (IsGoodScheduleLine workers vertices) front events → Lines all
  behind all front [] events cut each =
      inl (events, subst (λ lines. AllZip (IsGoodScheduleLine workers vertices) lines events) (sym (cut ∙ append-nil front)) each)
  behind all front (line ∷ back) events cut each = elim (by_scan line (event_at whole_number line) refl) [
    | inl good ↦ behind all (front ++ line ∷ []) back (events ++ good.0 ∷ []) (cut ∙ sym (append_assoc front (line ∷ []) back))
        (each_more workers vertices front events line good.0 each good.1)
    | inr bad ↦ inr (bad.0, front, line, back, events, cut, each, bad.1)
  ]

  pub decided : (text : List ℕ) → ((events : List Event) × IsSchedule workers vertices text events)
      ⊎ ((fault : ScheduleFault) × (line : ℕ) × HasScheduleFault workers vertices text fault line)
  decided text = elim (behind (pieces_of text) [] (pieces_of text) [] refl tt) [
    | inl good ↦ inl good
    | inr (fault, front, line, back, before, cut, fine, wrong) ↦ inr (
      fault,
      length front + 1,
      record { front = front; line = line; back = back; before = before; cut = cut; fine = fine; wrong = wrong; here = refl },
    )
  ]

-- a text spells one schedule at most
pub one_schedule : (workers vertices : ℕ) (text : List ℕ) (es fs : List Event) → IsSchedule workers vertices text es → IsSchedule workers vertices text fs
    → es ≡ fs
one_schedule workers vertices text es fs h k = schedules.one_schedule workers vertices (pieces_of text) es fs h k
