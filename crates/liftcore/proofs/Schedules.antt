-- A text spells one schedule at most, and has one fault at most, but not both; and the lines that were read so far.
use Rattle.std.proofs.Common.{◌≡◌, ℕ, ◌+◌, ◌<◌, ◌≤◌, List, [], ◌∷◌, ◌++◌, Option, Some, None, Result, Ok, Err, length, refl, sym, ap, ◌∙◌, subst, arith}
use Rattle.std.proofs.Common.{append-nil, append_assoc}
use Rattle.std.specs.Prelude.{IfErr, IfOk, IfSome, IsErrAnd, IsSomeAnd}
use Rattle.std.specs.List.{AllZip}
use Rattle.std.specs.Global.{Vec}
use Rattle.std.proofs.lemmas.Slice.Zip.{AllZip-long}
use Rattle.text.specs.Reads.{Reads}
use Rattle.text.specs.Text.{pieces_of}
use Rattle.text.proofs.Promised.{AreLaws, keeps}
use Rattle.liftcore.specs.Schedule.{HasScheduleFault, HasScheduleFaultAt, IsEventLine, IsGoodScheduleLine, IsSchedule, IsOfSoMany, ScheduleLineFault, vertex_of_event, worker_of_event}
use Rattle.liftcore.specs.Taken.{EventsSoFar}
use Rattle.liftcore.specs.declared.event.Event.{Event}
use Rattle.liftcore.specs.declared.error.ScheduleFault.{ScheduleFault}
use Rattle.liftcore.specs.declared.error.ScheduleFault.TheVariants.{BadLine, NoSuchVertex, NoSuchWorker}
use Rattle.liftcore.proofs.Lines.{one_event}

tails : {X : Type 0} (x y : X) (xs ys : List X) → x ∷ xs ≡ y ∷ ys → (x ≡ y) × (xs ≡ ys)
tails x y xs ys e = (cc, cc)

module _ (workers vertices : ℕ) where
  pub one_schedule : (lines : List (List ℕ)) (xs ys : List Event) → AllZip (IsGoodScheduleLine workers vertices) lines xs
      → AllZip (IsGoodScheduleLine workers vertices) lines ys → xs ≡ ys
  one_schedule [] [] [] h k = refl
  one_schedule [] [] (y ∷ ys) h k = absurd k
  one_schedule [] (x ∷ xs) ys h k = absurd h
  one_schedule (line ∷ lines) [] ys h k = absurd h
  one_schedule (line ∷ lines) (x ∷ xs) [] h k = absurd k
  one_schedule (line ∷ lines) (x ∷ xs) (y ∷ ys) h k =
      let first = one_event line x y h.0.spelled k.0.spelled in
      let rest = one_schedule lines xs ys h.1 k.1 in
      λ i. first i ∷ rest i

  -- a vertex that isn't among so few, and is
  not_both : (o : Option ℕ) → IfSome o (λ v. v < vertices) → IsSomeAnd o (λ v. vertices ≤ v) → ⊥
  not_both None h k = k
  not_both (Some v) h k = absurd (omega (arith, h, k))

  -- a good line has no fault
  no_fault_in : (line : List ℕ) (event : Event) (fault : ScheduleFault) → IsGoodScheduleLine workers vertices line event → ScheduleLineFault workers vertices line fault → ⊥
  no_fault_in line event BadLine good wrong = wrong event good.spelled
  no_fault_in line event NoSuchWorker good (x, is, far) =
      let same = one_event line event x good.spelled is in
      let within : IsOfSoMany workers vertices x = subst (IsOfSoMany workers vertices) same good.within in
      absurd (omega (arith, within.worker, far))
  no_fault_in line event NoSuchVertex good (x, is, some, far) =
      let same = one_event line event x good.spelled is in
      let within : IsOfSoMany workers vertices x = subst (IsOfSoMany workers vertices) same good.within in
      not_both (vertex_of_event x) within.vertex far

  -- the event of a line among good ones
  event_at_line : (front : List (List ℕ)) (line : List ℕ) (back : List (List ℕ)) (events : List Event)
      → AllZip (IsGoodScheduleLine workers vertices) (front ++ line ∷ back) events
      → (event : Event) × IsGoodScheduleLine workers vertices line event
  event_at_line [] line back [] h = absurd h
  event_at_line [] line back (x ∷ events) h = (x, h.0)
  event_at_line (l ∷ front) line back [] h = absurd h
  event_at_line (l ∷ front) line back (x ∷ events) h = event_at_line front line back events h.1

  pub no_fault : (text : List ℕ) (events : List Event) (fault : ScheduleFault) (place : ℕ) → IsSchedule workers vertices text events
      → HasScheduleFault workers vertices text fault place → ⊥
  no_fault text events fault place all faulty =
      let at = event_at_line faulty.front faulty.line faulty.back events (subst (λ l. AllZip (IsGoodScheduleLine workers vertices) l events) faulty.cut all) in
      no_fault_in faulty.line at.0 fault at.1 faulty.wrong

  -- one fault on a line
  one_fault_in : (line : List ℕ) (f h : ScheduleFault) → ScheduleLineFault workers vertices line f → ScheduleLineFault workers vertices line h → f ≡ h
  one_fault_in line BadLine BadLine p q = refl
  one_fault_in line BadLine NoSuchWorker p q = absurd (p q.0 q.1)
  one_fault_in line BadLine NoSuchVertex p q = absurd (p q.0 q.1)
  one_fault_in line NoSuchWorker BadLine p q = absurd (q p.0 p.1)
  one_fault_in line NoSuchWorker NoSuchWorker p q = refl
  one_fault_in line NoSuchWorker NoSuchVertex p q = absurd (far (one_event line p.0 q.0 p.1 q.1))
    where
      far : p.0 ≡ q.0 → ⊥
      far e = let same = ap worker_of_event e in absurd (omega (arith, same, p.2, q.2))
  one_fault_in line NoSuchVertex BadLine p q = absurd (q p.0 p.1)
  one_fault_in line NoSuchVertex NoSuchWorker p q = absurd (far (one_event line p.0 q.0 p.1 q.1))
    where
      far : p.0 ≡ q.0 → ⊥
      far e = let same = ap worker_of_event e in absurd (omega (arith, same, p.2, q.2))
  one_fault_in line NoSuchVertex NoSuchVertex p q = refl

  -- two faulty lines with good ones before them are one
  one_place : (fs gs : List (List ℕ)) (l m : List ℕ) (bs cs : List (List ℕ)) (xs ys : List Event) (f h : ScheduleFault) → fs ++ l ∷ bs ≡ gs ++ m ∷ cs
      → AllZip (IsGoodScheduleLine workers vertices) fs xs → AllZip (IsGoodScheduleLine workers vertices) gs ys → ScheduleLineFault workers vertices l f
      → ScheduleLineFault workers vertices m h → (length fs ≡ length gs) × (l ≡ m)
  one_place [] [] l m bs cs xs ys f h e good fine p q = (refl, (tails l m bs cs e).0)
  one_place [] (g ∷ gs) l m bs cs xs [] f h e good fine p q = absurd fine
  one_place [] (g ∷ gs) l m bs cs xs (y ∷ ys) f h e good fine p q =
      let same = (tails l g bs (gs ++ m ∷ cs) e).0 in
      absurd (no_fault_in g y f fine.0 (subst (λ line. ScheduleLineFault workers vertices line f) same p))
  one_place (a ∷ fs) [] l m bs cs [] ys f h e good fine p q = absurd good
  one_place (a ∷ fs) [] l m bs cs (x ∷ xs) ys f h e good fine p q =
      let same = (tails a m (fs ++ l ∷ bs) cs e).0 in
      absurd (no_fault_in a x h good.0 (subst (λ line. ScheduleLineFault workers vertices line h) (sym same) q))
  one_place (a ∷ fs) (g ∷ gs) l m bs cs [] ys f h e good fine p q = absurd good
  one_place (a ∷ fs) (g ∷ gs) l m bs cs (x ∷ xs) [] f h e good fine p q = absurd fine
  one_place (a ∷ fs) (g ∷ gs) l m bs cs (x ∷ xs) (y ∷ ys) f h e good fine p q =
      let rest = one_place fs gs l m bs cs xs ys f h (tails a g (fs ++ l ∷ bs) (gs ++ m ∷ cs) e).1 good.1 fine.1 p q in
      (omega (arith, rest.0), rest.1)

  pub one_fault : (text : List ℕ) (f h : ScheduleFault) (i j : ℕ) → HasScheduleFault workers vertices text f i → HasScheduleFault workers vertices text h j → (f ≡ h) × (i ≡ j)
  one_fault text f h i j p q =
      let place = one_place p.front q.front p.line q.line p.back q.back p.before q.before f h (sym p.cut ∙ q.cut) p.fine q.fine p.wrong q.wrong in (
        one_fault_in p.line f h p.wrong (subst (λ line. ScheduleLineFault workers vertices line h) (sym place.1) q.wrong),
        p.here
            ∙ (ap (λ n. n + 1) place.0 ∙ sym q.here),
      )

  laws : AreLaws (IsSchedule workers vertices) (IsSchedule workers vertices) (IsSchedule workers vertices) (HasScheduleFaultAt workers vertices)
  laws = record {
    one_value = λ bytes v w h k. one_schedule (pieces_of bytes) w v k h;
    no_fault = λ bytes v f h k. no_fault bytes v f.0 f.1 h k;
    none_due = λ bytes v f h k. no_fault bytes v f.0 f.1 h k;
    one_fault = λ bytes f h p q. (let e = one_fault bytes f.0 h.0 f.1 h.1 p q in λ i. (e.0 i, e.1 i));
  }

  pub nothing_yet : (text : List ℕ) → EventsSoFar workers vertices text text []
  nothing_yet text = record { done = []; each = tt; cut = refl }

  pub each_more : (done : List (List ℕ)) (events : List Event) (line : List ℕ) (event : Event) → AllZip (IsGoodScheduleLine workers vertices) done events
      → IsGoodScheduleLine workers vertices line event
      → AllZip (IsGoodScheduleLine workers vertices) (done ++ line ∷ []) (events ++ event ∷ [])
  each_more [] [] line event each one = (one, tt)
  each_more [] (x ∷ events) line event each one = absurd each
  each_more (l ∷ done) [] line event each one = absurd each
  each_more (l ∷ done) (x ∷ events) line event each one = (each.0, each_more done events line event each.1 one)

  pub one_more : (text left line rest : List ℕ) (events : List Event) (event : Event) → EventsSoFar workers vertices text left events
      → pieces_of left ≡ line ∷ pieces_of rest
      → IsEventLine line event → IsOfSoMany workers vertices event
      → EventsSoFar workers vertices text rest (events ++ event ∷ [])
  one_more text left line rest events event so next is within = record {
    done = so.done ++ line ∷ [];
    each = each_more so.done events line event so.each (record { spelled = is; within = within });
    cut = so.cut ∙ (ap (λ l. so.done ++ l) next ∙ sym (append_assoc so.done (line ∷ []) (pieces_of rest)));
  }

  pub whole : (text left : List ℕ) (events : List Event) → EventsSoFar workers vertices text left events → pieces_of left ≡ []
      → IsSchedule workers vertices text events
  whole text left events so none = subst (λ l. AllZip (IsGoodScheduleLine workers vertices) l events)
      (sym (so.cut ∙ (ap (λ l. so.done ++ l) none ∙ append-nil so.done))) so.each

  pub faulty : (text left line rest : List ℕ) (events : List Event) (fault : ScheduleFault) (place : ℕ) → EventsSoFar workers vertices text left events
      → pieces_of left ≡ line ∷ pieces_of rest → ScheduleLineFault workers vertices line fault
      → place ≡ length events + 1 → HasScheduleFault workers vertices text fault place
  faulty text left line rest events fault place so next wrong at = record {
    front = so.done;
    line = line;
    back = pieces_of rest;
    before = events;
    cut = so.cut ∙ ap (λ l. so.done ++ l) next;
    fine = so.each;
    wrong = wrong;
    here = at ∙ ap (λ n. n + 1) (AllZip-long (IsGoodScheduleLine workers vertices) so.done events so.each);
  }

  -- all that a reader promises
  pub promised : {E : Type 0} (name : E → Option (ScheduleFault × ℕ)) (old : Option (List ℕ)) (r : Result (Vec Event) E)
      → IfOk r (λ v. IfSome old (λ text. IsSchedule workers vertices text v.items))
      → IfErr r (λ e. IfSome old (λ text. IfSome (name e) (HasScheduleFaultAt workers vertices text)))
      → Reads (IsSchedule workers vertices) (IsSchedule workers vertices) (IsSchedule workers vertices) (HasScheduleFaultAt workers vertices)
      (λ (v : Vec Event). v.items) name old r
  promised name old r spells fault = keeps (IsSchedule workers vertices) (IsSchedule workers vertices) (IsSchedule workers vertices)
      (HasScheduleFaultAt workers vertices) (λ (v : Vec Event). v.items) name laws old r spells fault

  pub refused_by : {E : Type 0} (name : E → Option (ScheduleFault × ℕ)) (old : Option (List ℕ)) (r : Result (Vec Event) E) (e : E)
      → IsErrAnd r (λ x. x ≡ e) → IfSome old (λ text. IfSome (name e) (HasScheduleFaultAt workers vertices text))
      → Reads (IsSchedule workers vertices) (IsSchedule workers vertices) (IsSchedule workers vertices) (HasScheduleFaultAt workers vertices)
      (λ (v : Vec Event). v.items) name old r
  refused_by name old (Ok v) e is fault = absurd is
  refused_by name old (Err x) e is fault =
      promised name old (Err x) tt (subst (λ y. IfSome old (λ text. IfSome (name y) (HasScheduleFaultAt workers vertices text))) (sym is) fault)
