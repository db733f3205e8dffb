-- How the text of a schedule is read on.
use Rattle.std.proofs.Common.{◌≡◌, ◌≢◌, ℕ, zero, suc, ◌+◌, ◌<◌, ◌≤◌, Bool, true, false, ◌||◌, ◌==◌, get_or, List, [], ◌∷◌, ◌++◌, length, drop}
use Rattle.std.proofs.Common.{Option, Result, Ok, Err, Some, None, refl, sym, ap, ◌∙◌, subst, append_assoc, append-nil, arith, add-one, drop-cons}
use Rattle.std.specs.Prelude.{IfErr, IfOk, IfSome, OnOk}
use Rattle.std.specs.List.{list_any}
use Rattle.std.specs.Global.{Vec}
use Rattle.std.specs.Io.{StartsWith}
use Rattle.std.specs.Io.KnownBytes.{Keeps}
use Rattle.std.specs.Io.BufRead.{DropsConsumable}
use Rattle.std.proofs.lemmas.List.{take-append-drop}
use Rattle.text.specs.Lines.{IfKnown}
use Rattle.text.specs.Text.{pieces_of}
use Rattle.text.proofs.Streaming.{known_then}
use Rattle.liftcore.specs.Begun.{IsBegunLine}
use Rattle.liftcore.specs.Schedule.{HasScheduleFaultAt, IsSchedule, schedule_fault_of, reader_fault_of}
use Rattle.liftcore.specs.Taken.{HasTakenLines, EventsSoFar, TakesBytes, TakesBlock, Tells, TellsRead}
use Rattle.liftcore.specs.declared.error.ScheduleError.{ScheduleError}
use Rattle.liftcore.specs.declared.error.ReadError.{ReadError}
use Rattle.liftcore.specs.declared.error.ReadError.TheVariants as read
use Rattle.liftcore.specs.declared.event.Event.{Event}
use Rattle.liftcore.specs.declared.schedule.Intake.{Intake}
use Rattle.liftcore.proofs.Cut.{last_line, up_to_end}
use Rattle.liftcore.proofs.Schedules.{nothing_yet, whole}

-- the line that ends makes a good one, or it is told what is wrong
abbrev pub Ends : Intake → Intake → Type 0
Ends old new = (line text left rest : List ℕ) → IsBegunLine line old.line.word.items old.line.part
    → EventsSoFar old.workers old.vertices text left old.events.items → pieces_of left ≡ line ∷ pieces_of rest
    → EventsSoFar old.workers old.vertices text rest new.events.items

abbrev pub Fails : Intake → ScheduleError → Type 0
Fails old error = (line text left rest : List ℕ) → IsBegunLine line old.line.word.items old.line.part
    → EventsSoFar old.workers old.vertices text left old.events.items → pieces_of left ≡ line ∷ pieces_of rest
    → IfSome (schedule_fault_of error) (HasScheduleFaultAt old.workers old.vertices text)

pub both_ok : {T E : Type 0} {P Q R : Type 0} (r : Result T E) → OnOk r P → OnOk r Q → (P → Q → R) → OnOk r R
both_ok (Ok x) p q both = both p q
both_ok (Err e) p q both = tt

-- as it stands of the workers and vertices of an intake, it is of these
moved : (A : ℕ → ℕ → Type 0) (a b m n : ℕ) → a ≡ m → b ≡ n → A a b → A m n
moved A a b m n e f h = subst (λ k. A m k) f (subst (λ k. A k b) e h)

so_far_of : (workers vertices : ℕ) (text left : List ℕ) (intake : Intake) (h : HasTakenLines workers vertices text left intake)
    → EventsSoFar intake.workers intake.vertices text (h.begun ++ left) intake.events.items
so_far_of workers vertices text left intake h =
    moved (λ m n. EventsSoFar m n text (h.begun ++ left) intake.events.items) workers vertices intake.workers intake.vertices (sym h.few) (sym h.small) h.so_far

pub end_taken : (old new : Intake) → (new.workers ≡ old.workers) × (new.vertices ≡ old.vertices) → IsBegunLine [] new.line.word.items new.line.part → Ends old new
    → TakesBytes (10 ∷ []) old new
end_taken old new (few, small) fresh ends = λ workers vertices text left h.
    let next = up_to_end h.begun left h.inside in
    record {
      begun = [];
      inside = refl;
      line = fresh;
      so_far = moved (λ m n. EventsSoFar m n text left new.events.items) old.workers old.vertices workers vertices h.few h.small
          (ends h.begun text (h.begun ++ 10 ∷ left) left h.line (so_far_of workers vertices text (10 ∷ left) old h) next);
      few = few ∙ h.few;
      small = small ∙ h.small;
    }

pub end_tells : (old : Intake) (error : ScheduleError) → Fails old error → Tells (10 ∷ []) old error
end_tells old error fails = λ workers vertices text left h.
    moved (λ m n. IfSome (schedule_fault_of error) (HasScheduleFaultAt m n text)) old.workers old.vertices workers vertices h.few h.small
    (fails h.begun text (h.begun ++ 10 ∷ left) left h.line (so_far_of workers vertices text (10 ∷ left) old h) (up_to_end h.begun left h.inside))

inside_more : (bytes : List ℕ) (b : ℕ) → list_any (λ b. b == 10) bytes ≡ false → (b == 10) ≡ false → list_any (λ b. b == 10) (bytes ++ b ∷ []) ≡ false
inside_more [] b free other = rw other refl
inside_more (c ∷ bytes) b free other =
    elim (c == 10) as (λ t. (t || list_any (λ b. b == 10) bytes) ≡ false → (t || list_any (λ b. b == 10) (bytes ++ b ∷ [])) ≡ false)
    [ true ↦ λ e. absurd cc | false ↦ λ e. inside_more bytes b e other ] free

pub byte_taken : (old new : Intake) (b : ℕ) → (b == 10) ≡ false → (new.workers ≡ old.workers) × (new.vertices ≡ old.vertices)
    → new.events.items ≡ old.events.items
    → ((line : List ℕ) → IsBegunLine line old.line.word.items old.line.part → IsBegunLine (line ++ b ∷ []) new.line.word.items new.line.part)
    → TakesBytes (b ∷ []) old new
byte_taken old new b other (few, small) same more = λ workers vertices text left h. record {
  begun = h.begun ++ b ∷ [];
  inside = inside_more h.begun b h.inside other;
  line = more h.begun h.line;
  so_far = subst (λ es. EventsSoFar workers vertices text ((h.begun ++ b ∷ []) ++ left) es) (sym same)
      (subst (λ l. EventsSoFar workers vertices text l old.events.items) (sym (append_assoc h.begun (b ∷ []) left)) h.so_far);
  few = few ∙ h.few;
  small = small ∙ h.small;
}

pub begins : (workers vertices : ℕ) (intake : Intake) → IsBegunLine [] intake.line.word.items intake.line.part → intake.events.items ≡ []
    → intake.workers ≡ workers → intake.vertices ≡ vertices → (text : List ℕ) → HasTakenLines workers vertices text text intake
begins workers vertices intake fresh none few small = λ text. record {
  begun = [];
  inside = refl;
  line = fresh;
  so_far = subst (λ es. EventsSoFar workers vertices text text es) (sym none) (nothing_yet workers vertices text);
  few = few;
  small = small;
}

-- ---- many bytes

-- so many of the bytes are taken
abbrev pub TakesTo : List ℕ → ℕ → Intake → Intake → Type 0
TakesTo bytes i old now = (workers vertices : ℕ) (text left : List ℕ) → HasTakenLines workers vertices text (bytes ++ left) old
    → HasTakenLines workers vertices text (drop i bytes ++ left) now

pub none_taken : (bytes : List ℕ) (old : Intake) → TakesTo bytes 0 old old
none_taken bytes old = λ workers vertices text left h. h

next_bytes : (bytes : List ℕ) (i : ℕ) → i < length bytes → drop i bytes ≡ get_or bytes i 0 ∷ drop (i + 1) bytes
next_bytes bytes i below = rw (add-one i) (drop-cons bytes i 0 below)

pub one_tells : (bytes : List ℕ) (i : ℕ) (old now : Intake) (error : ScheduleError) → i < length bytes → TakesTo bytes i old now
    → Tells (get_or bytes i 0 ∷ []) now error → Tells bytes old error
one_tells bytes i old now error below so tells = λ workers vertices text left h.
    tells workers vertices text (drop (i + 1) bytes ++ left)
    (subst (λ l. HasTakenLines workers vertices text (l ++ left) now) (next_bytes bytes i below) (so workers vertices text left h))

drop_past : (bytes : List ℕ) (i : ℕ) → length bytes ≤ i → drop i bytes ≡ []
drop_past [] zero past = refl
drop_past [] (suc i) past = refl
drop_past (b ∷ bytes) zero past = absurd (omega (arith, past))
drop_past (b ∷ bytes) (suc i) past = drop_past bytes i (omega (arith, past))

pub all_taken : (bytes : List ℕ) (i : ℕ) (old now : Intake) → length bytes ≤ i → TakesTo bytes i old now → TakesBytes bytes old now
all_taken bytes i old now past so = λ workers vertices text left h.
    subst (λ l. HasTakenLines workers vertices text (l ++ left) now) (drop_past bytes i past) (so workers vertices text left h)

pub whole_taken : (workers vertices : ℕ) (text : List ℕ) (old new : Intake) → HasTakenLines workers vertices text text old → TakesBytes text old new
    → HasTakenLines workers vertices text [] new
whole_taken workers vertices text old new begins takes =
    takes workers vertices text [] (subst (λ l. HasTakenLines workers vertices text l old) (sym (append-nil text)) begins)

pub whole_tells : (workers vertices : ℕ) (text : List ℕ) (old : Intake) (error : ScheduleError) → HasTakenLines workers vertices text text old
    → Tells text old error → IfSome (schedule_fault_of error) (HasScheduleFaultAt workers vertices text)
whole_tells workers vertices text old error begins tells =
    tells workers vertices text [] (subst (λ l. HasTakenLines workers vertices text l old) (sym (append-nil text)) begins)

-- ---- the end of the text

pub finished : (workers vertices : ℕ) (text : List ℕ) (intake : Intake)
    → ((line : List ℕ) → IsBegunLine line intake.line.word.items intake.line.part → line ≡ []) → HasTakenLines workers vertices text [] intake
    → IsSchedule workers vertices text intake.events.items
finished workers vertices text intake empty h =
    whole workers vertices text (h.begun ++ []) intake.events.items h.so_far (ap (λ l. pieces_of (l ++ [])) (empty h.begun h.line))

last_is : (line : List ℕ) → list_any (λ b. b == 10) line ≡ false → line ≢ [] → pieces_of (line ++ []) ≡ line ∷ pieces_of []
last_is line inside some = ap pieces_of (append-nil line) ∙ last_line line inside some

pub last_finished : (workers vertices : ℕ) (text : List ℕ) (old new : Intake)
    → ((line : List ℕ) → IsBegunLine line old.line.word.items old.line.part → line ≢ []) → Ends old new → HasTakenLines workers vertices text [] old
    → IsSchedule workers vertices text new.events.items
last_finished workers vertices text old new some ends h =
    whole workers vertices text [] new.events.items
    (moved (λ m n. EventsSoFar m n text [] new.events.items) old.workers old.vertices workers vertices h.few h.small
    (ends h.begun text (h.begun ++ []) [] h.line (so_far_of workers vertices text [] old h) (last_is h.begun h.inside (some h.begun h.line)))) refl

pub last_tells : (old : Intake) (error : ScheduleError) → ((line : List ℕ) → IsBegunLine line old.line.word.items old.line.part → line ≢ []) → Fails old error
    → (workers vertices : ℕ) (text : List ℕ) → HasTakenLines workers vertices text [] old → IfSome (schedule_fault_of error) (HasScheduleFaultAt workers vertices text)
last_tells old error some fails = λ workers vertices text h.
    moved (λ m n. IfSome (schedule_fault_of error) (HasScheduleFaultAt m n text)) old.workers old.vertices workers vertices h.few h.small
    (fails h.begun text (h.begun ++ []) [] h.line (so_far_of workers vertices text [] old h) (last_is h.begun h.inside (some h.begun h.line)))

-- ---- blocks of a reader

pub block_taken : (block : List ℕ) (n : ℕ) (more : Bool) (old mid new : Option (List ℕ)) (limit : Option ℕ) (before after : Intake)
    → IfSome old (λ xs. StartsWith xs block) → IfSome old (λ xs. length block ≡ 0 → xs ≡ []) → Keeps old mid
    → IfSome old (λ _. IfSome limit (λ n. length block ≤ n)) → DropsConsumable mid new limit n → n ≡ length block → (more ≡ false → n ≡ 0)
    → TakesBytes block before after → IfKnown old new (TakesBlock before after more)
block_taken block n more None mid new limit before after front end same fits drops long none takes = tt
block_taken block n more (Some text) None new limit before after front end same fits drops long none takes = absurd same
block_taken block n more (Some text) (Some left) new limit before after front end same fits drops long none takes =
    let new-is : new ≡ Some (drop n left) = drops (fits_count limit fits) in
    let whole : text ≡ block ++ drop n text = sym (take-append-drop (length block) text)
    ∙ ap (λ l. l ++ drop (length block) text) front ∙ ap (λ k. block ++ drop k text) (sym long) in
    rw (new-is, same) (block, whole, takes, λ e. ap (drop n) (end (sym long ∙ none e)) ∙ drop_past [] n (omega arith))
  where
    fits_count : (limit : Option ℕ) → IfSome limit (λ n. length block ≤ n) → IfSome limit (λ m. n ≤ m)
    fits_count None fits = tt
    fits_count (Some m) fits = omega (arith, fits, long)

pub block_tells : (block : List ℕ) (old : Option (List ℕ)) (before : Intake) (error : ScheduleError) → IfSome old (λ xs. StartsWith xs block)
    → Tells block before error → TellsRead old before (read.Schedule error)
block_tells block None before error front tells = tt
block_tells block (Some left) before error front tells = λ workers vertices text h.
    let whole : left ≡ block ++ drop (length block) left = sym (take-append-drop (length block) left) ∙ ap (λ l. l ++ drop (length block) left) front in
    tells workers vertices text (drop (length block) left) (subst (λ l. HasTakenLines workers vertices text l before) whole h)

-- what was left of the text is read on
abbrev pub ReadsOn : Intake → Intake → List ℕ → List ℕ → Type 0
ReadsOn old now left rest = (workers vertices : ℕ) (text : List ℕ) → HasTakenLines workers vertices text left old → HasTakenLines workers vertices text rest now

on_block : (old now new : Intake) (more : Bool) (left mid rest : List ℕ) → ReadsOn old now left mid → TakesBlock now new more mid rest
    → ReadsOn old new left rest
on_block old now new more left mid rest on (block, is, takes, none) = λ workers vertices text h.
    takes workers vertices text rest (subst (λ l. HasTakenLines workers vertices text l now) is (on workers vertices text h))

pub reads_more : (old mid new : Option (List ℕ)) (before now after : Intake) (more : Bool) → IfKnown old mid (ReadsOn before now)
    → IfKnown mid new (TakesBlock now after more) → IfKnown old new (ReadsOn before after)
reads_more old mid new before now after more on block =
    known_then {P = ReadsOn before now} {Q = TakesBlock now after more} {R = ReadsOn before after} old mid new on block
    (λ left rest last p q. on_block before now after more left rest last p q)

-- the text has ended
abbrev pub IsAll : Intake → Intake → List ℕ → Type 0
IsAll old now left = (workers vertices : ℕ) (text : List ℕ) → HasTakenLines workers vertices text left old → HasTakenLines workers vertices text [] now

pub reads_all : (old mid new : Option (List ℕ)) (before now after : Intake) → IfKnown old mid (ReadsOn before now)
    → IfKnown mid new (TakesBlock now after false) → IfSome old (IsAll before after)
reads_all None mid new before now after on block = tt
reads_all (Some left) None new before now after on block = absurd on
reads_all (Some left) (Some rest) None before now after on block = absurd block
reads_all (Some left) (Some rest) (Some last) before now after on block = λ workers vertices text h.
    subst (λ l. HasTakenLines workers vertices text l after) (block.3 refl) (on_block before now after false left rest last on block workers vertices text h)

pub all_events : (old : Option (List ℕ)) (before after : Intake) (events : List Event) → IfSome old (IsAll before after)
    → ((workers vertices : ℕ) (text : List ℕ) → HasTakenLines workers vertices text [] after → IsSchedule workers vertices text events)
    → IfSome old (λ left. (workers vertices : ℕ) (text : List ℕ) → HasTakenLines workers vertices text left before → IsSchedule workers vertices text events)
all_events None before after events all is = tt
all_events (Some left) before after events all is = λ workers vertices text h. is workers vertices text (all workers vertices text h)

pub all_tells : (old : Option (List ℕ)) (before after : Intake) (error : ScheduleError) → IfSome old (IsAll before after)
    → ((workers vertices : ℕ) (text : List ℕ) → HasTakenLines workers vertices text [] after → IfSome (schedule_fault_of error) (HasScheduleFaultAt workers vertices text))
    → TellsRead old before (read.Schedule error)
all_tells None before after error all is = tt
all_tells (Some left) before after error all is = λ workers vertices text h. is workers vertices text (all workers vertices text h)

pub reads_tell : (old mid : Option (List ℕ)) (before now : Intake) (error : ReadError) → IfKnown old mid (ReadsOn before now) → TellsRead mid now error
    → TellsRead old before error
reads_tell None mid before now error on tells = tt
reads_tell (Some left) None before now error on tells = absurd on
reads_tell (Some left) (Some rest) before now error on tells = λ workers vertices text h. tells workers vertices text (on workers vertices text h)

-- ---- the whole text of a reader

pub read_events : (workers vertices : ℕ) (old : Option (List ℕ)) (intake : Intake) (r : Result (Vec Event) ReadError)
    → ((text : List ℕ) → HasTakenLines workers vertices text text intake)
    → IfOk r (λ events. IfSome old (λ left. (workers vertices : ℕ) (text : List ℕ) → HasTakenLines workers vertices text left intake
    → IsSchedule workers vertices text events.items))
    → IfOk r (λ events. IfSome old (λ text. IsSchedule workers vertices text events.items))
read_events workers vertices old intake (Err e) begins is = tt
read_events workers vertices None intake (Ok v) begins is = tt
read_events workers vertices (Some text) intake (Ok v) begins is = is workers vertices text (begins text)

pub read_tells : (workers vertices : ℕ) (old : Option (List ℕ)) (intake : Intake) (r : Result (Vec Event) ReadError)
    → ((text : List ℕ) → HasTakenLines workers vertices text text intake) → IfErr r (TellsRead old intake)
    → IfErr r (λ e. IfSome old (λ text. IfSome (reader_fault_of e) (HasScheduleFaultAt workers vertices text)))
read_tells workers vertices old intake (Ok v) begins is = tt
read_tells workers vertices None intake (Err e) begins is = tt
read_tells workers vertices (Some text) intake (Err e) begins is = is workers vertices text (begins text)
