-- What the test on a line of a schedule says of the line.
use Rattle.std.proofs.Common.{◌≡◌, ℕ, ◌<◌, ◌≤◌, ◌^◌, ◌⊎◌, inl, inr, true, false, cond, ◌==◌, ◌||◌, List, [], ◌∷◌, ◌++◌, Option, Some, None, codes, refl, sym}
use Rattle.std.proofs.Common.{ap, ap₂, ◌∙◌, subst, arith, true≢false}
use Rattle.std.specs.List.{list_all, list_any}
use Rattle.std.specs.Prelude.{IsSomeAnd}
use Rattle.std.specs.Str.{bytes_eq}
use Rattle.std.proofs.lemmas.Bool.{and_parts, eqb-true}
use Rattle.std.proofs.lemmas.Slice.Eq.{bytes_eq-Decides}
use Rattle.text.specs.Text.{IsNumeral, is_digit, is_numeral, value_of}
use Rattle.text.specs.Tokens.{capped, cut_at, whole_number, ◌>>=◌}
use Rattle.text.proofs.Scanning.{bind_some, cut_finds, cut_gives, whole_finds, whole_gives}
use Rattle.text.proofs.Spaced.{numeral_digits}
use Rattle.liftcore.specs.Scan.{event_at, event_with, two_numbers}
use Rattle.liftcore.specs.Schedule.{IsEventLine, IsOfSoMany, IsWords, worker_of_event, vertex_of_event}
use Rattle.liftcore.specs.declared.event.Event.{Event}
use Rattle.liftcore.specs.declared.event.Event.TheVariants.{Push, Raise, Read, Take}

-- the event with its numbers changed
abbrev pub mapped : (ℕ → ℕ) → Event → Event
mapped f (Take w v) = Take (f w) (f v)
mapped f (Read w v) = Read (f w) (f v)
mapped f (Raise w) = Raise (f w)
mapped f (Push w v) = Push (f w) (f v)

-- a reader of numerals that gives for each number what f makes of it
abbrev Gives : (List ℕ → Option ℕ) → (ℕ → ℕ) → Type 0
Gives number f = (bytes : List ℕ) (n : ℕ) → IsNumeral bytes n → number bytes ≡ Some (f n)

-- ---- a numeral has no space in it

pub digits_free : (ds : List ℕ) → list_all is_digit ds ≡ true → list_any (λ b. b == 32) ds ≡ false
digits_free [] all = refl
digits_free (d ∷ ds) all =
    let both = and_parts (is_digit d) (list_all is_digit ds) all in
    elim (d == 32) as (λ b. (d == 32) ≡ b → (b || list_any (λ b. b == 32) ds) ≡ false) [
      | true ↦ λ e. absurd (true≢false (sym both.0 ∙ ap is_digit (eqb-true d 32 e)))
      | false ↦ λ e. digits_free ds both.1
    ] refl

numeral_free : (bytes : List ℕ) (n : ℕ) → IsNumeral bytes n → list_any (λ b. b == 32) bytes ≡ false
numeral_free bytes n h = digits_free bytes (numeral_digits bytes h.0)

-- ---- an event's line is found

two_words : (line word : List ℕ) (w v : ℕ) → IsWords line word (w ∷ v ∷ []) → (x y : List ℕ) × IsNumeral x w × IsNumeral y v
    × (line ≡ word ++ 32 ∷ (x ++ 32 ∷ y))
two_words line word w v ([], each, is) = absurd each
two_words line word w v (x ∷ [], each, is) = absurd each.1
two_words line word w v (x ∷ y ∷ [], each, is) = (x, y, each.0, each.1.0, is)
two_words line word w v (x ∷ y ∷ z ∷ more, each, is) = absurd each.1.1

one_word : (line word : List ℕ) (w : ℕ) → IsWords line word (w ∷ []) → (x : List ℕ) × IsNumeral x w × (line ≡ word ++ 32 ∷ x)
one_word line word w ([], each, is) = absurd each
one_word line word w (x ∷ [], each, is) = (x, each.0, is)
one_word line word w (x ∷ y ∷ more, each, is) = absurd each.1

two_found : (number : List ℕ → Option ℕ) (f : ℕ → ℕ) (x y : List ℕ) (w v : ℕ) → Gives number f → IsNumeral x w → IsNumeral y v
    → two_numbers number (x ++ 32 ∷ y) ≡ Some (f w, f v)
unfolding two_numbers
two_found number f x y w v gives h k = rw (cut_finds 32 x y (numeral_free x w h), gives x w h, gives y v k) refl

-- the line of a word with two numbers
pair_found : (number : List ℕ → Option ℕ) (f : ℕ → ℕ) (line word : List ℕ) (w v : ℕ) → Gives number f → list_any (λ b. b == 32) word ≡ false
    → bytes_eq word (codes "raise") ≡ false → IsWords line word (w ∷ v ∷ [])
    → event_at number line ≡ event_with word (f w) (f v)
unfolding event_at
pair_found number f line word w v gives free other words =
    let (x, y, h, k, is) = two_words line word w v words in
    rw (is, cut_finds 32 word (x ++ 32 ∷ y) free, other, two_found number f x y w v gives h k) refl

pub event_found : (number : List ℕ → Option ℕ) (f : ℕ → ℕ) (line : List ℕ) (event : Event) → Gives number f → IsEventLine line event
    → event_at number line ≡ Some (mapped f event)
unfolding event_at event_with
event_found number f line (Take w v) gives words = pair_found number f line (codes "take") w v gives refl refl words
event_found number f line (Read w v) gives words = pair_found number f line (codes "read") w v gives refl refl words
event_found number f line (Raise w) gives words = let (x, h, is) = one_word line (codes "raise") w words
    in rw (is, cut_finds 32 (codes "raise") x refl, gives x w h) refl
event_found number f line (Push w v) gives words = pair_found number f line (codes "push") w v gives refl refl words

gives_capped : Gives whole_number capped
gives_capped bytes n h = whole_finds bytes h.0 ∙ ap (λ k. Some (capped k)) h.1

pub no_event : (line : List ℕ) → event_at whole_number line ≡ None → (event : Event) → IsEventLine line event → ⊥
no_event line none event h = let q : None ≡ Some (mapped capped event) = sym none ∙ event_found whole_number capped line event gives_capped h in cc

-- ---- a line spells one event

abbrev exact : List ℕ → Option ℕ
exact bytes = cond (is_numeral bytes) (Some (value_of bytes)) None

gives_exact : Gives exact (λ n. n)
gives_exact bytes n h = rw h.0 (ap (λ k. Some k) h.1)

mapped_same : (event : Event) → mapped (λ n. n) event ≡ event
mapped_same (Take w v) = refl
mapped_same (Read w v) = refl
mapped_same (Raise w) = refl
mapped_same (Push w v) = refl

some_is : {A : Type 0} (x y : A) → Some x ≡ Some y → x ≡ y
some_is x y e = cc

pub one_event : (line : List ℕ) (x y : Event) → IsEventLine line x → IsEventLine line y → x ≡ y
one_event line x y h k =
    let same = sym (event_found exact (λ n. n) line x gives_exact h) ∙ event_found exact (λ n. n) line y gives_exact k in
    sym (mapped_same x) ∙ (some_is (mapped (λ n. n) x) (mapped (λ n. n) y) same ∙ mapped_same y)

-- ---- what is found is an event's line

-- the line spells an event, and this is what was read of it
abbrev pub IsSpelled : List ℕ → Event → Type 0
IsSpelled line event = (spelled : Event) × IsEventLine line spelled × (event ≡ mapped capped spelled)

numeral_of : (bytes : List ℕ) (v : ℕ) → whole_number bytes ≡ Some v → (n : ℕ) × IsNumeral bytes n × (v ≡ capped n)
numeral_of bytes v e = let h = whole_gives bytes v e in (value_of bytes, (h.0, refl), h.1)

abbrev AreTwo : List ℕ → ℕ → ℕ → Type 0
AreTwo bytes w v = (x y : List ℕ) × (m n : ℕ) × IsNumeral x m × IsNumeral y n × (bytes ≡ x ++ 32 ∷ y) × (w ≡ capped m) × (v ≡ capped n)

two_given : (bytes : List ℕ) (w v : ℕ) → two_numbers whole_number bytes ≡ Some (w, v) → AreTwo bytes w v
unfolding two_numbers
two_given bytes w v e =
    let (cut, is, e1) = bind_some (cut_at 32 bytes) (λ cut. whole_number cut.0 >>= λ w. whole_number cut.1 >>= λ v. Some (w, v)) (w, v) e in
    let (first, one, e2) = bind_some (whole_number cut.0) (λ w. whole_number cut.1 >>= λ v. Some (w, v)) (w, v) e1 in
    let (second, two, e3) = bind_some (whole_number cut.1) (λ v. Some (first, v)) (w, v) e2 in
    let (m, h, at) = numeral_of cut.0 first one in
    let (n, k, by) = numeral_of cut.1 second two in
    let same = some_is (first, second) (w, v) e3 in
    (cut.0, cut.1, m, n, h, k, (cut_gives 32 bytes cut.0 cut.1 is).1, sym (ap (λ (p : ℕ × ℕ). p.0) same) ∙ at, sym (ap (λ (p : ℕ × ℕ). p.1) same) ∙ by)

-- the event has this word and these numbers
abbrev IsOf : List ℕ → ℕ → ℕ → Event → Type 0
IsOf word w v event =
    ((word ≡ codes "take") × (event ≡ Take w v)) ⊎ ((word ≡ codes "read") × (event ≡ Read w v)) ⊎ ((word ≡ codes "push") × (event ≡ Push w v))

with_given : (word : List ℕ) (w v : ℕ) (event : Event) → event_with word w v ≡ Some event → IsOf word w v event
unfolding event_with
with_given word w v event e =
    elim (bytes_eq word (codes "take")) as (λ b. bytes_eq word (codes "take") ≡ b
    → cond b (Some (Take w v)) (cond (bytes_eq word (codes "read")) (Some (Read w v)) (cond (bytes_eq word (codes "push")) (Some (Push w v)) None))
    ≡ Some event → IsOf word w v event) [
      | true ↦ λ h k. inl ((bytes_eq-Decides word (codes "take")).0 h, sym (some_is (Take w v) event k))
      | false ↦ λ no k. elim (bytes_eq word (codes "read")) as
          (λ b. bytes_eq word (codes "read") ≡ b → cond b (Some (Read w v)) (cond (bytes_eq word (codes "push")) (Some (Push w v)) None) ≡ Some event
          → IsOf word w v event) [
            | true ↦ λ h k. inr (inl ((bytes_eq-Decides word (codes "read")).0 h, sym (some_is (Read w v) event k)))
            | false ↦ λ no k. elim (bytes_eq word (codes "push")) as
                (λ b. bytes_eq word (codes "push") ≡ b → cond b (Some (Push w v)) None ≡ Some event → IsOf word w v event) [
                  | true ↦ λ h k. inr (inr ((bytes_eq-Decides word (codes "push")).0 h, sym (some_is (Push w v) event k)))
                  | false ↦ λ no k. absurd cc
                ] refl k
          ] refl k
    ] refl e

pair_spelled : (line word rest : List ℕ) (w v : ℕ) (event : Event) → line ≡ word ++ 32 ∷ rest → AreTwo rest w v → IsOf word w v event → IsSpelled line event
pair_spelled line word rest w v event cut (x, y, m, n, h, k, is, at, by) (inl (take, e)) =
    (Take m n, (x ∷ y ∷ [], (h, (k, tt)), cut ∙ ap₂ (λ a b. a ++ 32 ∷ b) take is), e ∙ ap₂ (λ a b. Take a b) at by)
pair_spelled line word rest w v event cut (x, y, m, n, h, k, is, at, by) (inr (inl (read, e))) =
    (Read m n, (x ∷ y ∷ [], (h, (k, tt)), cut ∙ ap₂ (λ a b. a ++ 32 ∷ b) read is), e ∙ ap₂ (λ a b. Read a b) at by)
pair_spelled line word rest w v event cut (x, y, m, n, h, k, is, at, by) (inr (inr (push, e))) =
    (Push m n, (x ∷ y ∷ [], (h, (k, tt)), cut ∙ ap₂ (λ a b. a ++ 32 ∷ b) push is), e ∙ ap₂ (λ a b. Push a b) at by)

raise_spelled : (line word rest : List ℕ) (event : Event) → line ≡ word ++ 32 ∷ rest → word ≡ codes "raise"
    → (whole_number rest >>= λ w. Some (Raise w)) ≡ Some event → IsSpelled line event
raise_spelled line word rest event cut same e =
    let (w, read, is) = bind_some (whole_number rest) (λ w. Some (Raise w)) event e in
    let (n, h, at) = numeral_of rest w read in
    (Raise n, (rest ∷ [], (h, tt), cut ∙ ap (λ a. a ++ 32 ∷ rest) same), sym (some_is (Raise w) event is) ∙ ap (λ k. Raise k) at)

pub event_given : (line : List ℕ) (event : Event) → event_at whole_number line ≡ Some event → IsSpelled line event
unfolding event_at
event_given line event e =
    let raise = λ (rest : List ℕ). whole_number rest >>= λ w. Some (Raise w) in
    let other = λ (word rest : List ℕ). two_numbers whole_number rest >>= λ both. event_with word both.0 both.1 in
    let (cut, is, e1) = bind_some (cut_at 32 line) (λ cut. cond (bytes_eq cut.0 (codes "raise")) (raise cut.1) (other cut.0 cut.1)) event e in
    let split = (cut_gives 32 line cut.0 cut.1 is).1 in
    elim (bytes_eq cut.0 (codes "raise")) as (λ b. bytes_eq cut.0 (codes "raise") ≡ b → cond b (raise cut.1) (other cut.0 cut.1) ≡ Some event
    → IsSpelled line event) [
      | true ↦ λ same k. raise_spelled line cut.0 cut.1 event split ((bytes_eq-Decides cut.0 (codes "raise")).0 same) k
      | false ↦ λ no k. (
          let (both, two, e2) = bind_some (two_numbers whole_number cut.1) (λ both. event_with cut.0 both.0 both.1) event k in
          pair_spelled line cut.0 cut.1 both.0 both.1 event split (two_given cut.1 both.0 both.1 two) (with_given cut.0 both.0 both.1 event e2))
    ] refl e1

-- ---- numbers that were read decide as the numbers do that stand there

pub worker_capped : (event : Event) → worker_of_event (mapped capped event) ≡ capped (worker_of_event event)
worker_capped (Take w v) = refl
worker_capped (Read w v) = refl
worker_capped (Raise w) = refl
worker_capped (Push w v) = refl

-- what is among so few was read as it stands
pub read_whole : (workers vertices : ℕ) (event : Event) → workers < 2 ^ 32 → vertices < 2 ^ 32 → IsOfSoMany workers vertices (mapped capped event)
    → mapped capped event ≡ event
read_whole workers vertices (Take w v) few small h = let one : capped w ≡ w = omega (arith, h.worker) in let two : capped v ≡ v = omega (arith, h.vertex)
    in ap₂ (λ a b. Take a b) one two
read_whole workers vertices (Read w v) few small h = let one : capped w ≡ w = omega (arith, h.worker) in let two : capped v ≡ v = omega (arith, h.vertex)
    in ap₂ (λ a b. Read a b) one two
read_whole workers vertices (Raise w) few small h = let one : capped w ≡ w = omega (arith, h.worker) in ap (λ a. Raise a) one
read_whole workers vertices (Push w v) few small h = let one : capped w ≡ w = omega (arith, h.worker) in let two : capped v ≡ v = omega (arith, h.vertex)
    in ap₂ (λ a b. Push a b) one two

pub good_line : (workers vertices : ℕ) (line : List ℕ) (event : Event) → workers < 2 ^ 32 → vertices < 2 ^ 32 → event_at whole_number line ≡ Some event
    → IsOfSoMany workers vertices event
    → IsEventLine line event × IsOfSoMany workers vertices event
good_line workers vertices line event few small found within =
    let (x, is, e) = event_given line event found in
    let same : event ≡ x = e ∙ read_whole workers vertices x few small (subst (IsOfSoMany workers vertices) e within) in
    (subst (IsEventLine line) (sym same) is, within)

abbrev pub HasNoWorker : ℕ → List ℕ → Type 0
HasNoWorker workers line = (event : Event) × IsEventLine line event × (workers ≤ worker_of_event event)

pub far_worker : (workers : ℕ) (line : List ℕ) (event : Event) → event_at whole_number line ≡ Some event → workers ≤ worker_of_event event
    → HasNoWorker workers line
far_worker workers line event found far =
    let (x, is, e) = event_given line event found in
    let read : worker_of_event event ≡ capped (worker_of_event x) = ap worker_of_event e ∙ worker_capped x in
    (x, is, omega arith)

abbrev pub HasNoVertex : (workers vertices : ℕ) → List ℕ → Type 0
HasNoVertex workers vertices line = (event : Event) × IsEventLine line event × (worker_of_event event < workers)
    × IsSomeAnd (vertex_of_event event) (λ v. vertices ≤ v)

vertex_far : (vertices : ℕ) (event : Event) → IsSomeAnd (vertex_of_event (mapped capped event)) (λ v. vertices ≤ v)
    → IsSomeAnd (vertex_of_event event) (λ v. vertices ≤ v)
vertex_far vertices (Take w v) far = omega arith
vertex_far vertices (Read w v) far = omega arith
vertex_far vertices (Raise w) far = far
vertex_far vertices (Push w v) far = omega arith

pub far_vertex : (workers vertices : ℕ) (line : List ℕ) (event : Event) → workers < 2 ^ 32 → event_at whole_number line ≡ Some event
    → worker_of_event event < workers
    → IsSomeAnd (vertex_of_event event) (λ v. vertices ≤ v) → HasNoVertex workers vertices line
far_vertex workers vertices line event few found near far =
    let (x, is, e) = event_given line event found in
    let read : worker_of_event event ≡ capped (worker_of_event x) = ap worker_of_event e ∙ worker_capped x in
    (x, is, omega arith, vertex_far vertices x (subst (λ o. IsSomeAnd (vertex_of_event o) (λ v. vertices ≤ v)) e far))
