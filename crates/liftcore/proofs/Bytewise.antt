-- A line of a schedule, read byte by byte.
use Rattle.std.proofs.Common.{◌≡◌, ◌≢◌, ℕ, ◌+◌, ◌-◌, ◌*◌, ◌<◌, ◌≤◌, Bool, true, false, cond, ◌||◌, ◌==◌, nat_le, List, [], ◌∷◌, ◌++◌, length}
use Rattle.std.proofs.Common.{Option, Some, None, codes, refl, sym, ap, ◌∙◌, subst, append_assoc, append-nil, arith, true≢false}
use Rattle.std.specs.List.{list_all, list_any, fold}
use Rattle.std.specs.Str.{bytes_eq}
use Rattle.std.proofs.lemmas.Bool.{and_parts, eqb-true, eq-eqb, leb-true, le-leb}
use Rattle.std.proofs.lemmas.List.{length-append}
use Rattle.std.proofs.lemmas.List.Folds.{list_all-append}
use Rattle.std.proofs.lemmas.Slice.Eq.{bytes_eq-Decides}
use Rattle.text.specs.Text.{is_digit, is_numeral, value_of}
use Rattle.text.specs.Tokens.{capped, cut_at, whole_number, ◌>>=◌}
use Rattle.text.proofs.Scanning.{cut_finds, cut_gives, whole_finds, whole_gives}
use Rattle.text.proofs.Spaced.{numeral_digits}
use Rattle.liftcore.specs.Begun.{IsBegunLine, IsUnspaced, IsValue}
use Rattle.liftcore.specs.Scan.{event_at, event_with, two_numbers}
use Rattle.liftcore.specs.declared.event.Event.{Event}
use Rattle.liftcore.specs.declared.event.Event.TheVariants as event
use Rattle.liftcore.specs.declared.line.LinePart.TheVariants.{Faulty, Vertex, Worker}
use Rattle.liftcore.proofs.Lines.{digits_free}

-- ---- digits

-- no numeral has such a byte in it
no_numeral : (digits rest : List ℕ) (b : ℕ) → is_digit b ≡ false → is_numeral (digits ++ b ∷ rest) ≡ false
no_numeral digits rest b other =
    elim (is_numeral (digits ++ b ∷ rest)) as (λ t. is_numeral (digits ++ b ∷ rest) ≡ t → t ≡ false) [
      | true ↦ λ e.
          let all = sym (list_all-append is_digit digits (b ∷ rest)) ∙ numeral_digits (digits ++ b ∷ rest) e in
          let last = (and_parts (list_all is_digit digits) (list_all is_digit (b ∷ rest)) all).1 in
          absurd (true≢false (sym (and_parts (is_digit b) (list_all is_digit rest) last).0 ∙ other))
      | false ↦ λ e. refl
    ] refl

no_number : (bytes : List ℕ) → is_numeral bytes ≡ false → whole_number bytes ≡ None
unfolding whole_number
no_number bytes none = rw none refl

pub no_digit : (digits rest : List ℕ) (b : ℕ) → is_digit b ≡ false → whole_number (digits ++ b ∷ rest) ≡ None
no_digit digits rest b other = no_number (digits ++ b ∷ rest) (no_numeral digits rest b other)

value_grows : (n : ℕ) (digits : List ℕ) → n ≤ fold (λ n d. 10 * n + (d - 48)) n digits
value_grows n [] = omega arith
value_grows n (d ∷ digits) = let more = value_grows (10 * n + (d - 48)) digits in omega (arith, more)

-- a numeral that begins with another digit than 0 isn't 0
some_value : (d : ℕ) (digits : List ℕ) → 49 ≤ d → 1 ≤ value_of (d ∷ digits)
some_value d digits first = let more = value_grows (10 * 0 + (d - 48)) digits in omega (arith, more, first)

-- behind a 0 no digit stands
zero_alone : (digits rest : List ℕ) (b : ℕ) → is_numeral digits ≡ true → 0 ≡ capped (value_of digits) → is_numeral (digits ++ b ∷ rest) ≡ false
zero_alone [] rest b numeral zero = absurd cc
zero_alone (d ∷ []) rest b numeral zero =
    let small : d ≤ 48 = omega (arith, zero) in
    let test : nat_le 49 d ≡ false = elim (nat_le 49 d) as (λ t. nat_le 49 d ≡ t → t ≡ false)
    [ true ↦ λ e. absurd (omega (arith, leb-true 49 d e, small)) | false ↦ λ e. refl ] refl in
    rw test refl
zero_alone (d ∷ e ∷ digits) rest b numeral zero =
    let first = leb-true 49 d (and_parts (nat_le 49 d) (list_all is_digit (d ∷ e ∷ digits)) numeral).0 in
    let some = some_value d (e ∷ digits) first in
    absurd (omega (arith, some, zero))

pub no_more : (digits rest : List ℕ) (b : ℕ) → whole_number digits ≡ Some 0 → whole_number (digits ++ b ∷ rest) ≡ None
no_more digits rest b zero =
    let (numeral, value) = whole_gives digits 0 zero in
    no_number (digits ++ b ∷ rest) (zero_alone digits rest b numeral value)

fold_both : (n : ℕ) (xs ys : List ℕ) → fold (λ n d. 10 * n + (d - 48)) n (xs ++ ys) ≡ fold (λ n d. 10 * n + (d - 48)) (fold (λ n d. 10 * n + (d - 48)) n xs) ys
fold_both n [] ys = refl
fold_both n (x ∷ xs) ys = fold_both (10 * n + (x - 48)) xs ys

-- a numeral that isn't 0, with one more digit
longer_numeral : (digits : List ℕ) (b : ℕ) → is_numeral digits ≡ true → value_of digits ≢ 0 → is_digit b ≡ true → is_numeral (digits ++ b ∷ []) ≡ true
longer_numeral [] b numeral some digit = absurd cc
longer_numeral (d ∷ []) b numeral some digit =
    let first : 49 ≤ d = omega (arith, some) in
    rw (le-leb 49 d first, numeral, digit) refl
longer_numeral (d ∷ e ∷ digits) b numeral some digit =
    let h = and_parts (nat_le 49 d) (list_all is_digit (d ∷ e ∷ digits)) numeral in
    let all : list_all is_digit ((d ∷ e ∷ digits) ++ b ∷ []) ≡ true = list_all-append is_digit (d ∷ e ∷ digits) (b ∷ []) ∙ rw (h.1, digit) refl in
    rw h.0 all

pub one_more : (digits : List ℕ) (n m b : ℕ) → whole_number digits ≡ Some n → n ≢ 0 → is_digit b ≡ true → m ≡ capped (10 * n + (b - 48))
    → whole_number (digits ++ b ∷ []) ≡ Some m
one_more digits n m b is some digit more =
    let (numeral, value) = whole_gives digits n is in
    let nonzero : value_of digits ≢ 0 = λ e. some (value ∙ ap capped e) in
    let both : value_of (digits ++ b ∷ []) ≡ 10 * value_of digits + (b - 48) = fold_both 0 digits (b ∷ []) in
    let same : capped (value_of (digits ++ b ∷ [])) ≡ m = omega (arith, both, more, value) in
    whole_finds (digits ++ b ∷ []) (longer_numeral digits b numeral nonzero digit) ∙ ap (λ k. Some k) same

pub first_digit : (m b : ℕ) → is_digit b ≡ true → m ≡ b - 48 → whole_number (b ∷ []) ≡ Some m
first_digit m b digit is =
    let top = leb-true b 57 (and_parts (nat_le 48 b) (nat_le b 57) digit).1 in
    let same : capped (value_of (b ∷ [])) ≡ m = omega (arith, top, is) in
    whole_finds (b ∷ []) digit ∙ ap (λ k. Some k) same

value_free : (digits : List ℕ) (n : Option ℕ) → IsValue digits n → IsUnspaced digits
value_free digits None is = rw is refl
value_free digits (Some n) is = digits_free digits (numeral_digits digits (whole_gives digits n is).0)

-- ---- lines that spell nothing

or_second : (p q : Bool) → (p || q) ≡ false → q ≡ false
or_second true q e = absurd cc
or_second false q e = e

-- bytes without a space, with others behind them, are cut behind themselves
cut_behind : (front more x y : List ℕ) → IsUnspaced front → cut_at 32 (front ++ more) ≡ Some (x, y) → (z : List ℕ) × (x ≡ front ++ z)
cut_behind front more x y free e =
    let (plain, split) = cut_gives 32 (front ++ more) x y e in
    front_of front more x y free split
  where
    front_of : (front more x y : List ℕ) → IsUnspaced front → front ++ more ≡ x ++ 32 ∷ y → (z : List ℕ) × (x ≡ front ++ z)
    front_of [] more x y free split = (x, refl)
    front_of (b ∷ front) more [] y free split =
        let first : b ≡ 32 = cc in
        absurd (true≢false (sym (ap (λ t. t || list_any (λ b. b == 32) front) (eq-eqb b 32 first)) ∙ free))
    front_of (b ∷ front) more (c ∷ x) y free split =
        let first : b ≡ c = cc in
        let others : front ++ more ≡ x ++ 32 ∷ y = cc in
        let rest : list_any (λ b. b == 32) front ≡ false = or_second (b == 32) (list_any (λ b. b == 32) front) free in
        let (z, is) = front_of front more x y rest others in
        (z, (λ i. (sym first) i ∷ is i))

-- bytes without a space aren't cut
uncut : (bytes : List ℕ) → IsUnspaced bytes → cut_at 32 bytes ≡ None
uncut bytes free =
    elim (cut_at 32 bytes) as (λ o. cut_at 32 bytes ≡ o → o ≡ None) [
      | None ↦ λ e. refl
      | Some p ↦ λ e.
          let (z, is) = cut_behind bytes [] p.0 p.1 free (ap (cut_at 32) (append-nil bytes) ∙ e) in
          let split = (cut_gives 32 bytes p.0 p.1 e).1 in
          absurd (omega (arith, ap length split, ap length is, length-append p.0 (32 ∷ p.1), length-append bytes z))
    ] refl

two_uncut : (bytes : List ℕ) → cut_at 32 bytes ≡ None → two_numbers whole_number bytes ≡ None
unfolding two_numbers
two_uncut bytes e = rw e refl

two_first : (bytes x y : List ℕ) → cut_at 32 bytes ≡ Some (x, y) → whole_number x ≡ None → two_numbers whole_number bytes ≡ None
unfolding two_numbers
two_first bytes x y e none = rw (e, none) refl

two_second : (bytes x y : List ℕ) (w : ℕ) → cut_at 32 bytes ≡ Some (x, y) → whole_number x ≡ Some w → whole_number y ≡ None
    → two_numbers whole_number bytes ≡ None
unfolding two_numbers
two_second bytes x y w e some none = rw (e, some, none) refl

two_both : (bytes x y : List ℕ) (w v : ℕ) → cut_at 32 bytes ≡ Some (x, y) → whole_number x ≡ Some w → whole_number y ≡ Some v
    → two_numbers whole_number bytes ≡ Some (w, v)
unfolding two_numbers
two_both bytes x y w v e first second = rw (e, first, second) refl

unspaced_more : (bytes : List ℕ) (b : ℕ) → IsUnspaced bytes → (b == 32) ≡ false → IsUnspaced (bytes ++ b ∷ [])
unspaced_more [] b free other = rw other refl
unspaced_more (c ∷ bytes) b free other =
    elim (c == 32) as (λ t. (t || list_any (λ b. b == 32) bytes) ≡ false → (t || list_any (λ b. b == 32) (bytes ++ b ∷ [])) ≡ false)
    [ true ↦ λ e. absurd cc | false ↦ λ e. unspaced_more bytes b e other ] free

-- digits that no bytes make a number, with this byte behind them
abbrev AreStuck : List ℕ → ℕ → Type 0
AreStuck digits b = (rest : List ℕ) → whole_number (digits ++ b ∷ rest) ≡ None

two_stuck : (digits rest : List ℕ) (b : ℕ) → IsUnspaced digits → AreStuck digits b → ((b == 32) ≡ true → digits ≡ [])
    → two_numbers whole_number (digits ++ b ∷ rest) ≡ None
two_stuck digits rest b free stuck empty =
    elim (b == 32) as (λ t. (b == 32) ≡ t → two_numbers whole_number (digits ++ b ∷ rest) ≡ None) [
      | true ↦ λ e.
          let here : digits ++ b ∷ rest ≡ [] ++ 32 ∷ rest = ap (λ l. l ++ b ∷ rest) (empty e) ∙ ap (λ k. k ∷ rest) (eqb-true b 32 e) in
          two_first (digits ++ b ∷ rest) [] rest (ap (cut_at 32) here ∙ cut_finds 32 [] rest refl) (no_number [] refl)
      | false ↦ λ e. elim (cut_at 32 (digits ++ b ∷ rest)) as
          (λ o. cut_at 32 (digits ++ b ∷ rest) ≡ o → two_numbers whole_number (digits ++ b ∷ rest) ≡ None) [
            | None ↦ λ none. two_uncut (digits ++ b ∷ rest) none
            | Some p ↦ λ some.
                let longer = append_assoc digits (b ∷ []) rest in
                let (z, is) = cut_behind (digits ++ b ∷ []) rest p.0 p.1 (unspaced_more digits b free e) (ap (cut_at 32) longer ∙ some) in
                two_first (digits ++ b ∷ rest) p.0 p.1 some (ap whole_number (is ∙ append_assoc digits (b ∷ []) z) ∙ stuck z)
          ] refl
    ] refl

either_none : (t : Bool) → cond {A = Option Event} t None None ≡ None
either_none true = refl
either_none false = refl

no_event_behind : (word bytes : List ℕ) → IsUnspaced word → whole_number bytes ≡ None → two_numbers whole_number bytes ≡ None
    → event_at whole_number (word ++ 32 ∷ bytes) ≡ None
unfolding event_at
no_event_behind word bytes free one two = rw (cut_finds 32 word bytes free, one, two) (either_none (bytes_eq word (codes "raise")))

-- ---- words

not_word : (bytes word : List ℕ) → length word < length bytes → bytes_eq bytes word ≡ false
not_word bytes word longer =
    elim (bytes_eq bytes word) as (λ t. bytes_eq bytes word ≡ t → t ≡ false)
    [ true ↦ λ e. absurd (omega (arith, ap length ((bytes_eq-Decides bytes word).0 e), longer)) | false ↦ λ e. refl ] refl

no_long_event : (word : List ℕ) (w v : ℕ) → 6 ≤ length word → event_with word w v ≡ None
unfolding event_with
no_long_event word w v long =
    let take = not_word word (codes "take") (omega (arith, long)) in
    let read = not_word word (codes "read") (omega (arith, long)) in
    let push = not_word word (codes "push") (omega (arith, long)) in rw (take, read, push) refl

bind_none : {A B : Type 0} (o : Option A) (f : A → Option B) → ((x : A) → f x ≡ None) → (o >>= f) ≡ None
bind_none None f none = refl
bind_none (Some x) f none = none x

too_long : (front rest : List ℕ) → IsUnspaced front → 6 ≤ length front → event_at whole_number (front ++ rest) ≡ None
unfolding event_at
too_long front rest free long =
    elim (cut_at 32 (front ++ rest)) as (λ o. cut_at 32 (front ++ rest) ≡ o → (o >>= λ cut.
    cond (bytes_eq cut.0 (codes "raise")) (whole_number cut.1 >>= λ w. Some (event.Raise w))
    (two_numbers whole_number cut.1 >>= λ both. event_with cut.0 both.0 both.1)) ≡ None) [
      | None ↦ λ e. refl
      | Some p ↦ λ e.
          let (z, is) = cut_behind front rest p.0 p.1 free e in
          let longer : 6 ≤ length p.0 = omega (arith, ap length is, length-append front z, long) in
          rw (not_word p.0 (codes "raise") (omega (arith, longer)))
          (bind_none (two_numbers whole_number p.1) (λ both. event_with p.0 both.0 both.1) (λ both. no_long_event p.0 both.0 both.1 longer))
    ] refl

pub word_full : (line word : List ℕ) (b : ℕ) → line ≡ word → IsUnspaced word → (b == 32) ≡ false → 5 ≤ length word → IsBegunLine (line ++ b ∷ []) word Faulty
word_full line word b is free other full = λ rest.
    too_long (line ++ b ∷ []) rest (subst (λ l. IsUnspaced (l ++ b ∷ [])) (sym is) (unspaced_more word b free other))
    (omega (arith, length-append line (b ∷ []), ap length is, full))

-- ---- workers and vertices

pub worker_more : (line word : List ℕ) (n : Option ℕ) (m b : ℕ) → IsBegunLine line word (Worker n)
    → ((digits : List ℕ) → IsValue digits n → whole_number (digits ++ b ∷ []) ≡ Some m) → IsBegunLine (line ++ b ∷ []) word (Worker (Some m))
worker_more line word n m b (digits, is, free, value) more =
    (digits ++ b ∷ [], ap (λ l. l ++ b ∷ []) is ∙ append_assoc word (32 ∷ digits) (b ∷ []), free, more digits value)

behind_word : (line word digits rest : List ℕ) (b : ℕ) → line ≡ word ++ 32 ∷ digits → (line ++ b ∷ []) ++ rest ≡ word ++ 32 ∷ (digits ++ b ∷ rest)
behind_word line word digits rest b is =
    append_assoc line (b ∷ []) rest ∙ ap (λ l. l ++ b ∷ rest) is ∙ append_assoc word (32 ∷ digits) (b ∷ rest)

pub worker_bad : (line word : List ℕ) (n : Option ℕ) (b : ℕ) → IsBegunLine line word (Worker n) → ((b == 32) ≡ true → n ≡ None)
    → ((digits : List ℕ) → IsValue digits n → (rest : List ℕ) → whole_number (digits ++ b ∷ rest) ≡ None) → IsBegunLine (line ++ b ∷ []) word Faulty
worker_bad line word n b (digits, is, free, value) none stuck = λ rest.
    ap (event_at whole_number) (behind_word line word digits rest b is)
    ∙ no_event_behind word (digits ++ b ∷ rest) free (stuck digits value rest)
    (two_stuck digits rest b (value_free digits n value) (stuck digits value) (λ e. subst (IsValue digits) (none e) value))

pub vertex_more : (line word : List ℕ) (w m b : ℕ) (n : Option ℕ) → IsBegunLine line word (Vertex w n)
    → ((digits : List ℕ) → IsValue digits n → whole_number (digits ++ b ∷ []) ≡ Some m) → IsBegunLine (line ++ b ∷ []) word (Vertex w (Some m))
vertex_more line word w m b n (numeral, digits, is, free, first, value) more = (
  numeral,
  digits ++ b ∷ [],
  ap (λ l. l ++ b ∷ []) is ∙ append_assoc word (32 ∷ (numeral ++ 32 ∷ digits)) (b ∷ [])
      ∙ ap (λ l. word ++ 32 ∷ l) (append_assoc numeral (32 ∷ digits) (b ∷ [])),
  free,
  first,
  more digits value,
)

pub vertex_bad : (line word : List ℕ) (w b : ℕ) (n : Option ℕ) → IsBegunLine line word (Vertex w n)
    → ((digits : List ℕ) → IsValue digits n → (rest : List ℕ) → whole_number (digits ++ b ∷ rest) ≡ None) → IsBegunLine (line ++ b ∷ []) word Faulty
vertex_bad line word w b n (numeral, digits, is, free, first, value) stuck = λ rest.
    let bytes = numeral ++ 32 ∷ (digits ++ b ∷ rest) in
    ap (event_at whole_number) (behind_word line word (numeral ++ 32 ∷ digits) rest b is
    ∙ ap (λ l. word ++ 32 ∷ l) (append_assoc numeral (32 ∷ digits) (b ∷ rest)))
    ∙ no_event_behind word bytes free (no_digit numeral (digits ++ b ∷ rest) 32 refl)
    (two_second bytes numeral (digits ++ b ∷ rest) w (cut_finds 32 numeral (digits ++ b ∷ rest) (value_free numeral (Some w) first)) first
    (stuck digits value rest))

-- ---- the event of the line

pub word_event : (line word : List ℕ) → line ≡ word → IsUnspaced word → event_at whole_number line ≡ None
unfolding event_at
word_event line word is free = rw (is, uncut word free) refl

pub faulty_event : (line word : List ℕ) → IsBegunLine line word Faulty → event_at whole_number line ≡ None
faulty_event line word stuck = ap (event_at whole_number) (sym (append-nil line)) ∙ stuck []

-- nothing was read of the number
pub worker_absent : (line word : List ℕ) → IsBegunLine line word (Worker None) → event_at whole_number line ≡ None
worker_absent line word (digits, is, free, value) =
    ap (event_at whole_number) (is ∙ ap (λ l. word ++ 32 ∷ l) value) ∙ no_event_behind word [] free (no_number [] refl) (two_uncut [] (uncut [] refl))

pub worker_other : (line word : List ℕ) (n : Option ℕ) → IsBegunLine line word (Worker n) → bytes_eq word (codes "raise") ≡ false
    → event_at whole_number line ≡ None
unfolding event_at
worker_other line word n (digits, is, free, value) other =
    rw (is, cut_finds 32 word digits free, other, two_uncut digits (uncut digits (value_free digits n value))) refl

pub worker_event : (line word : List ℕ) (w : ℕ) → IsBegunLine line word (Worker (Some w)) → bytes_eq word (codes "raise") ≡ true
    → event_at whole_number line ≡ Some (event.Raise w)
unfolding event_at
worker_event line word w (digits, is, free, value) raise = rw (is, cut_finds 32 word digits free, raise, value) refl

pub vertex_absent : (line word : List ℕ) (w : ℕ) → IsBegunLine line word (Vertex w None) → event_at whole_number line ≡ None
vertex_absent line word w (numeral, digits, is, free, first, value) =
    ap (event_at whole_number) (is ∙ ap (λ l. word ++ 32 ∷ (numeral ++ 32 ∷ l)) value)
    ∙ no_event_behind word (numeral ++ 32 ∷ []) free (no_digit numeral [] 32 refl)
    (two_second (numeral ++ 32 ∷ []) numeral [] w (cut_finds 32 numeral [] (value_free numeral (Some w) first)) first (no_number [] refl))

-- a raise has no vertex
raise_alone : (word : List ℕ) (w v : ℕ) → cond (bytes_eq word (codes "raise")) None (event_with word w v) ≡ event_with word w v
unfolding event_with
raise_alone word w v =
    elim (bytes_eq word (codes "raise")) as (λ t. bytes_eq word (codes "raise") ≡ t → cond t None (event_with word w v) ≡ event_with word w v)
    [ true ↦ λ e. rw ((bytes_eq-Decides word (codes "raise")).0 e) refl | false ↦ λ e. refl ] refl

pub vertex_event : (line word : List ℕ) (w v : ℕ) → IsBegunLine line word (Vertex w (Some v)) → event_at whole_number line ≡ event_with word w v
unfolding event_at
vertex_event line word w v (numeral, digits, is, free, first, second) =
    let bytes = numeral ++ 32 ∷ digits in
    rw (
      is,
      cut_finds 32 word bytes free,
      no_digit numeral digits 32 refl,
      two_both bytes numeral digits w v (cut_finds 32 numeral digits (value_free numeral (Some w) first)) first second,
    ) (raise_alone word w v)

-- ---- a line of which nothing was read

behind_nothing : (word digits : List ℕ) → word ++ 32 ∷ digits ≢ []
behind_nothing word digits e = omega (arith, ap length e, length-append word (32 ∷ digits))

pub some_worker : (line word : List ℕ) (n : Option ℕ) → IsBegunLine line word (Worker n) → line ≢ []
some_worker line word n (digits, is, free, value) none = behind_nothing word digits (sym is ∙ none)

pub some_vertex : (line word : List ℕ) (w : ℕ) (n : Option ℕ) → IsBegunLine line word (Vertex w n) → line ≢ []
some_vertex line word w n (numeral, digits, is, free, first, value) none = behind_nothing word (numeral ++ 32 ∷ digits) (sym is ∙ none)

pub some_faulty : (line word : List ℕ) → IsBegunLine line word Faulty → line ≢ []
unfolding event_at two_numbers event_with whole_number cut_at
some_faulty line word stuck none =
    let event = codes "raise 0" in
    absurd (let wrong : event_at whole_number event ≡ None = ap (λ l. event_at whole_number (l ++ event)) (sym none) ∙ stuck event in cc)
