-- What is read token by token says of the first line of the text.
use Rattle.std.proofs.Common.{◌≡◌, ◌≢◌, ℕ, suc, ◌+◌, ◌≤◌, Bool, true, false, cond, ◌==◌, nat_eq, List, [], ◌∷◌, ◌++◌, length, take, drop}
use Rattle.std.proofs.Common.{inl, inr, Option, Some, None, refl, sym, ap, ◌∙◌, subst, append_assoc, arith, true≢false}
use Rattle.std.specs.Prelude.{IfSome, MatchBool, codes, nat_le}
use Rattle.std.specs.List.{list_all, prefix_len}
use Rattle.std.specs.Io.BufRead.{DropsConsumable}
use Rattle.std.specs.Cmp.Lexicographic.{pointwise}
use Rattle.std.proofs.lemmas.Bool.{ne_eqb, and_parts, leb-true, cases_lt}
use Rattle.std.proofs.lemmas.List.{take_all, length-take-le}
use Rattle.std.proofs.lemmas.List.Folds.{list_all-append}
use Rattle.text.specs.Text.{is_blank, is_digit, is_numeral, value_of}
use Rattle.text.specs.Lines.{IfKnown}
use Rattle.text.specs.Tokens.{capped, past_blanks, sign_at, number_at, number_before, cut_at, quoted_at, end_at, ◌>>=◌}
use Rattle.text.specs.Stream.{line_of, after_line, front_byte, is_inside, Shows, Passes, PassesSign, PassesKept, PassesLine, Ends}
use Rattle.text.proofs.Spaced.{begins}
use Rattle.text.proofs.Scanning.{past_gap, run_none, if_some, sign_here}
use Rattle.text.proofs.Streaming.{known_then, known_only, known_both, Then, One, sign_stops, sign_goes_on, token_stops, token_goes_on}
use Rattle.systems.specs.Label.{is_label_byte}
use Rattle.game.specs.NumberSet.{number_set}
use Rattle.game.specs.declared.player.Player.{Player}
use Rattle.game.specs.declared.player.Player.TheVariants.{Even, Odd}
use Rattle.pgsolver.specs.declared.limits.TheConstants.{LONGEST_NAME}
use Rattle.pgsolver.specs.declared.scan.Head.{Head}
use Rattle.pgsolver.specs.Spelling.{is_vertex_name}
use Rattle.pgsolver.specs.Scan as at
use Rattle.pgsolver.specs.Scan.{header_at, gap_at, number_gap, owner_of_digit, owner_at, head_at, first_at, more_at, targets_at, targets_behind, name_at, name_behind}
use Rattle.pgsolver.specs.Scan.{tail_at, line_at, FindsMore}
use Rattle.pgsolver.specs.Passes.{SkipsBlanks, SkipsTo, IsPast, PassesGap, PassesComma, PassesDigit, HasRead, PassesMore, rest_at, PassesTargets, PassesName, PassesTail, PassesVertex}
use Rattle.text.proofs.Streaming.{all_of, inside_of, line_cons, line_run, line_stops}
use Rattle.pgsolver.proofs.Adding.{HasAdded, added_none, added_more, added_wrong, added_all, none_found, first_found}
use Rattle.pgsolver.proofs.Same.{set_push}

-- ---- the blanks in front of the first line

blank_inside : (b : ℕ) → is_blank b ≡ true → is_inside b ≡ true
blank_inside = inside_of is_blank refl refl

-- what is left begins the line past the blanks
record Behind (text left : List ℕ) : Type 0 where
  past : past_blanks (line_of text) ≡ line_of left
  is : IsPast text left

behind : (text left : List ℕ) → SkipsBlanks text left → Behind text left
behind text left runs =
    let (line, under) = line_run runs.run left (all_of is_blank is_inside blank_inside runs.run runs.all) in
    let stop = line_stops is_blank left runs.stop in
    let past : past_blanks (line_of text) ≡ line_of left = ap (λ t. past_blanks (line_of t)) runs.cut ∙ ap past_blanks line
    ∙ past_gap runs.run (line_of left) runs.all stop in
    record { past = past; is = record { same = past ∙ sym (past_gap [] (line_of left) refl stop); under = ap after_line runs.cut ∙ under } }

-- the blanks so far
pub record SkipsSo (text left : List ℕ) : Type 0 where
  pub run : List ℕ
  pub cut : text ≡ run ++ left
  pub all : list_all is_blank run ≡ true

pub no_blank : (old : Option (List ℕ)) → IfKnown old old SkipsSo
no_blank None = tt
no_blank (Some text) = record { run = []; cut = refl; all = refl }

-- one blank more
pub blank_more : (old mid new : Option (List ℕ)) (b : ℕ) → IfKnown old mid SkipsSo → IfKnown mid new (One b) → is_blank b ≡ true → IfKnown old new SkipsSo
blank_more old mid new b so one blank =
    known_then {P = SkipsSo} {Q = One b} {R = SkipsSo} old mid new so one
    (λ text between left a e. record {
      run = a.run ++ b ∷ [];
      cut = a.cut ∙ ap (λ l. a.run ++ l) e ∙ sym (append_assoc a.run (b ∷ []) left);
      all = list_all-append is_blank a.run (b ∷ []) ∙ rw (a.all, blank) refl;
    })

-- no blank follows
pub skips : (next : Option ℕ) (old mid new : Option (List ℕ)) → IfKnown old mid SkipsSo → Shows mid new next → IfSome next (λ b. is_blank b ≡ false)
    → IfKnown old new (SkipsTo next)
skips next old mid new so shows stop =
    known_then {P = SkipsSo} {Q = λ text left. (left ≡ text) × (front_byte text ≡ next)} {R = SkipsTo next} old mid new so shows
    (λ text between left a s. (
      record {
        run = a.run;
        cut = a.cut ∙ ap (λ l. a.run ++ l) (sym s.0);
        all = a.all;
        stop = subst (λ o. IfSome o (λ b. is_blank b ≡ false)) (sym (ap front_byte s.0 ∙ s.1)) stop;
      },
      ap front_byte s.0 ∙ s.1,
    ))

next_cons : (text : List ℕ) (b : ℕ) → front_byte text ≡ Some b → text ≡ b ∷ drop 1 text
next_cons [] b e = absurd cc
next_cons (c ∷ text) b e = let same : c ≡ b = cc in ap (λ x. x ∷ text) same

-- another byte is next
sign_other : (t : ℕ) (line : List ℕ) → begins (λ b. b == t) (past_blanks line) ≡ false → sign_at (t ∷ []) line ≡ None
unfolding sign_at
sign_other t line h = none (past_blanks line) h
  where
    none : (start : List ℕ) → begins (λ b. b == t) start ≡ false → cond (pointwise nat_eq (take 1 start) (t ∷ [])) (Some (drop 1 start)) None ≡ None
    none [] h = refl
    none (b ∷ start) h = rw h refl

sign_missing : (t : ℕ) (next : Option ℕ) (text left : List ℕ) → SkipsTo next text left → next ≢ Some t → sign_at (t ∷ []) (line_of text) ≡ None
sign_missing t next text left runs other =
    sign_other t (line_of text) (ap (begins (λ b. b == t)) (behind text left runs.0).past
    ∙ line_stops (λ b. b == t) left (subst (λ o. IfSome o (λ b. (b == t) ≡ false)) (sym runs.1) (not_this next other)))
  where
    not_this : (next : Option ℕ) → next ≢ Some t → IfSome next (λ b. (b == t) ≡ false)
    not_this None other = tt
    not_this (Some b) other = ne_eqb b t (λ e. other (ap Some e))

-- ---- what is found past blanks is found whatever blanks there are

pub sign_same : (token a b : List ℕ) → past_blanks a ≡ past_blanks b → sign_at token a ≡ sign_at token b
unfolding sign_at
sign_same token a b e = ap (λ start. cond (pointwise nat_eq (take (length token) start) token) (Some (drop (length token) start)) None) e

number_same : (a b : List ℕ) → past_blanks a ≡ past_blanks b → number_at a ≡ number_at b
unfolding number_at
number_same a b e = ap (λ start. cond (is_numeral (take (prefix_len is_digit start) start))
    (Some (capped (value_of (take (prefix_len is_digit start) start)), drop (prefix_len is_digit start) start)) None) e

quoted_same : (a b : List ℕ) → past_blanks a ≡ past_blanks b → quoted_at a ≡ quoted_at b
unfolding quoted_at
quoted_same a b e = ap (λ o. o >>= cut_at 34) (sign_same (34 ∷ []) a b e)

-- the end of a line behind the name
abbrev last : List ℕ → Option (Unit {0})
last rest = sign_at (codes ";") rest >>= end_at tt

tail_same : (a b : List ℕ) → past_blanks a ≡ past_blanks b → tail_at a ≡ tail_at b
unfolding tail_at name_at
tail_same a b e = ap (λ o. name_behind a o >>= last) (quoted_same a b e) ∙ behind_same (quoted_at b)
  where
    behind_same : (o : Option (List ℕ × List ℕ)) → (name_behind a o >>= last) ≡ (name_behind b o >>= last)
    behind_same None = ap (λ o. o >>= end_at tt) (sign_same (codes ";") a b e)
    behind_same (Some name) = refl

-- no line ends so
tail_none : (line : List ℕ) → sign_at (34 ∷ []) line ≡ None → sign_at (59 ∷ []) line ≡ None → tail_at line ≡ None
unfolding tail_at name_at quoted_at
tail_none line quote end = rw (quote, end) refl

gap_past : (line rest : List ℕ) → gap_at line ≡ Some rest → past_blanks line ≡ past_blanks rest
unfolding gap_at
gap_past [] rest e = absurd cc
gap_past (b ∷ bs) rest e =
    let h = if_some (is_blank b) bs rest e in
    let one : 1 + prefix_len is_blank bs ≡ suc (prefix_len is_blank bs) = omega arith in
    rw (h.0, one) (ap past_blanks h.1)

-- ---- one byte

abbrev Bytes : Type 0
Bytes = Option (List ℕ)

blank_gap : (b : ℕ) (text left : List ℕ) → is_blank b ≡ true → text ≡ b ∷ left → PassesGap true text left
unfolding gap_at
blank_gap b text left blank cut =
    let (line, under) = line_cons b left (blank_inside b blank) in
    (ap (λ t. gap_at (line_of t)) cut ∙ ap gap_at line ∙ rw blank refl, ap after_line cut ∙ under)

pub gap_taken : (old new : Bytes) (b : ℕ) → is_blank b ≡ true → IfKnown old new (One b) → IfKnown old new (PassesGap true)
gap_taken old new b blank one = known_only {P = One b} {Q = PassesGap true} old new one (λ text left cut. blank_gap b text left blank cut)

no_gap : (text : List ℕ) → IfSome (front_byte text) (λ b. is_blank b ≡ false) → gap_at (line_of text) ≡ None
unfolding gap_at
no_gap text stop = none (line_of text) (line_stops is_blank text stop)
  where
    none : (line : List ℕ) → begins is_blank line ≡ false → gap_at line ≡ None
    none [] h = refl
    none (b ∷ line) h = rw h refl

pub gap_missing : (old new : Bytes) (next : Option ℕ) → Shows old new next → IfSome next (λ b. is_blank b ≡ false) → IfKnown old new (PassesGap false)
gap_missing old new next shows stop = known_only {P = λ text left. (left ≡ text) × (front_byte text ≡ next)} {Q = PassesGap false} old new shows
    (λ text left s. (no_gap text (subst (λ o. IfSome o (λ b. is_blank b ≡ false)) (sym s.1) stop), s.0))

-- the comma is there, or isn't
pub comma_taken : (next : Option ℕ) (old mid new : Bytes) (limit : Option ℕ) → IfKnown old mid (SkipsTo next) → next ≡ Some 44
    → IfSome next (λ _. IfSome old (λ _. IfSome limit (λ n. 1 ≤ n))) → DropsConsumable mid new limit 1 → IfKnown old new (PassesComma true)
comma_taken next None mid new limit runs is fits drops = tt
comma_taken next (Some text) None new limit runs is fits drops = absurd runs
comma_taken next (Some text) (Some left) new limit (runs, at) is fits drops =
    let new-is : new ≡ Some (drop 1 left) = drops (rw is at fits) in
    let cut : left ≡ 44 ∷ drop 1 left = next_cons left 44 (at ∙ is) in
    let (line, under) = line_cons 44 (drop 1 left) refl in
    let blanks = behind text left runs in
    rw new-is (sign_here (44 ∷ []) (line_of text) (line_of (drop 1 left)) (blanks.past ∙ ap line_of cut ∙ line), blanks.is.under ∙ ap after_line cut ∙ under)

pub comma_missing : (next : Option ℕ) (old mid : Bytes) → IfKnown old mid (SkipsTo next) → next ≢ Some 44 → IfKnown old mid (PassesComma false)
comma_missing next None mid runs other = tt
comma_missing next (Some text) None runs other = absurd runs
comma_missing next (Some text) (Some left) runs other =
    (sign_missing 44 next text left runs other, (behind text left runs.0).is)

-- a digit follows, or none does
no_number : (text left : List ℕ) → SkipsBlanks text left → IfSome (front_byte left) (λ b. is_digit b ≡ false) → number_at (line_of text) ≡ None
unfolding number_at
no_number text left runs stop =
    let past = (behind text left runs).past in
    let none : prefix_len is_digit (line_of left) ≡ 0 = run_none is_digit (line_of left) (line_stops is_digit left stop) in
    rw (past, none) refl

other_digit : (b c : ℕ) → is_digit b ≡ true → is_digit c ≡ false → Some b ≢ Some c
other_digit b c one none e = let same : b ≡ c = cc in true≢false (sym one ∙ ap is_digit same ∙ none)

pub digit_is : (next : Option ℕ) (found : Bool) (old mid : Bytes) → IfKnown old mid (SkipsTo next)
    → MatchBool found ((b : ℕ) × (next ≡ Some b) × (is_digit b ≡ true)) (IfSome next (λ b. is_digit b ≡ false)) → IfKnown old mid (PassesDigit found)
digit_is next found None mid runs is = tt
digit_is next found (Some text) None runs is = absurd runs
digit_is next true (Some text) (Some left) runs (b, at, one) = (
  (behind text left runs.0).is,
  tail_none (line_of text) (sign_missing 34 next text left runs (λ e. other_digit b 34 one refl (sym at ∙ e)))
      (sign_missing 59 next text left runs (λ e. other_digit b 59 one refl (sym at ∙ e))),
)
digit_is next false (Some text) (Some left) runs stop = (
  (behind text left runs.0).is,
  no_number text left runs.0 (subst (λ o. IfSome o (λ b. is_digit b ≡ false)) (sym runs.1) stop),
)

-- whether the next byte is a digit
abbrev pub IsDigitNext : Option ℕ → Bool → Type 0
IsDigitNext next found = MatchBool found ((b : ℕ) × (next ≡ Some b) × (is_digit b ≡ true)) (IfSome next (λ b. is_digit b ≡ false))

pub some_digit : (next : Option ℕ) (b : ℕ) (found : Bool) → next ≡ Some b → found ≡ is_digit b → IsDigitNext next found
some_digit next b true at is = (b, at, sym is)
some_digit next b false at is = subst (λ o. IfSome o (λ b. is_digit b ≡ false)) (sym at) (sym is)

pub none_digit : (next : Option ℕ) → next ≡ None → IsDigitNext next false
none_digit next none = subst (λ o. IfSome o (λ b. is_digit b ≡ false)) (sym none) tt

-- ---- the header

abbrev header_1 : List ℕ → Option ℕ
header_1 rest = number_before (codes ";") rest >>= λ n. end_at n.0 n.1

pub header_stops_1 : (old new : Bytes) → IfKnown old new (PassesSign (sign_at (codes "parity")) false) → IfKnown old new (PassesLine header_at None)
unfolding header_at
header_stops_1 old new none = sign_stops (sign_at (codes "parity")) header_1 old new none

pub header_stops_2 : (old mid new : Bytes) → IfKnown old mid (PassesSign (sign_at (codes "parity")) true)
    → IfKnown mid new (Passes (number_before (codes ";")) None) → IfKnown old new (PassesLine header_at None)
unfolding header_at
header_stops_2 old mid new some none = sign_goes_on (sign_at (codes "parity")) header_1 None old mid new some
    (token_stops (number_before (codes ";")) (λ n. end_at n) mid new none)

pub header_goes_on : (n : ℕ) (r : Option ℕ) (old a b new : Bytes) → IfKnown old a (PassesSign (sign_at (codes "parity")) true)
    → IfKnown a b (Passes (number_before (codes ";")) (Some n)) → IfKnown b new (PassesLine (end_at n) r) → IfKnown old new (PassesLine header_at r)
unfolding header_at
header_goes_on n r old a b new some number rest = sign_goes_on (sign_at (codes "parity")) header_1 r old a new some
    (token_goes_on (number_before (codes ";")) (λ n. end_at n) n r a b new number rest)

-- ---- what stands before the successors

-- a token that a test finds, and then another
pub then_none : {X Z : Type 0} (f : List ℕ → Option (X × List ℕ)) (g : X → List ℕ → Option (Z × List ℕ)) (old new : Bytes) → IfKnown old new (Passes f None)
    → IfKnown old new (Passes (λ l. f l >>= λ x. g x.0 x.1) None)
then_none f g old new none = known_only {P = Passes f None} {Q = Passes (λ l. f l >>= λ x. g x.0 x.1) None} old new none (λ text left e. rw e refl)

pub then_goes_on : {X Z : Type 0} (f : List ℕ → Option (X × List ℕ)) (g : X → List ℕ → Option (Z × List ℕ)) (x : X) (r : Option Z) (old mid new : Bytes)
    → IfKnown old mid (Passes f (Some x)) → IfKnown mid new (Passes (g x) r) → IfKnown old new (Passes (λ l. f l >>= λ x. g x.0 x.1) r)
then_goes_on f g x None old mid new some rest = known_then {P = Passes f (Some x)} {Q = Passes (g x) None} {R = Passes (λ l. f l >>= λ x. g x.0 x.1) None}
    old mid new some rest (λ text between left e h. rw e.0 h)
then_goes_on f g x (Some z) old mid new some rest =
    known_then {P = Passes f (Some x)} {Q = Passes (g x) (Some z)} {R = Passes (λ l. f l >>= λ x. g x.0 x.1) (Some z)} old mid new some rest
    (λ text between left e h. (rw e.0 h.0, e.1 ∙ h.1))

abbrev gap_behind : ℕ → List ℕ → Option (ℕ × List ℕ)
gap_behind n line = gap_at line >>= λ rest. Some (n, rest)

pub number_gap_none : (old new : Bytes) → IfKnown old new (Passes number_at None) → IfKnown old new (Passes number_gap None)
unfolding number_gap
number_gap_none old new none = then_none number_at gap_behind old new none

pub number_no_gap : (n : ℕ) (old mid new : Bytes) → IfKnown old mid (Passes number_at (Some n)) → IfKnown mid new (PassesGap false)
    → IfKnown old new (Passes number_gap None)
unfolding number_gap
number_no_gap n old mid new some none = then_goes_on number_at gap_behind n None old mid new some
    (known_only {P = PassesGap false} {Q = Passes (gap_behind n) None} mid new none (λ text left e. rw e.0 refl))

pub number_and_gap : (n : ℕ) (old mid new : Bytes) → IfKnown old mid (Passes number_at (Some n)) → IfKnown mid new (PassesGap true)
    → IfKnown old new (Passes number_gap (Some n))
unfolding number_gap
number_and_gap n old mid new some gap = then_goes_on number_at gap_behind n (Some n) old mid new some
    (known_only {P = PassesGap true} {Q = Passes (gap_behind n) (Some n)} mid new gap (λ text left e. (rw e.0 refl, e.1)))

-- the owner of a digit, and what follows it
abbrev owner_with : Option Player → List ℕ → Option (Player × List ℕ)
owner_with o rest = o >>= λ p. Some (p, rest)

owner_split : (a b : Bool) (rest : List ℕ) → cond a (Some (Even, rest)) (cond b (Some (Odd, rest)) None)
    ≡ owner_with (cond a (Some Even) (cond b (Some Odd) None)) rest
owner_split true b rest = refl
owner_split false true rest = refl
owner_split false false rest = refl

owner_is : (line : List ℕ) → owner_at line ≡ (number_at line >>= λ n. owner_with (owner_of_digit n.0) n.1)
unfolding owner_at
owner_is line = same (number_at line)
  where
    same : (o : Option (ℕ × List ℕ)) → (o >>= λ n. cond (n.0 == 0) (Some (Even, n.1)) (cond (n.0 == 1) (Some (Odd, n.1)) None))
        ≡ (o >>= λ n. owner_with (owner_of_digit n.0) n.1)
    same None = refl
    same (Some n) = owner_split (n.0 == 0) (n.0 == 1) n.1

pub owner_none : (old new : Bytes) → IfKnown old new (Passes number_at None) → IfKnown old new (Passes owner_at None)
owner_none old new none = known_only {P = Passes number_at None} {Q = Passes owner_at None} old new none (λ text left e. owner_is (line_of text) ∙ rw e refl)

pub owner_passes : (n : ℕ) (o : Option Player) (old new : Bytes) → IfKnown old new (Passes number_at (Some n)) → o ≡ owner_of_digit n
    → IfKnown old new (Passes owner_at o)
owner_passes n None old new some is = known_only {P = Passes number_at (Some n)} {Q = Passes owner_at None} old new some
    (λ text left e. owner_is (line_of text) ∙ ap (λ o. o >>= λ n. owner_with (owner_of_digit n.0) n.1) e.0 ∙ ap (λ o. owner_with o (line_of left)) (sym is))
owner_passes n (Some p) old new some is = known_only {P = Passes number_at (Some n)} {Q = Passes owner_at (Some p)} old new some
    (λ text left e. (owner_is (line_of text) ∙ ap (λ o. o >>= λ n. owner_with (owner_of_digit n.0) n.1) e.0 ∙ ap (λ o. owner_with o (line_of left)) (sym is), e.1))

abbrev head_with : ℕ → ℕ → Player → Head
head_with i p o = record { id = i; priority = p; owner = o }

abbrev head_3 : ℕ → ℕ → Player → List ℕ → Option (Head × List ℕ)
head_3 i p o rest = Some (head_with i p o, rest)

abbrev head_2 : ℕ → ℕ → List ℕ → Option (Head × List ℕ)
head_2 i p line = owner_at line >>= λ o. head_3 i p o.0 o.1

abbrev head_1 : ℕ → List ℕ → Option (Head × List ℕ)
head_1 i line = number_gap line >>= λ p. head_2 i p.0 p.1

pub no_id : (old new : Bytes) → IfKnown old new (Passes number_gap None) → IfKnown old new (Passes head_at None)
unfolding head_at
no_id old new none = then_none number_gap head_1 old new none

pub no_priority : (i : ℕ) (old mid new : Bytes) → IfKnown old mid (Passes number_gap (Some i)) → IfKnown mid new (Passes number_gap None)
    → IfKnown old new (Passes head_at None)
unfolding head_at
no_priority i old mid new id none = then_goes_on number_gap head_1 i None old mid new id (then_none number_gap (head_2 i) mid new none)

pub no_owner : (i p : ℕ) (old a b new : Bytes) → IfKnown old a (Passes number_gap (Some i)) → IfKnown a b (Passes number_gap (Some p))
    → IfKnown b new (Passes owner_at None) → IfKnown old new (Passes head_at None)
unfolding head_at
no_owner i p old a b new id priority none = then_goes_on number_gap head_1 i None old a new id
    (then_goes_on number_gap (head_2 i) p None a b new priority (then_none owner_at (head_3 i p) b new none))

pub head_passes : (i p : ℕ) (o : Player) (old a b new : Bytes) → IfKnown old a (Passes number_gap (Some i)) → IfKnown a b (Passes number_gap (Some p))
    → IfKnown b new (Passes owner_at (Some o)) → IfKnown old new (Passes head_at (Some (record { id = i; priority = p; owner = o })))
unfolding head_at
head_passes i p o old a b new id priority owner = then_goes_on number_gap head_1 i (Some (head_with i p o)) old a new id
    (then_goes_on number_gap (head_2 i) p (Some (head_with i p o)) a b new priority
    (known_only {P = Passes owner_at (Some o)} {Q = Passes (head_2 i p) (Some (head_with i p o))} b new owner (λ text left e. (rw e.0 refl, e.1))))

-- ---- the numbers behind commas

-- what was added so far
pub record AddsSo (before now text left : List ℕ) : Type 0 where
  all : List ℕ
  added : HasAdded (line_of text) before all (line_of left)
  same : number_set now ≡ number_set all
  under : after_line text ≡ after_line left

pub adds_none : (old : Bytes) (list : List ℕ) → IfKnown old old (AddsSo list list)
adds_none None list = tt
adds_none (Some text) list = record { all = list; added = added_none (line_of text) list; same = refl; under = refl }

pub adds_more : (before now pushed new : List ℕ) (v : ℕ) (old a b c : Bytes) → IfKnown old a (AddsSo before now) → IfKnown a b (PassesComma true)
    → IfKnown b c (Passes number_at (Some v)) → pushed ≡ now ++ v ∷ [] → number_set new ≡ number_set pushed → IfKnown old c (AddsSo before new)
adds_more before now pushed new v old a b c so comma number push same =
    known_then {P = AddsSo before now} {Q = Then (PassesComma true) (Passes number_at (Some v))} {R = AddsSo before new} old a c so
    (known_both (PassesComma true) (Passes number_at (Some v)) a b c comma number)
    (λ text left rest s more. let (mid, comma, number) = more in record {
      all = s.all ++ v ∷ [];
      added = added_more (line_of text) before s.all (s.all ++ v ∷ []) (line_of left) (line_of mid) (line_of rest) v s.added comma.0 number.0 refl;
      same = same ∙ ap number_set push ∙ set_push now s.all v s.same;
      under = s.under ∙ comma.1 ∙ number.1;
    })

pub adds_wrong : (before now : List ℕ) (old a b c : Bytes) → IfKnown old a (AddsSo before now) → IfKnown a b (PassesComma true)
    → IfKnown b c (Passes number_at None) → IfKnown old c (PassesMore before now false)
adds_wrong before now old a b c so comma number =
    known_then {P = AddsSo before now} {Q = Then (PassesComma true) (Passes number_at None)} {R = PassesMore before now false} old a c so
    (known_both (PassesComma true) (Passes number_at None) a b c comma number)
    (λ text left rest s more. let (mid, comma, none) = more in added_wrong (line_of text) before s.all (line_of left) (line_of mid) s.added comma.0 none)

pub adds_all : (before now : List ℕ) (old a b : Bytes) → IfKnown old a (AddsSo before now) → IfKnown a b (PassesComma false)
    → IfKnown old b (PassesMore before now true)
adds_all before now old a b so comma =
    known_then {P = AddsSo before now} {Q = PassesComma false} {R = PassesMore before now true} old a b so comma
    (λ text left rest s c. record {
      all = s.all;
      rest = line_of left;
      numbers = added_all (line_of text) before s.all (line_of left) s.added c.0;
      same = s.same;
      after = tail_same (line_of left) (line_of rest) c.1.same;
      under = s.under ∙ c.1.under;
    })

-- ---- the successors

first_none : (line : List ℕ) → gap_at line ≡ None → first_at line ≡ None
unfolding first_at
first_none line none = rw none refl

first_is : (line rest : List ℕ) → gap_at line ≡ Some rest → first_at line ≡ number_at rest
unfolding first_at
first_is line rest gap = rw gap refl

rest_none : (line : List ℕ) → first_at line ≡ None → tail_at line ≡ None → rest_at line ≡ None
unfolding rest_at targets_at
rest_none line none tail = ap (λ o. targets_behind line o >>= λ targets. tail_at targets.1 >>= λ end. Some targets.0) none ∙ rw tail refl

rest_stops : (line : List ℕ) → targets_at line ≡ None → rest_at line ≡ None
unfolding rest_at
rest_stops line none = rw none refl

-- no blank, and so no successor
pub no_target : (list : List ℕ) (old new : Bytes) → IfKnown old new (PassesGap false) → IfKnown old new (PassesTargets list list true)
no_target list old new gap = known_only {P = PassesGap false} {Q = PassesTargets list list true} old new gap
    (λ text left g. record {
      all = list;
      rest = line_of text;
      numbers = none_found (line_of text) list (first_none (line_of text) g.0);
      same = refl;
      after = ap (λ t. tail_at (line_of t)) (sym g.1);
      under = ap after_line (sym g.1);
    })

-- no digit behind the blank, and so no successor
pub no_digit : (list : List ℕ) (old mid new : Bytes) → IfKnown old mid (PassesGap true) → IfKnown mid new (PassesDigit false)
    → IfKnown old new (PassesTargets list list true)
no_digit list old mid new gap digit = known_then {P = PassesGap true} {Q = PassesDigit false} {R = PassesTargets list list true} old mid new gap digit
    (λ text left rest g d. record {
      all = list;
      rest = line_of text;
      numbers = none_found (line_of text) list (first_is (line_of text) (line_of left) g.0 ∙ d.1);
      same = refl;
      after = tail_same (line_of text) (line_of rest) (gap_past (line_of text) (line_of left) g.0 ∙ d.0.same);
      under = g.1 ∙ d.0.under;
    })

-- no number behind the blank, where a digit stands, and so no line
pub no_first : (list list' : List ℕ) (old a b new : Bytes) → IfKnown old a (PassesGap true) → IfKnown a b (PassesDigit true)
    → IfKnown b new (Passes number_at None) → IfKnown old new (PassesTargets list list' false)
no_first list list' old a b new gap digit number =
    known_then {P = PassesGap true} {Q = Then (PassesDigit true) (Passes number_at None)} {R = PassesTargets list list' false} old a new gap
    (known_both (PassesDigit true) (Passes number_at None) a b new digit number)
    (λ text left rest g more. let (mid, d, none) = more in
    rest_none (line_of text) (first_is (line_of text) (line_of left) g.0 ∙ number_same (line_of left) (line_of mid) d.0.same ∙ none)
    (tail_same (line_of text) (line_of left) (gap_past (line_of text) (line_of left) g.0) ∙ d.1))

-- a first number, and those behind commas
pub some_targets : (before pushed now : List ℕ) (v : ℕ) (found : Bool) (old a b c new : Bytes) → IfKnown old a (PassesGap true)
    → IfKnown a b (PassesDigit true) → IfKnown b c (Passes number_at (Some v)) → pushed ≡ before ++ v ∷ [] → IfKnown c new (PassesMore pushed now found)
    → IfKnown old new (PassesTargets before now found)
some_targets before pushed now v found old a b c new gap digit number push more =
    known_then {P = PassesGap true} {Q = Then (PassesDigit true) (Then (Passes number_at (Some v)) (PassesMore pushed now found))}
    {R = PassesTargets before now found} old a new gap
    (known_both (PassesDigit true) (Then (Passes number_at (Some v)) (PassesMore pushed now found)) a b new digit
    (known_both (Passes number_at (Some v)) (PassesMore pushed now found) b c new number more))
    (λ text left rest g others. let (mid, d, behind) = others in let (last, n, m) = behind in
    read found text left mid last rest g d n m)
  where
    read : (found : Bool) (text left mid last rest : List ℕ) → PassesGap true text left → PassesDigit true left mid → Passes number_at (Some v) mid last
        → PassesMore pushed now found last rest → PassesTargets before now found text rest
    read found text left mid last rest g d n m =
        let first : first_at (line_of text) ≡ Some (v, line_of last) = first_is (line_of text) (line_of left) g.0
        ∙ number_same (line_of left) (line_of mid) d.0.same ∙ n.0 in
        elim found as (λ f. PassesMore pushed now f last rest → PassesTargets before now f text rest) [
          | true ↦ λ m. record {
            all = m.all;
            rest = m.rest;
            numbers = first_found (line_of text) v (line_of last) before pushed m.all (Some m.rest) first push m.numbers;
            same = m.same;
            after = m.after;
            under = g.1 ∙ d.0.under ∙ n.1 ∙ m.under;
          }
          | false ↦ λ m. rest_stops (line_of text) (first_found (line_of text) v (line_of last) before pushed [] None first push m)
        ] m

-- ---- the name

name_none : (line : List ℕ) → quoted_at line ≡ None → name_at line ≡ Some line
unfolding name_at
name_none line none = ap (name_behind line) none

unquoted : (line : List ℕ) → sign_at (34 ∷ []) line ≡ None → quoted_at line ≡ None
unfolding quoted_at
unquoted line none = rw none refl

-- no quote is next
pub no_name : (next : Option ℕ) (old mid : Bytes) → IfKnown old mid (SkipsTo next) → next ≢ Some 34 → IfKnown old mid (PassesName true)
no_name next None mid runs other = tt
no_name next (Some text) None runs other = absurd runs
no_name next (Some text) (Some left) runs other =
    let is = (behind text left runs.0).is in (
      line_of text,
      name_none (line_of text) (unquoted (line_of text) (sign_missing 34 next text left runs other)),
      sign_same (codes ";") (line_of text) (line_of left) is.same,
      is.under,
    )

is_quote : Option ℕ → Bool
is_quote None = false
is_quote (Some b) = b == 34

tail_open : (line : List ℕ) → quoted_at line ≡ None → sign_at (59 ∷ []) line ≡ None → tail_at line ≡ None
unfolding tail_at name_at
tail_open line quote end = rw (quote, end) refl

-- the quote is not shut
pub open_name : (next : Option ℕ) (most : ℕ) (kept : List ℕ) (old mid new : Bytes) → IfKnown old mid (SkipsTo next) → next ≡ Some 34
    → IfKnown mid new (PassesKept quoted_at most kept false) → IfKnown old new (PassesName false)
unfolding is_quote
open_name next most kept None mid new runs is shut = tt
open_name next most kept (Some text) None new runs is shut = absurd runs
open_name next most kept (Some text) (Some left) None runs is shut = absurd shut
open_name next most kept (Some text) (Some left) (Some rest) runs is shut =
    let same = (behind text left runs.0).is.same in
    tail_open (line_of text) (quoted_same (line_of text) (line_of left) same ∙ shut)
    (sign_missing 59 next text left runs (λ e. true≢false (ap is_quote (sym is ∙ e))))

name_short : (name : List ℕ) → is_vertex_name name ≡ true → length name ≤ LONGEST_NAME
name_short name right = leb-true (length name) LONGEST_NAME (and_parts (nat_le (length name) LONGEST_NAME) (list_all is_label_byte name) right).0

-- what is kept of a name tells whether it is one
name_kept : (name : List ℕ) → is_vertex_name (take (LONGEST_NAME + 1) name) ≡ is_vertex_name name
name_kept name =
    elim (cases_lt (length name) (LONGEST_NAME + 1)) [
      | inl few ↦ ap is_vertex_name (take_all (LONGEST_NAME + 1) name (omega (arith, few)))
      | inr many ↦ none (is_vertex_name (take (LONGEST_NAME + 1) name)) (is_vertex_name name) refl refl many
    ]
  where
    none : (a b : Bool) → is_vertex_name (take (LONGEST_NAME + 1) name) ≡ a → is_vertex_name name ≡ b → LONGEST_NAME + 1 ≤ length name
        → is_vertex_name (take (LONGEST_NAME + 1) name) ≡ is_vertex_name name
    none false false e f many = e ∙ sym f
    none true b e f many = absurd (omega (arith, name_short (take (LONGEST_NAME + 1) name) e, length-take-le (LONGEST_NAME + 1) name many))
    none a true e f many = absurd (omega (arith, name_short name f, many))

name_found : (line name rest : List ℕ) → quoted_at line ≡ Some (name, rest) → name_at line ≡ cond (is_vertex_name name) (Some rest) None
unfolding name_at
name_found line name rest found = ap (name_behind line) found

tail_stops : (line : List ℕ) → name_at line ≡ None → tail_at line ≡ None
unfolding tail_at
tail_stops line none = rw none refl

-- what quotes stand around is a name, or is none
pub quoted_name : (next : Option ℕ) (kept : List ℕ) (found : Bool) (old mid new : Bytes) → IfKnown old mid (SkipsTo next)
    → IfKnown mid new (PassesKept quoted_at (LONGEST_NAME + 1) kept true) → found ≡ is_vertex_name kept → IfKnown old new (PassesName found)
quoted_name next kept found old mid new runs quoted is =
    known_then {P = SkipsTo next} {Q = PassesKept quoted_at (LONGEST_NAME + 1) kept true} {R = PassesName found} old mid new runs quoted
    (λ text left rest r q. named text left rest r q found (is ∙ ap is_vertex_name q.3 ∙ name_kept q.0))
  where
    named : (text left rest : List ℕ) → SkipsTo next text left → (q : PassesKept quoted_at (LONGEST_NAME + 1) kept true left rest) → (found : Bool)
        → found ≡ is_vertex_name q.0 → PassesName found text rest
    named text left rest r q true e =
        let is = (behind text left r.0).is in
        let found = name_found (line_of text) q.0 (line_of rest) (quoted_same (line_of text) (line_of left) is.same ∙ q.1) in
        (line_of rest, found ∙ ap (λ b. cond b (Some (line_of rest)) None) (sym e), refl, is.under ∙ q.2)
    named text left rest r q false e =
        let is = (behind text left r.0).is in
        let found = name_found (line_of text) q.0 (line_of rest) (quoted_same (line_of text) (line_of left) is.same ∙ q.1) in
        tail_stops (line_of text) (found ∙ ap (λ b. cond b (Some (line_of rest)) None) (sym e))

-- ---- the end of the line

pub tail_no_name : (old new : Bytes) → IfKnown old new (PassesName false) → IfKnown old new (PassesTail false)
tail_no_name old new none = none

tail_behind : (line rest : List ℕ) → name_at line ≡ Some rest → tail_at line ≡ last rest
unfolding tail_at
tail_behind line rest found = rw found refl

pub tail_no_sign : (old mid new : Bytes) → IfKnown old mid (PassesName true) → IfKnown mid new (PassesSign (sign_at (59 ∷ [])) false)
    → IfKnown old new (PassesTail false)
tail_no_sign old mid new name none = known_then {P = PassesName true} {Q = PassesSign (sign_at (59 ∷ [])) false} {R = PassesTail false} old mid new name none
    (λ text left rest n s. tail_behind (line_of text) n.0 n.1 ∙ ap (λ o. o >>= end_at tt) (n.2 ∙ s))

last_ends : (line rest : List ℕ) → sign_at (59 ∷ []) line ≡ Some rest → last line ≡ cond (list_all is_blank rest) (Some tt) None
unfolding end_at
last_ends line rest found = rw found refl

pub tail_passes : (found : Bool) (old a b new : Bytes) → IfKnown old a (PassesName true) → IfKnown a b (PassesSign (sign_at (59 ∷ [])) true)
    → IfKnown b new (Ends found) → IfKnown old new (PassesTail found)
tail_passes found old a b new name sign ends =
    known_then {P = PassesName true} {Q = Then (PassesSign (sign_at (59 ∷ [])) true) (Ends found)} {R = PassesTail found} old a new name
    (known_both (PassesSign (sign_at (59 ∷ [])) true) (Ends found) a b new sign ends)
    (λ text left rest n more. let (mid, s, e) = more in
    shut text left mid rest n s found e)
  where
    shut : (text left mid rest : List ℕ) → PassesName true text left → PassesSign (sign_at (59 ∷ [])) true left mid → (found : Bool) → Ends found mid rest
        → PassesTail found text rest
    shut text left mid rest n s true e =
        (tail_behind (line_of text) n.0 n.1 ∙ last_ends n.0 (line_of mid) (n.2 ∙ s.0) ∙ rw e.0 refl, e.1 ∙ sym s.1 ∙ sym n.3)
    shut text left mid rest n s false e = tail_behind (line_of text) n.0 n.1 ∙ last_ends n.0 (line_of mid) (n.2 ∙ s.0) ∙ rw e refl

-- ---- the line

line_is : (line : List ℕ) → line_at line ≡ (head_at line >>= λ head. rest_at head.1 >>= λ targets. Some (at.line_said head.0 targets))
unfolding line_at rest_at
line_is line = same (head_at line)
  where
    ends : (head : Head) (targets : List ℕ) (o : Option (Unit {0})) → (o >>= λ end. Some (at.line_said head targets))
        ≡ ((o >>= λ end. Some targets) >>= λ ts. Some (at.line_said head ts))
    ends head targets None = refl
    ends head targets (Some u) = refl

    more : (head : Head) (o : Option (List ℕ × List ℕ)) → (o >>= λ targets. tail_at targets.1 >>= λ end. Some (at.line_said head targets.0))
        ≡ ((o >>= λ targets. tail_at targets.1 >>= λ end. Some targets.0) >>= λ ts. Some (at.line_said head ts))
    more head None = refl
    more head (Some targets) = ends head targets.0 (tail_at targets.1)

    same : (o : Option (Head × List ℕ)) → (o >>= λ head. targets_at head.1 >>= λ targets. tail_at targets.1 >>= λ end. Some (at.line_said head.0 targets.0))
        ≡ (o >>= λ head. rest_at head.1 >>= λ targets. Some (at.line_said head.0 targets))
    same None = refl
    same (Some head) = more head.0 (targets_at head.1)

line_with : (line : List ℕ) (head : Head) (rest : List ℕ) → head_at line ≡ Some (head, rest)
    → line_at line ≡ (rest_at rest >>= λ targets. Some (at.line_said head targets))
line_with line head rest found = line_is line ∙ rw found refl

pub no_head : (targets : List ℕ) (old new : Bytes) → IfKnown old new (Passes head_at None) → IfKnown old new (PassesVertex targets None)
no_head targets old new none = known_only {P = Passes head_at None} {Q = PassesVertex targets None} old new none (λ text left e. line_is (line_of text) ∙ rw e refl)

pub no_rest : (head : Head) (before targets now : List ℕ) (old mid new : Bytes) → IfKnown old mid (Passes head_at (Some head))
    → IfKnown mid new (PassesTargets before now false) → IfKnown old new (PassesVertex targets None)
no_rest head before targets now old mid new some none =
    known_then {P = Passes head_at (Some head)} {Q = PassesTargets before now false} {R = PassesVertex targets None} old mid new some none
    (λ text left rest h e. line_with (line_of text) head (line_of left) h.0 ∙ rw e refl)

rest_is : (line : List ℕ) (numbers rest : List ℕ) → targets_at line ≡ Some (numbers, rest) → rest_at line ≡ (tail_at rest >>= λ end. Some numbers)
unfolding rest_at
rest_is line numbers rest found = rw found refl

-- what was read into a list that had nothing
read_all : (new : List ℕ) (line text left : List ℕ) → (h : HasRead [] new (targets_at line) text left) → targets_at line ≡ Some (h.all, h.rest)
read_all new line text left h = h.numbers.2 ∙ ap (λ l. Some (l, h.rest)) (sym h.numbers.1)

pub vertex_passes : (head : Head) (targets : List ℕ) (found : Bool) (old a b new : Bytes) → IfKnown old a (Passes head_at (Some head))
    → IfKnown a b (PassesTargets [] targets true) → IfKnown b new (PassesTail found)
    → IfKnown old new (PassesVertex targets (cond found (Some head) None))
vertex_passes head targets found old a b new some read tail =
    known_then {P = Passes head_at (Some head)} {Q = Then (PassesTargets [] targets true) (PassesTail found)}
    {R = PassesVertex targets (cond found (Some head) None)} old a new some
    (known_both (PassesTargets [] targets true) (PassesTail found) a b new read tail)
    (λ text left rest h more. let (mid, t, e) = more in whole text left mid rest h t found e)
  where
    whole : (text left mid rest : List ℕ) → Passes head_at (Some head) text left → PassesTargets [] targets true left mid → (found : Bool)
        → PassesTail found mid rest → PassesVertex targets (cond found (Some head) None) text rest
    whole text left mid rest h t true e = (
      t.all,
      line_with (line_of text) head (line_of left) h.0
          ∙ rw (rest_is (line_of left) t.all t.rest (read_all targets (line_of left) left mid t), t.after, e.0) refl,
      t.same,
      e.1 ∙ sym t.under ∙ sym h.1,
    )
    whole text left mid rest h t false e =
        line_with (line_of text) head (line_of left) h.0
        ∙ rw (rest_is (line_of left) t.all t.rest (read_all targets (line_of left) left mid t), t.after, e) refl
