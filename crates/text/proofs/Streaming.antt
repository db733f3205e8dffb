-- What is read token by token says of the first line of the text.
use Rattle.std.proofs.Common.{◌≡◌, ◌≢◌, ℕ, zero, suc, ◌+◌, ◌-◌, ◌*◌, ◌<◌, ◌≤◌, Bool, true, false, cond, not, ◌&&◌, ◌==◌, nat_eq, nat_lt, nat_le, List, []}
use Rattle.std.proofs.Common.{◌∷◌, ◌++◌, length, take, drop, Option, Some, None, is_some, is_none, inl, inr, map, refl, sym, ap, ◌∙◌, subst, append_assoc}
use Rattle.std.proofs.Common.{append-nil, arith, true≢false, min, ◌||◌, eqb}
use Rattle.std.specs.Prelude.{slice_get, IfSome, MatchBool}
use Rattle.std.specs.Option.{option_eq}
use Rattle.std.specs.List.{list_all, prefix_len, fold}
use Rattle.std.specs.Io.{StartsWith}
use Rattle.std.specs.Io.KnownBytes.{Keeps}
use Rattle.std.specs.Io.BufRead.{DropsConsumable}
use Rattle.std.specs.Cmp.Lexicographic.{pointwise}
use Rattle.std.proofs.lemmas.Bool.{ne_eqb, and_parts, leb-true, cases_lt, le-ltb, not-false, eq-eqb, eqb-true}
use Rattle.std.proofs.lemmas.List.{take-append-drop, take-append-le, take_all, length-take-le, take_min}
use Rattle.std.proofs.lemmas.List.Folds.{list_all-append}
use Rattle.std.proofs.Math.Seq.{take-append_seam}
use Rattle.std.proofs.lemmas.List.Prefix.{front_rest}
use Rattle.std.proofs.lemmas.Slice.Eq.{bytes_eq-Decides}
use Rattle.text.specs.Text.{is_blank, is_digit, is_numeral, value_of, without_end, without_cr, with_first, pieces_of, lines}
use Rattle.text.specs.Lines.{IfKnown}
use Rattle.text.specs.Tokens.{capped, past_blanks, sign_at, number_at, cut_at, quoted_at, whole_number, number_before, end_at, is_other, ◌>>=◌}
use Rattle.text.specs.Stream.{first_piece, line_of, after_line, front_byte, is_of, is_inside, TakesAll, Shows, Runs, RunsOn, RunsTo, HasLine, Passes, PassesSign}
use Rattle.text.specs.Stream.{PassesKept, PassesLine, Ends}
use Rattle.text.specs.declared.stream.Class.{Class}
use Rattle.text.specs.declared.stream.Class.TheVariants.{Blank, Digit, Inner}
use Rattle.text.proofs.Spaced.{begins}
use Rattle.text.proofs.Scanning.{past_gap, run_is, run_passes, cut_finds, sign_here, none_other, whole_gives, prefix_all}

pub known_then : {P Q R : List ℕ → List ℕ → Type 0} (old mid new : Option (List ℕ)) → IfKnown old mid P → IfKnown mid new Q
    → ((text left rest : List ℕ) → P text left → Q left rest → R text rest) → IfKnown old new R
known_then None mid new p q both = tt
known_then (Some text) None new p q both = absurd p
known_then (Some text) (Some left) None p q both = absurd q
known_then (Some text) (Some left) (Some rest) p q both = both text left rest p q

abbrev pub Then : (List ℕ → List ℕ → Type 0) → (List ℕ → List ℕ → Type 0) → List ℕ → List ℕ → Type 0
Then P Q text rest = (left : List ℕ) × P text left × Q left rest

pub known_both : (P Q : List ℕ → List ℕ → Type 0) (old mid new : Option (List ℕ)) → IfKnown old mid P → IfKnown mid new Q → IfKnown old new (Then P Q)
known_both P Q old mid new p q = known_then old mid new p q (λ text left rest a b. (left, a, b))

pub known_only : {P Q : List ℕ → List ℕ → Type 0} (old new : Option (List ℕ)) → IfKnown old new P → ((text left : List ℕ) → P text left → Q text left)
    → IfKnown old new Q
known_only None new p so = tt
known_only (Some text) None p so = absurd p
known_only (Some text) (Some left) p so = so text left p

-- ---- one byte

first_is : (text block : List ℕ) → StartsWith text block → (length block ≡ 0 → text ≡ []) → front_byte text ≡ slice_get block 0
first_is text [] front end = ap front_byte (end refl)
first_is [] (b ∷ block) front end = cc
first_is (c ∷ text) (b ∷ block) front end = cc

pub shown : (old mid new : Option (List ℕ)) (block : List ℕ) (next : Option ℕ) → Keeps old mid → IfSome mid (λ xs. StartsWith xs block)
    → IfSome mid (λ xs. length block ≡ 0 → xs ≡ []) → Keeps mid new → next ≡ slice_get block 0 → Shows old new next
shown None mid new block next kept front end same is = tt
shown (Some text) None new block next kept front end same is = absurd kept
shown (Some text) (Some left) None block next kept front end same is = absurd same
shown (Some text) (Some left) (Some rest) block next kept front end same is = (same ∙ kept, ap front_byte (sym kept) ∙ first_is left block front end ∙ sym is)

pub room : (old mid : Option (List ℕ)) (limit : Option ℕ) (block : List ℕ) (next : Option ℕ) → Keeps old mid
    → IfSome mid (λ _. IfSome limit (λ n. length block ≤ n)) → next ≡ slice_get block 0 → IfSome next (λ _. IfSome old (λ _. IfSome limit (λ n. 1 ≤ n)))
room old mid limit block None kept fits is = tt
room None mid limit block (Some b) kept fits is = tt
room (Some text) None limit block (Some b) kept fits is = absurd kept
room (Some text) (Some left) None block (Some b) kept fits is = tt
room (Some text) (Some left) (Some n) [] (Some b) kept fits is = absurd cc
room (Some text) (Some left) (Some n) (c ∷ block) (Some b) kept fits is = omega (arith, fits)

abbrev pub One : ℕ → List ℕ → List ℕ → Type 0
One byte text left = text ≡ byte ∷ left

next_cons : (text : List ℕ) (b : ℕ) → front_byte text ≡ Some b → text ≡ b ∷ drop 1 text
next_cons [] b e = absurd cc
next_cons (c ∷ text) b e = let same : c ≡ b = cc in ap (λ x. x ∷ text) same

-- the byte that was shown is taken
pub taken : (old mid new : Option (List ℕ)) (limit : Option ℕ) (byte : ℕ) (next : Option ℕ) → Shows old mid next → next ≡ Some byte
    → IfSome next (λ _. IfSome old (λ _. IfSome limit (λ n. 1 ≤ n))) → DropsConsumable mid new limit 1 → IfKnown old new (One byte)
taken None mid new limit byte next shows is fits drops = tt
taken (Some text) None new limit byte next shows is fits drops = absurd shows
taken (Some text) (Some left) new limit byte next shows is fits drops =
    let new-is : new ≡ Some (drop 1 left) = drops (rw is at fits) in
    rw new-is (next_cons text byte (shows.1 ∙ is) ∙ ap (λ l. byte ∷ drop 1 l) (sym shows.0))

-- ---- a run of bytes

-- the run so far
pub record RunsSo (class : Class) (most : ℕ) (kept text left : List ℕ) : Type 0 where
  pub run : List ℕ
  pub cut : text ≡ run ++ left
  pub all : list_all (is_of class) run ≡ true
  pub front : kept ≡ take most run

pub no_run : (class : Class) (most : ℕ) (old : Option (List ℕ)) (kept : List ℕ) → kept ≡ [] → IfKnown old old (RunsSo class most kept)
no_run class most None kept none = tt
no_run class most (Some text) kept none = record { run = []; cut = refl; all = refl; front = none ∙ sym (take_all most [] (omega arith)) }

pub front_all : (p : ℕ → Bool) (run rest : List ℕ) → list_all p run ≡ true → list_all p (run ++ rest) ≡ list_all p rest
front_all p run rest all = list_all-append p run rest ∙ ap (λ b. b && list_all p rest) all

-- it goes on
pub run_more : (class : Class) (most : ℕ) (ended : Bool) (old mid new : Option (List ℕ)) (kept kept' : List ℕ) → IfKnown old mid (RunsSo class most kept)
    → IfKnown mid new (RunsOn class most kept kept' ended) → IfKnown old new (RunsSo class most kept')
run_more class most ended old mid new kept kept' so on =
    known_then {P = RunsSo class most kept} {Q = RunsOn class most kept kept' ended} {R = RunsSo class most kept'} old mid new so on
    (λ text between left a b. record {
      run = a.run ++ b.run;
      cut = a.cut ∙ ap (λ l. a.run ++ l) b.cut ∙ sym (append_assoc a.run b.run left);
      all = front_all (is_of class) a.run b.run a.all ∙ b.all;
      front = b.more a.run a.front;
    })

-- it ends
pub run_ends : (class : Class) (most : ℕ) (old mid new : Option (List ℕ)) (kept kept' : List ℕ) → IfKnown old mid (RunsSo class most kept)
    → IfKnown mid new (RunsOn class most kept kept' true) → IfKnown old new (Runs class most kept')
run_ends class most old mid new kept kept' so on =
    known_then {P = RunsSo class most kept} {Q = RunsOn class most kept kept' true} {R = Runs class most kept'} old mid new so on
    (λ text between left a b. record {
      run = a.run ++ b.run;
      cut = a.cut ∙ ap (λ l. a.run ++ l) b.cut ∙ sym (append_assoc a.run b.run left);
      all = front_all (is_of class) a.run b.run a.all ∙ b.all;
      stop = b.stop refl;
      front = b.more a.run a.front;
    })

-- one blank more
pub blank_more : (old mid new : Option (List ℕ)) (b : ℕ) → IfKnown old mid (RunsSo Blank 0 []) → IfKnown mid new (One b) → is_blank b ≡ true
    → IfKnown old new (RunsSo Blank 0 [])
blank_more old mid new b so one blank =
    known_then {P = RunsSo Blank 0 []} {Q = One b} {R = RunsSo Blank 0 []} old mid new so one
    (λ text between left a e. record {
      run = a.run ++ b ∷ [];
      cut = a.cut ∙ ap (λ l. a.run ++ l) e
          ∙ sym (append_assoc a.run (b ∷ []) left);
      all = front_all is_blank a.run (b ∷ []) a.all ∙ rw blank refl;
      front = refl;
    })

take_both : (most : ℕ) (front run : List ℕ) → take most (front ++ run) ≡ take most front ++ take (most - length (take most front)) run
take_both zero front run = refl
take_both (suc m) [] run = let none : suc m - 0 ≡ suc m = omega arith in rw none refl
take_both (suc m) (b ∷ front) run = let e : suc m - suc (length (take m front)) ≡ m - length (take m front) = omega arith
    in rw e (ap (λ l. b ∷ l) (take_both m front run))

pub keeps : (most : ℕ) (old new run front : List ℕ) → new ≡ old ++ take (min (most - length old) (length run)) run → old ≡ take most front
    → new ≡ take most (front ++ run)
keeps most old new run front grown is =
    grown ∙ ap (λ l. old ++ l) (take_min (most - length old) run) ∙ ap (λ l. l ++ take (most - length l) run) is ∙ sym (take_both most front run)

stop_at : (p : ℕ → Bool) (block rest : List ℕ) → prefix_len p block < length block
    → IfSome (front_byte (drop (prefix_len p block) (block ++ rest))) (λ b. p b ≡ false)
stop_at p [] rest h = absurd (omega arith)
stop_at p (b ∷ block) rest h =
    elim (p b) as (λ c. p b ≡ c → cond c (1 + prefix_len p block) 0 < length (b ∷ block)
    → IfSome (front_byte (drop (cond c (1 + prefix_len p block) 0) (b ∷ block ++ rest))) (λ b. p b ≡ false)) [
      | true ↦ λ e k. let one : 1 + prefix_len p block ≡ suc (prefix_len p block) = omega arith in rw one (stop_at p block rest (omega (arith, k)))
      | false ↦ λ e k. e
    ] refl h

-- the bytes of the class at the front of a block were taken
pub ran : (class : Class) (most count : ℕ) (before after block : List ℕ) (ended : Bool) (old mid new : Option (List ℕ)) (limit : Option ℕ)
    → IfSome old (λ xs. StartsWith xs block) → IfSome old (λ xs. length block ≡ 0 → xs ≡ []) → Keeps old mid
    → IfSome old (λ _. IfSome limit (λ n. length block ≤ n)) → DropsConsumable mid new limit count → count ≡ prefix_len (is_of class) block
    → count ≤ length block → ended ≡ (nat_lt count (length block) || nat_eq (length block) 0)
    → ((front : List ℕ) → before ≡ take most front → after ≡ take most (front ++ take count block)) → IfKnown old new (RunsOn class most before after ended)
ran class most count before after block ended None mid new limit front end kept fits drops is within test more = tt
ran class most count before after block ended (Some text) None new limit front end kept fits drops is within test more = absurd kept
ran class most count before after block ended (Some text) (Some left) new limit front end kept fits drops is within test more =
    let new-is : new ≡ Some (drop count left) = drops (fits_count limit fits) in
    let whole : text ≡ block ++ drop (length block) text = sym (take-append-drop (length block) text) ∙ ap (λ l. l ++ drop (length block) text) front in
    let part : take count text ≡ take count block = ap (take count) whole ∙ take-append-le count block (drop (length block) text) within in
    rw (new-is, kept) (record {
      run = take count block;
      cut = sym (take-append-drop count text) ∙ ap (λ l. l ++ drop count text) part;
      all = rw is (run_passes (is_of class) block);
      stop = λ done. elim (cases_lt count (length block)) [
        | inl few ↦ rw (whole, is) (stop_at (is_of class) block (drop (length block) text) (omega (arith, is, few)))
        | inr many ↦
            let low : nat_lt count (length block) ≡ false = le-ltb count (length block) many in
            let none : length block ≡ 0 = eqb-true (length block) 0 (ap (λ b. b || nat_eq (length block) 0) (sym low) ∙ sym test ∙ done) in
            rw (end none) (nothing count)
      ];
      more = more;
    })
  where
    fits_count : (limit : Option ℕ) → IfSome limit (λ n. length block ≤ n) → IfSome limit (λ n. count ≤ n)
    fits_count None fits = tt
    fits_count (Some n) fits = omega (arith, fits, within)

    nothing : (n : ℕ) → IfSome (front_byte (drop n [])) (λ b. is_of class b ≡ false)
    nothing zero = tt
    nothing (suc n) = tt

-- ---- the first line

pub line_cons : (b : ℕ) (text : List ℕ) → is_inside b ≡ true → (line_of (b ∷ text) ≡ b ∷ line_of text) × (after_line (b ∷ text) ≡ after_line text)
line_cons b text inside =
    elim (b == 10) as (λ c. (b == 10) ≡ c → (not c && not (b == 13)) ≡ true → (line_of (b ∷ text) ≡ b ∷ line_of text) × (after_line (b ∷ text) ≡ after_line text)) [
      | true ↦ λ e h. absurd cc
      | false ↦ λ e h. elim (b == 13) as (λ d. (b == 13) ≡ d → not d ≡ true → (line_of (b ∷ text) ≡ b ∷ line_of text) × (after_line (b ∷ text) ≡ after_line text)) [
        | true ↦ λ f k. absurd cc
        | false ↦ λ f k. (rw e (goes_on (first_piece text) f), rw e refl)
      ] refl h
    ] refl inside
  where
    goes_on : (piece : List ℕ) → (b == 13) ≡ false → without_end 13 (b ∷ piece) ≡ b ∷ without_end 13 piece
    goes_on [] f = rw f refl
    goes_on (c ∷ piece) f = refl

pub line_run : (run text : List ℕ) → list_all is_inside run ≡ true → (line_of (run ++ text) ≡ run ++ line_of text) × (after_line (run ++ text) ≡ after_line text)
line_run [] text all = (refl, refl)
line_run (b ∷ run) text all =
    let h = and_parts (is_inside b) (list_all is_inside run) all in
    let (line, under) = line_run run text h.1 in
    let (first, down) = line_cons b (run ++ text) h.0 in
    (first ∙ ap (λ l. b ∷ l) line, down ∙ under)

pub all_of : (p q : ℕ → Bool) → ((b : ℕ) → p b ≡ true → q b ≡ true) → (run : List ℕ) → list_all p run ≡ true → list_all q run ≡ true
all_of p q h [] all = refl
all_of p q h (b ∷ run) all = let a = and_parts (p b) (list_all p run) all in rw (h b a.0) (all_of p q h run a.1)

pub inside_of : (p : ℕ → Bool) → p 10 ≡ false → p 13 ≡ false → (b : ℕ) → p b ≡ true → is_inside b ≡ true
inside_of p ten thirteen b has =
    let a : (b == 10) ≡ false = ne_eqb b 10 (λ e. true≢false (sym has ∙ ap p e ∙ ten)) in
    let c : (b == 13) ≡ false = ne_eqb b 13 (λ e. true≢false (sym has ∙ ap p e ∙ thirteen)) in
    rw (a, c) refl

-- what does not begin with a byte of the class has no line that does
pub line_stops : (p : ℕ → Bool) (text : List ℕ) → IfSome (front_byte text) (λ b. p b ≡ false) → begins p (line_of text) ≡ false
line_stops p [] stop = refl
line_stops p (b ∷ text) stop =
    elim (b == 10) as (λ c. begins p (without_end 13 (cond c [] (b ∷ first_piece text))) ≡ false) [ true ↦ refl | false ↦ first (first_piece text) ]
  where
    first : (piece : List ℕ) → begins p (without_end 13 (b ∷ piece)) ≡ false
    first [] = elim (b == 13) as (λ c. begins p (cond c [] (b ∷ [])) ≡ false) [ true ↦ refl | false ↦ stop ]
    first (c ∷ piece) = stop

-- past the blanks
record PastBlanks (text left : List ℕ) : Type 0 where
  past : past_blanks (line_of text) ≡ line_of left
  under : after_line text ≡ after_line left

past_of : (text left : List ℕ) → Runs Blank 0 [] text left → PastBlanks text left
past_of text left runs =
    let (line, under) = line_run runs.run left (all_of is_blank is_inside (inside_of is_blank refl refl) runs.run runs.all) in
    record {
      past = ap (λ t. past_blanks (line_of t)) runs.cut ∙ ap past_blanks line
          ∙ past_gap runs.run (line_of left) runs.all (line_stops is_blank left runs.stop);
      under = ap after_line runs.cut ∙ under;
    }

-- ---- signs

piece_front : (text : List ℕ) → (rest : List ℕ) × (text ≡ first_piece text ++ rest)
piece_front [] = ([], refl)
piece_front (b ∷ text) =
    let (rest, cut) = piece_front text in
    elim (b == 10) as (λ c. (rest : List ℕ) × (b ∷ text ≡ cond c [] (b ∷ first_piece text) ++ rest))
    [ true ↦ (b ∷ text, refl) | false ↦ (rest, ap (λ l. b ∷ l) cut) ]

end_front : (end : ℕ) (piece : List ℕ) → (rest : List ℕ) × (piece ≡ without_end end piece ++ rest)
end_front end [] = ([], refl)
end_front end (b ∷ []) = elim (b == end) as (λ c. (rest : List ℕ) × (b ∷ [] ≡ cond c [] (b ∷ []) ++ rest)) [ true ↦ (b ∷ [], refl) | false ↦ ([], refl) ]
end_front end (b ∷ c ∷ piece) = let (rest, cut) = end_front end (c ∷ piece) in (rest, ap (λ l. b ∷ l) cut)

-- a line stands in front of its text
line_front : (text : List ℕ) → (rest : List ℕ) × (text ≡ line_of text ++ rest)
line_front text =
    let (r, cut) = piece_front text in
    let (s, shorter) = end_front 13 (first_piece text) in
    (s ++ r, cut ∙ ap (λ l. l ++ r) shorter ∙ append_assoc (line_of text) s r)

sign_none : (token line : List ℕ) → ((rest : List ℕ) → past_blanks line ≡ token ++ rest → ⊥) → sign_at token line ≡ None
unfolding sign_at
sign_none token line other =
    let start = past_blanks line in
    let test = pointwise nat_eq (take (length token) start) token in
    elim test as (λ b. test ≡ b → cond b (Some (drop (length token) start)) None ≡ None) [
      | true ↦ λ e. absurd (other (drop (length token) start)
          (sym (take-append-drop (length token) start) ∙ ap (λ l. l ++ drop (length token) start) ((bytes_eq-Decides (take (length token) start) token).0 e)))
      | false ↦ λ e. refl
    ] refl

pub sign_passes : (token text mid left : List ℕ) (found : Bool) → list_all is_inside token ≡ true → Runs Blank 0 [] text mid → TakesAll token found mid left
    → PassesSign (sign_at token) found text left
sign_passes token text mid left true inside runs all =
    let blanks = past_of text mid runs in
    let (line, under) = line_run token left inside in
    (sign_here token (line_of text) (line_of left) (blanks.past ∙ ap line_of all ∙ line), blanks.under ∙ ap after_line all ∙ under)
sign_passes token text mid left false inside runs other =
    let blanks = past_of text mid runs in
    let (after, cut) = line_front mid in
    sign_none token (line_of text) (λ rest e. other (rest ++ after) (cut ∙ ap (λ l. l ++ after) (sym blanks.past ∙ e) ∙ append_assoc token rest after))

-- whether the byte that is next is this one
pub next_is : (next : Option ℕ) (b : ℕ) (r : Bool) → r ≡ not (option_eq eqb next (Some b)) → r ≡ false → next ≡ Some b
next_is None b r test off = absurd (true≢false (sym test ∙ off))
next_is (Some a) b r test off = ap Some (eqb-true a b (not-false (eqb a b) (sym test ∙ off)))

pub next_is_not : (next : Option ℕ) (b : ℕ) (r : Bool) → r ≡ not (option_eq eqb next (Some b)) → r ≡ true → next ≢ Some b
next_is_not None b r test on e = cc
next_is_not (Some a) b r test on e = absurd (true≢false (sym on ∙ test ∙ ap not (eq-eqb a b (some_same a b e))))
  where
    some_same : (a b : ℕ) → front_byte (a ∷ []) ≡ Some b → a ≡ b
    some_same a b e = cc

-- the sign is there
pub sign_taken : (token : ℕ) (next : Option ℕ) (old mid new : Option (List ℕ)) (limit : Option ℕ) → is_inside token ≡ true
    → IfKnown old mid (RunsTo Blank next) → next ≡ Some token → IfSome next (λ _. IfSome old (λ _. IfSome limit (λ n. 1 ≤ n)))
    → DropsConsumable mid new limit 1 → IfKnown old new (PassesSign (sign_at (token ∷ [])) true)
sign_taken token next None mid new limit inside runs is fits drops = tt
sign_taken token next (Some text) None new limit inside runs is fits drops = absurd runs
sign_taken token next (Some text) (Some left) new limit inside (runs, at) is fits drops =
    let new-is : new ≡ Some (drop 1 left) = drops (rw is at fits) in
    rw new-is (sign_passes (token ∷ []) text left (drop 1 left) true (rw inside refl) runs (next_cons left token (at ∙ is)))

-- it isn't
pub sign_missing : (token : ℕ) (next : Option ℕ) (old mid : Option (List ℕ)) → IfKnown old mid (RunsTo Blank next) → next ≢ Some token
    → IfKnown old mid (PassesSign (sign_at (token ∷ [])) false)
sign_missing token next None mid runs other = tt
sign_missing token next (Some text) None runs other = absurd runs
sign_missing token next (Some text) (Some left) (runs, at) other =
    let (after, cut) = line_front left in
    let blanks = past_of text left runs in
    sign_none (token ∷ []) (line_of text) (λ rest e. other (sym at ∙ ap front_byte (cut ∙ ap (λ l. l ++ after) (sym blanks.past ∙ e))))

-- ---- numbers

abbrev pub digit_more : ℕ → ℕ → ℕ
digit_more n d = 10 * n + (d - 48)

pub grows : (digits : List ℕ) (n : ℕ) → n ≤ fold digit_more n digits
grows [] n = omega arith
grows (d ∷ digits) n = omega (arith, grows digits (digit_more n d))

abbrev pub times_ten : ℕ → ℕ → ℕ
times_ten m zero = m
times_ten m (suc n) = times_ten (10 * m) n

pub high : (n : ℕ) (digits : List ℕ) (m v : ℕ) → n ≤ length digits → m ≤ v → times_ten m n ≤ fold digit_more v digits
high zero digits m v long low = omega (arith, low, grows digits v)
high (suc n) [] m v long low = absurd (omega (arith, long))
high (suc n) (d ∷ digits) m v long low = high n digits (10 * m) (digit_more v d) (omega (arith, long)) (omega (arith, low))

-- a number of many digits is the greatest, whatever they are
many : (d : ℕ) (digits : List ℕ) → 49 ≤ d → 10 ≤ length digits → capped (value_of (d ∷ digits)) ≡ 4294967295
many d digits first long = let low : 10000000000 ≤ value_of (d ∷ digits) = high 10 digits 1 (digit_more 0 d) long (omega (arith, first)) in omega (arith, low)

pub all_front : (p : ℕ → Bool) (n : ℕ) (run : List ℕ) → list_all p run ≡ true → list_all p (take n run) ≡ true
all_front p n run all = (and_parts (list_all p (take n run)) (list_all p (drop n run))
    (sym (list_all-append p (take n run) (drop n run)) ∙ ap (list_all p) (take-append-drop n run) ∙ all)).0

-- whether digits are a numeral their first two tell
pub numeral_front : (n : ℕ) (run : List ℕ) → list_all is_digit run ≡ true → is_numeral (take (suc (suc n)) run) ≡ is_numeral run
numeral_front n [] all = refl
numeral_front n (d ∷ []) all = ap (λ l. is_numeral (d ∷ l)) (take_all (suc n) [] (omega arith))
numeral_front n (d ∷ e ∷ run) all =
    let some : list_all is_digit (d ∷ e ∷ take n run) ≡ true = all_front is_digit (suc (suc n)) (d ∷ e ∷ run) all in rw (some, all) refl

pub first_digit : (d : ℕ) (run : List ℕ) → 1 ≤ length run → is_numeral (d ∷ run) ≡ true → 49 ≤ d
first_digit d [] some h = absurd (omega arith)
first_digit d (e ∷ run) some h = leb-true 49 d (and_parts (nat_le 49 d) (list_all is_digit (d ∷ e ∷ run)) h).0

-- the number of digits is known from the first 11
number_front : (run : List ℕ) → list_all is_digit run ≡ true → whole_number (take 11 run) ≡ whole_number run
unfolding whole_number
number_front run all =
    elim (cases_lt 11 (length run)) [
      | inl more ↦ long run more all
      | inr few ↦ ap whole_number (take_all 11 run few)
    ]
  where
    long : (run : List ℕ) → 11 < length run → list_all is_digit run ≡ true → whole_number (take 11 run) ≡ whole_number run
    long [] more all = absurd (omega arith)
    long (d ∷ run) more all =
        let same : is_numeral (take 11 (d ∷ run)) ≡ is_numeral (d ∷ run) = numeral_front 9 (d ∷ run) all in
        let ten : length (take 10 run) ≡ 10 = length-take-le 10 run (omega arith) in
        elim (is_numeral (d ∷ run)) as (λ b. is_numeral (d ∷ run) ≡ b → is_numeral (take 11 (d ∷ run)) ≡ b
        → cond (is_numeral (take 11 (d ∷ run))) (Some (capped (value_of (take 11 (d ∷ run))))) None ≡ cond b (Some (capped (value_of (d ∷ run)))) None) [
          | true ↦ λ e f.
              let first : 49 ≤ d = first_digit d run (omega arith) e in
              rw (f, many d run first (omega arith), many d (take 10 run) first (omega (arith, ten))) refl
          | false ↦ λ e f. rw f refl
        ] refl same

number_is : (line run rest : List ℕ) → past_blanks line ≡ run ++ rest → list_all is_digit run ≡ true → begins is_digit rest ≡ false
    → number_at line ≡ cond (is_numeral run) (Some (capped (value_of run), rest)) None
unfolding number_at
number_is line run rest past all stop =
    let count : prefix_len is_digit (run ++ rest) ≡ length run = run_is is_digit run rest all stop in
    let front : take (length run) (run ++ rest) ≡ run = take-append_seam run rest in
    let back : drop (length run) (run ++ rest) ≡ rest = front_rest (run ++ rest) run rest refl in
    rw (past, count, front, back) refl

whole_none : (digits : List ℕ) → whole_number digits ≡ None → is_numeral digits ≡ false
unfolding whole_number
whole_none digits e = elim (is_numeral digits) as (λ b. cond b (Some (capped (value_of digits))) None ≡ None → b ≡ false)
    [ true ↦ λ e. absurd cc | false ↦ λ e. refl ] e

pub number_passes : (digits text mid left : List ℕ) (r : Option ℕ) → Runs Blank 0 [] text mid → Runs Digit 11 digits mid left → whole_number digits ≡ r
    → Passes number_at r text left
number_passes digits text mid left r blanks runs is =
    let past = past_of text mid blanks in
    let (line, under) = line_run runs.run left (all_of is_digit is_inside (inside_of is_digit refl refl) runs.run runs.all) in
    let found = number_is (line_of text) runs.run (line_of left) (past.past ∙ ap line_of runs.cut ∙ line) runs.all (line_stops is_digit left runs.stop) in
    let whole : whole_number runs.run ≡ r = sym (number_front runs.run runs.all) ∙ ap whole_number (sym runs.front) ∙ is in
    answer r runs.run whole found (past.under ∙ ap after_line runs.cut ∙ under)
  where
    answer : (r : Option ℕ) (run : List ℕ) → whole_number run ≡ r
        → number_at (line_of text) ≡ cond (is_numeral run) (Some (capped (value_of run), line_of left)) None → after_line text ≡ after_line left
        → Passes number_at r text left
    answer None run none found under = found ∙ ap (λ b. cond b (Some (capped (value_of run), line_of left)) None) (whole_none run none)
    answer (Some v) run some found under =
        let (numeral, value) = whole_gives run v some in
        (found ∙ ap (λ b. cond b (Some (capped (value_of run), line_of left)) None) numeral ∙ ap (λ n. Some (n, line_of left)) (sym value), under)

pub before_none : (token text left : List ℕ) → Passes number_at None text left → Passes (number_before token) None text left
unfolding number_before
before_none token text left none = rw none refl

pub before_no_sign : (token text mid left : List ℕ) (v : ℕ) → Passes number_at (Some v) text mid → PassesSign (sign_at token) false mid left
    → Passes (number_before token) None text left
unfolding number_before
before_no_sign token text mid left v some none = rw (some.0, none) refl

pub before_passes : (token text mid left : List ℕ) (v : ℕ) → Passes number_at (Some v) text mid → PassesSign (sign_at token) true mid left
    → Passes (number_before token) (Some v) text left
unfolding number_before
before_passes token text mid left v some signed = (rw (some.0, signed.0) refl, some.1 ∙ signed.1)

-- ---- quotes

piece_run : (run text : List ℕ) → list_all (is_other 10) run ≡ true → (first_piece (run ++ text) ≡ run ++ first_piece text) × (after_line (run ++ text) ≡ after_line text)
piece_run [] text all = (refl, refl)
piece_run (b ∷ run) text all =
    let h = and_parts (is_other 10 b) (list_all (is_other 10) run) all in
    let (piece, under) = piece_run run text h.1 in
    elim (b == 10) as (λ c. not c ≡ true → (cond c [] (b ∷ first_piece (run ++ text)) ≡ b ∷ run ++ first_piece text)
    × (cond c (run ++ text) (after_line (run ++ text)) ≡ after_line text)) [
      | true ↦ λ e. absurd cc
      | false ↦ λ e. (ap (λ l. b ∷ l) piece, under)
    ] h.0

-- the line before an LF
pub piece_here : (run rest : List ℕ) → list_all (is_other 10) run ≡ true → (first_piece (run ++ 10 ∷ rest) ≡ run) × (after_line (run ++ 10 ∷ rest) ≡ rest)
piece_here run rest all = let (piece, under) = piece_run run (10 ∷ rest) all in (piece ∙ append-nil run, under)

pub end_run : (end : ℕ) (run : List ℕ) (c : ℕ) (cs : List ℕ) → without_end end (run ++ c ∷ cs) ≡ run ++ without_end end (c ∷ cs)
end_run end [] c cs = refl
end_run end (b ∷ []) c cs = refl
end_run end (b ∷ d ∷ run) c cs = ap (λ l. b ∷ l) (end_run end (d ∷ run) c cs)

all_end : (p : ℕ → Bool) (end : ℕ) (run : List ℕ) → list_all p run ≡ true → list_all p (without_end end run) ≡ true
all_end p end [] all = refl
all_end p end (b ∷ []) all = elim (b == end) as (λ c. list_all p (cond c [] (b ∷ [])) ≡ true) [ true ↦ refl | false ↦ all ]
all_end p end (b ∷ c ∷ run) all = let h = and_parts (p b) (list_all p (c ∷ run)) all in rw h.0 (all_end p end (c ∷ run) h.1)

cut_none : (byte : ℕ) (line : List ℕ) → list_all (is_other byte) line ≡ true → cut_at byte line ≡ None
unfolding cut_at
cut_none byte line all = let e = prefix_all (is_other byte) line all
    in let no : nat_lt (length line) (length line) ≡ false = le-ltb (length line) (length line) (omega arith) in rw (e, no) refl

inner_parts : (run : List ℕ) → list_all (is_of Inner) run ≡ true → (list_all (is_other 34) run ≡ true) × (list_all (is_other 10) run ≡ true)
inner_parts run all = (
  all_of (is_of Inner) (is_other 34) (λ b h. (and_parts (not (b == 34)) (not (b == 10)) h).0) run all,
  all_of (is_of Inner) (is_other 10) (λ b h. (and_parts (not (b == 34)) (not (b == 10)) h).1) run all,
)

-- what stops what quotes may stand around, where it is no quote
stop_ten : (left : List ℕ) → IfSome (front_byte left) (λ b. is_of Inner b ≡ false) → front_byte left ≢ Some 34 → first_piece left ≡ []
stop_ten [] stop other = refl
stop_ten (b ∷ left) stop other =
    elim (b == 10) as (λ c. (b == 10) ≡ c → cond c [] (b ∷ first_piece left) ≡ []) [
      | true ↦ λ e. refl
      | false ↦ λ e. let no : (b == 34) ≡ false = ne_eqb b 34 (λ same. other (ap Some same)) in absurd (true≢false (sym (rw (e, no) refl) ∙ stop))
    ] refl

pub quote_none : (most : ℕ) (kept text left : List ℕ) → PassesSign (sign_at (34 ∷ [])) false text left → PassesKept quoted_at most kept false text left
unfolding quoted_at
quote_none most kept text left none = rw none refl

pub quote_passes : (most : ℕ) (kept text mid last left : List ℕ) (found : Bool) → PassesSign (sign_at (34 ∷ [])) true text mid
    → Runs Inner most kept mid last → MatchBool found (last ≡ 34 ∷ left) ((left ≡ last) × (front_byte last ≢ Some 34))
    → PassesKept quoted_at most kept found text left
unfolding quoted_at
quote_passes most kept text mid last left true signed runs shut =
    let (plain, one) = inner_parts runs.run runs.all in
    let cut : mid ≡ runs.run ++ 34 ∷ left = runs.cut ∙ ap (λ l. runs.run ++ l) shut in
    let (piece, under) = piece_run runs.run (34 ∷ left) one in
    let (next, down) = line_cons 34 left refl in
    let line : line_of mid ≡ runs.run ++ 34 ∷ line_of left = ap line_of cut ∙ ap (without_end 13) piece ∙ end_run 13 runs.run 34 (first_piece left)
    ∙ ap (λ l. runs.run ++ l) next in
    (runs.run, rw (signed.0, line) (cut_finds 34 runs.run (line_of left) (none_other 34 runs.run plain)), signed.1 ∙ ap after_line cut ∙ under ∙ down, runs.front)
quote_passes most kept text mid last left false signed runs (same, other) =
    let (plain, one) = inner_parts runs.run runs.all in
    let (piece, under) = piece_run runs.run last one in
    let whole : first_piece mid ≡ runs.run = ap first_piece runs.cut ∙ piece ∙ ap (λ l. runs.run ++ l) (stop_ten last runs.stop other) ∙ append-nil runs.run in
    rw signed.0 (cut_none 34 (line_of mid) (rw whole (all_end (is_other 34) 13 runs.run plain)))

-- ---- the end of the line, and of the text

pieces_cons : (b : ℕ) (text : List ℕ) → pieces_of (b ∷ text) ≡ first_piece (b ∷ text) ∷ pieces_of (after_line (b ∷ text))
pieces_cons b [] = elim (b == 10) as (λ c. cond c ([] ∷ []) ((b ∷ []) ∷ []) ≡ cond c [] (b ∷ []) ∷ pieces_of (cond c [] [])) [ true ↦ refl | false ↦ refl ]
pieces_cons b (d ∷ text) =
    elim (b == 10) as (λ c. cond c ([] ∷ pieces_of (d ∷ text)) (with_first b (pieces_of (d ∷ text)))
    ≡ cond c [] (b ∷ first_piece (d ∷ text)) ∷ pieces_of (cond c (d ∷ text) (after_line (d ∷ text)))) [
      | true ↦ refl
      | false ↦ ap (with_first b) (pieces_cons d text)
    ]

-- the lines of a text that has not ended
pub lines_cons : (b : ℕ) (text : List ℕ) → lines (b ∷ text) ≡ line_of (b ∷ text) ∷ lines (after_line (b ∷ text))
lines_cons b text = ap (map without_cr) (pieces_cons b text)

pub has : (old new : Option (List ℕ)) (next : Option ℕ) (more : Bool) → Shows old new next → more ≡ is_some next → HasLine old new more
has None new next more shows is = tt
has (Some text) None next more shows is = absurd shows
has (Some []) (Some left) next more shows is = let no : more ≡ false = is ∙ ap is_some (sym shows.1) in (shows.0, rw no refl)
has (Some (b ∷ text)) (Some left) next more shows is = let yes : more ≡ true = is ∙ ap is_some (sym shows.1) in (shows.0, rw yes (lines_cons b text))

-- what is left past the blanks tells whether all is blank
record LeftBlank (text left : List ℕ) : Type 0 where
  same : list_all is_blank (line_of text) ≡ list_all is_blank (line_of left)
  under : after_line text ≡ after_line left

left_blank : (text left : List ℕ) → Runs Blank 0 [] text left → LeftBlank text left
left_blank text left runs =
    let (line, under) = line_run runs.run left (all_of is_blank is_inside (inside_of is_blank refl refl) runs.run runs.all) in
    record {
      same = ap (λ t. list_all is_blank (line_of t)) runs.cut ∙ ap (list_all is_blank) line
          ∙ front_all is_blank runs.run (line_of left) runs.all;
      under = ap after_line runs.cut ∙ under;
    }

-- a CR was next, or was not
abbrev pub Maybe : Bool → List ℕ → List ℕ → Type 0
Maybe found text left = MatchBool found (text ≡ 13 ∷ left) ((left ≡ text) × (front_byte text ≢ Some 13))

pub ends_here : (text mid last left : List ℕ) (cr : Bool) → Runs Blank 0 [] text mid → Maybe cr mid last → last ≡ 10 ∷ left → Ends true text left
ends_here text mid last left true runs cr lf =
    let blank = left_blank text mid runs in
    let cut : mid ≡ 13 ∷ 10 ∷ left = cr ∙ ap (λ l. 13 ∷ l) lf in
    (blank.same ∙ ap (λ t. list_all is_blank (line_of t)) cut, sym (blank.under ∙ ap after_line cut))
ends_here text mid last left false runs (same, other) lf =
    let blank = left_blank text mid runs in
    let cut : mid ≡ 10 ∷ left = sym same ∙ lf in
    (blank.same ∙ ap (λ t. list_all is_blank (line_of t)) cut, sym (blank.under ∙ ap after_line cut))

no_next : (text : List ℕ) → front_byte text ≡ None → text ≡ []
no_next [] e = refl
no_next (b ∷ text) e = absurd cc

-- some byte is left that is no end
cr_first : (b : ℕ) (text : List ℕ) → (b == 10) ≡ false → list_all is_blank (line_of (13 ∷ b ∷ text)) ≡ false
cr_first b text e = rw e refl

pub none_is : (next : Option ℕ) (r : Bool) → is_some next ≡ not r → is_none next ≡ r
none_is None true e = refl
none_is None false e = cc
none_is (Some b) true e = cc
none_is (Some b) false e = refl

pub ends_or_not : (text mid last left : List ℕ) (cr : Bool) (next : Option ℕ) → Runs Blank 0 [] text mid → Maybe cr mid last → front_byte last ≢ Some 10
    → left ≡ last → front_byte last ≡ next → Ends (is_none next) text left
ends_or_not text mid last left true None runs cr other same end =
    let blank = left_blank text mid runs in
    let cut : mid ≡ 13 ∷ [] = cr ∙ ap (λ l. 13 ∷ l) (no_next last end) in
    (blank.same ∙ ap (λ t. list_all is_blank (line_of t)) cut, same ∙ no_next last end ∙ sym (blank.under ∙ ap after_line cut))
ends_or_not text mid last left false None runs (kept, first) other same end =
    let blank = left_blank text mid runs in
    let cut : mid ≡ [] = sym kept ∙ no_next last end in
    (blank.same ∙ ap (λ t. list_all is_blank (line_of t)) cut, same ∙ no_next last end ∙ sym (blank.under ∙ ap after_line cut))
ends_or_not text mid last left true (Some b) runs cr other same next =
    let blank = left_blank text mid runs in
    let cut : mid ≡ 13 ∷ b ∷ drop 1 last = cr ∙ ap (λ l. 13 ∷ l) (next_cons last b next) in
    blank.same ∙ ap (λ t. list_all is_blank (line_of t)) cut ∙ cr_first b (drop 1 last) (ne_eqb b 10 (λ e. other (next ∙ ap Some e)))
ends_or_not text mid last left false (Some b) runs (kept, first) other same next =
    let blank = left_blank text mid runs in
    let cut : mid ≡ b ∷ drop 1 last = sym kept ∙ next_cons last b next in
    let ten : (b == 10) ≡ false = ne_eqb b 10 (λ e. other (next ∙ ap Some e)) in
    let thirteen : (b == 13) ≡ false = ne_eqb b 13 (λ e. first (ap front_byte (sym kept) ∙ next ∙ ap Some e)) in
    let line = line_cons b (drop 1 last) (rw (ten, thirteen) refl) in
    let stop : is_blank b ≡ false = subst (λ t. IfSome (front_byte t) (λ c. is_blank c ≡ false)) cut runs.stop in
    blank.same ∙ ap (λ t. list_all is_blank (line_of t)) cut ∙ ap (list_all is_blank) line.0 ∙ rw stop refl

abbrev NoLf : List ℕ → List ℕ → Type 0
NoLf text left = (left ≡ text) × (front_byte text ≢ Some 10)

abbrev Shown : Option ℕ → List ℕ → List ℕ → Type 0
Shown next text left = (left ≡ text) × (front_byte text ≡ next)

pub ends_known : (old a b c d : Option (List ℕ)) (first : Option ℕ) (cr : Bool) (next : Option ℕ) → IfKnown old a (RunsTo Blank first)
    → IfKnown a b (Maybe cr) → IfKnown b c NoLf → IfKnown c d (Shown next) → IfKnown old d (Ends (is_none next))
ends_known old a b c d first cr next blanks maybe other shows =
    known_then {Q = Then (Maybe cr) (Then NoLf (Shown next))} old a d blanks
    (known_both (Maybe cr) (Then NoLf (Shown next)) a b d maybe (known_both NoLf (Shown next) b c d other shows))
    (λ text mid left to rest. let (runs, at) = to in let (last, is_cr, after) = rest in let (kept, no_lf, shown) = after
    in ends_or_not text mid last left cr next runs is_cr no_lf.1 (shown.0 ∙ no_lf.0) (ap front_byte (sym no_lf.0) ∙ shown.1))

-- ---- the tokens of a line, one after the other

pub sign_stops : {A : Type 0} (f : List ℕ → Option (List ℕ)) (g : List ℕ → Option A) (old new : Option (List ℕ)) → IfKnown old new (PassesSign f false)
    → IfKnown old new (PassesLine (λ l. f l >>= g) None)
sign_stops f g old new none = known_only {P = PassesSign f false} {Q = PassesLine (λ l. f l >>= g) None} old new none (λ text left e. rw e refl)

pub sign_goes_on : {A : Type 0} (f : List ℕ → Option (List ℕ)) (g : List ℕ → Option A) (r : Option A) (old mid new : Option (List ℕ))
    → IfKnown old mid (PassesSign f true) → IfKnown mid new (PassesLine g r) → IfKnown old new (PassesLine (λ l. f l >>= g) r)
sign_goes_on f g None old mid new some rest = known_then {P = PassesSign f true} {Q = PassesLine g None} {R = PassesLine
    (λ l. f l >>= g) None} old mid new some rest (λ text between left e h. rw e.0 h)
sign_goes_on f g (Some a) old mid new some rest =
    known_then {P = PassesSign f true} {Q = PassesLine g (Some a)} {R = PassesLine (λ l. f l >>= g) (Some a)} old mid new some rest
    (λ text between left e h. (rw e.0 h.0, h.1 ∙ sym e.1))

pub token_stops : {A X : Type 0} (f : List ℕ → Option (X × List ℕ)) (g : X → List ℕ → Option A) (old new : Option (List ℕ)) → IfKnown old new (Passes f None)
    → IfKnown old new (PassesLine (λ l. f l >>= λ x. g x.0 x.1) None)
token_stops f g old new none = known_only {P = Passes f None} {Q = PassesLine (λ l. f l >>= λ x. g x.0 x.1) None} old new none (λ text left e. rw e refl)

pub token_goes_on : {A X : Type 0} (f : List ℕ → Option (X × List ℕ)) (g : X → List ℕ → Option A) (x : X) (r : Option A) (old mid new : Option (List ℕ))
    → IfKnown old mid (Passes f (Some x)) → IfKnown mid new (PassesLine (g x) r)
    → IfKnown old new (PassesLine (λ l. f l >>= λ x. g x.0 x.1) r)
token_goes_on f g x None old mid new some rest = known_then {P = Passes f (Some x)} {Q = PassesLine (g x) None} {R = PassesLine
    (λ l. f l >>= λ x. g x.0 x.1) None} old mid new some rest (λ text between left e h. rw e.0 h)
token_goes_on f g x (Some a) old mid new some rest =
    known_then {P = Passes f (Some x)} {Q = PassesLine (g x) (Some a)} {R = PassesLine (λ l. f l >>= λ x. g x.0 x.1) (Some a)} old mid new some rest
    (λ text between left e h. (rw e.0 h.0, h.1 ∙ sym e.1))

pub end_stops : {A : Type 0} (a : A) (old new : Option (List ℕ)) → IfKnown old new (Ends false) → IfKnown old new (PassesLine (end_at a) None)
unfolding end_at
end_stops a old new none = known_only {P = Ends false} {Q = PassesLine (end_at a) None} old new none (λ text left e. rw e refl)

pub end_comes : {A : Type 0} (a : A) (old new : Option (List ℕ)) → IfKnown old new (Ends true) → IfKnown old new (PassesLine (end_at a) (Some a))
unfolding end_at
end_comes a old new some = known_only {P = Ends true} {Q = PassesLine (end_at a) (Some a)} old new some (λ text left e. (rw e.0 refl, e.1))
