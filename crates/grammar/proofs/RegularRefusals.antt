-- Why the program's functions read no regular formula, by what they met.
use Rattle.std.proofs.Common.{◌≡◌, ℕ, ◌+◌, ◌-◌, ◌<◌, ◌≤◌, inl, inr, true, false, List, [], ◌∷◌, ◌++◌, length, drop, refl, sym, ap, ◌∙◌, subst, arith}
use Rattle.std.proofs.Common.{append_assoc, true≢false, take, append-nil}
use Rattle.std.specs.Prelude.{IsTrue, MatchResult, Result, Ok, Err, Some, suc}
use Rattle.std.proofs.lemmas.Bool.{cases_eq}
use Rattle.grammar.specs.Token.{Token, Name, AndSign, OrSign, ImpliesSign, Bar, NotSign, Open, Close, Dot, ChoiceSign, PlusSign, StarSign, TrueWord}
use Rattle.grammar.specs.Syntax.{Names', Parens', Not', reg_form, reg_fits, reg_tokens, reg_nesting, reg_parens, more_names, Anything'}
use Rattle.grammar.specs.Written.{bare_tokens, token_of, reg_syntax, infix_token, infix_row, repeated, repeat_token, infixed}
use Rattle.grammar.specs.Read.{reg_row, is_word, IsWordOf, IsRegular, IsRegularOf, MayGoOn, MatchBar, regular_tokens}
use Rattle.grammar.specs.Misread.{IsRegularMisread, RegularOf, ReadsRegular, LongerRegular, IsMissing, IsNameMissing, BeginsRegular, StandsRegular}
use Rattle.grammar.specs.declared.token.Token.{Token as Lexeme}
use Rattle.grammar.specs.declared.token.Token.TheVariants as lexeme
use Rattle.grammar.specs.declared.token.Placed.{Placed}
use Rattle.grammar.specs.declared.misread.Misread.{Misread}
use Rattle.grammar.specs.declared.misread.Misread.TheVariants as misread
use Rattle.grammar.specs.declared.written.Infix.{Infix}
use Rattle.grammar.specs.declared.written.Repeat.{Repeat}
use Rattle.grammar.specs.declared.written.WrittenRegular.{WrittenRegular}
use Rattle.grammar.specs.declared.regular.ReadRegular.{ReadRegular}
pub use Rattle.grammar.proofs.Regulars.{words-length}
use Rattle.grammar.proofs.Regulars.{words-next, bar_first, low-read, all_true, le_true, repeated-tokens, infixed-tokens, infixed-is, infixed-fits}
use Rattle.grammar.proofs.Misreads.{unexpected-here, too-large-here}
use Rattle.grammar.proofs.RegularUnique.{any_form}
use Rattle.grammar.proofs.RegularSpine.{sign_row, repeat_row, not_postfix, one_at, spine, postfix_spine}
use Rattle.grammar.proofs.RegularPlaces.{opens_regular, in_joined, row_taken, above_taken, first_taken, low-as}
use Rattle.grammar.proofs.RegularEnds.{no_token, no_start, not_too_deep, open_too_many, word_barred, close_barred, no_name, repeated-fits, repeated-is}
use Rattle.grammar.proofs.RegularEnds.{begins, begun, begun_left}

-- a token that stands in a row at all stands above the first one
pub row_not_one : (ts : List Token) → 0 < reg_row ts → 1 < reg_row ts
row_not_one [] h = omega arith
row_not_one (Bar ∷ ts) h = absurd (omega arith)
row_not_one (AndSign ∷ ts) h = omega arith
row_not_one (OrSign ∷ ts) h = omega arith
row_not_one (ImpliesSign ∷ ts) h = omega arith
row_not_one (StarSign ∷ ts) h = omega arith
row_not_one (PlusSign ∷ ts) h = omega arith
row_not_one (Dot ∷ ts) h = omega arith
row_not_one (ChoiceSign ∷ ts) h = omega arith
row_not_one (_ ∷ ts) h = omega arith

moved : (level d i : ℕ) (ts us : List Token) (e f : Misread) → ts ≡ us → e ≡ f → IsRegularMisread level d i us f → IsRegularMisread level d i ts e
moved level d i ts us e f p q h = subst (λ x. IsRegularMisread level d i x e) (sym p) (subst (λ x. IsRegularMisread level d i us x) (sym q) h)

first-words : (tokens : List Placed) (first : Placed) (rest : List Placed) (t : Token) → tokens ≡ first ∷ rest → token_of first.token ≡ t
    → bare_tokens tokens ≡ t ∷ bare_tokens rest
first-words tokens first rest t e h = ap bare_tokens e ∙ ap (λ u. u ∷ bare_tokens rest) h

left-length : (tokens : List Placed) (first : Placed) (rest : List Placed) → tokens ≡ first ∷ rest → length tokens ≡ suc (length (bare_tokens rest))
left-length tokens first rest e = ap length e ∙ ap suc (sym (words-length rest))

pub negation-empty : (d i : ℕ) (tokens : List Placed) (e : Misread) → length tokens ≡ 0 → e ≡ misread.Unexpected (length tokens)
    → IsRegularMisread 1 d i (bare_tokens tokens) e
negation-empty d i [] e h q = subst (λ x. IsRegularMisread 1 d i [] x) (sym q) (no_token d i)
negation-empty d i (p ∷ ps) e h q = absurd (omega arith)

pub negation-deep : (d i : ℕ) (tokens : List Placed) (first : Placed) (rest : List Placed) (e : Misread) → tokens ≡ first ∷ rest
    → token_of first.token ≡ NotSign → d ≤ 0 → e ≡ misread.TooLarge (length tokens)
    → IsRegularMisread 1 d i (bare_tokens tokens) e
negation-deep d i tokens first rest e split token full q =
    moved 1 d i (bare_tokens tokens) (NotSign ∷ bare_tokens rest) e (misread.TooLarge (suc (length (bare_tokens rest)))) (first-words tokens first rest NotSign split token)
    (q ∙ ap misread.TooLarge (left-length tokens first rest split))
    (not_too_deep d i (bare_tokens rest) full)

pub negation-many : (d i : ℕ) (tokens : List Placed) (first : Placed) (rest : List Placed) (e : Misread) → tokens ≡ first ∷ rest
    → token_of first.token ≡ Open → i ≡ 0 → e ≡ misread.TooLarge (length tokens)
    → IsRegularMisread 1 d i (bare_tokens tokens) e
negation-many d i tokens first rest e split token full q =
    moved 1 d i (bare_tokens tokens) (Open ∷ bare_tokens rest) e (misread.TooLarge (suc (length (bare_tokens rest)))) (first-words tokens first rest Open split token)
    (q ∙ ap misread.TooLarge (left-length tokens first rest split))
    (open_too_many d i (bare_tokens rest) full)

-- a token that is no atom, no name, no `!` and no parenthesis
not_opening : (t : Lexeme) → is_word (token_of t) ≡ false → ((name : _) → t ≡ lexeme.Name name → ⊥) → (t ≡ lexeme.NotSign → ⊥) → (t ≡ lexeme.Open → ⊥)
    → opens_regular (token_of t) ≡ false
not_opening (lexeme.Name name) w a b c = absurd (a name refl)
not_opening lexeme.NotSign w a b c = absurd (b refl)
not_opening lexeme.Open w a b c = absurd (c refl)
not_opening t w a b c = w

pub negation-none : (d i : ℕ) (tokens : List Placed) (first : Placed) (rest : List Placed) (e : Misread) → tokens ≡ first ∷ rest
    → is_word (token_of first.token) ≡ false → ((name : _) → first.token ≡ lexeme.Name name → ⊥)
    → (first.token ≡ lexeme.NotSign → ⊥) → (first.token ≡ lexeme.Open → ⊥) → e ≡ misread.Unexpected (length tokens) → IsRegularMisread 1 d i (bare_tokens tokens) e
negation-none d i tokens first rest e split word a b c q =
    moved 1 d i (bare_tokens tokens) (token_of first.token ∷ bare_tokens rest) e (misread.Unexpected (suc (length (bare_tokens rest)))) (ap bare_tokens split)
    (q ∙ ap misread.Unexpected (left-length tokens first rest split))
    (no_start d i (token_of first.token) (bare_tokens rest) (not_opening first.token word a b c))

-- what `unbarred` answers for an atom
abbrev pub Unbarred : ReadRegular → Result ReadRegular Misread → Type 0
Unbarred atom result = MatchResult result (λ r. (r ≡ atom) × (0 < reg_row (bare_tokens r.rest.now)))
    (λ e. (e ≡ misread.Unexpected (length atom.rest.now)) × (reg_row (bare_tokens atom.rest.now) ≡ 0))

pub word-unbarred : (d i : ℕ) (tokens : List Placed) (first : Placed) (rest : List Placed) (w : WrittenRegular) (atom : ReadRegular)
    (result : Result ReadRegular Misread) → tokens ≡ first ∷ rest
    → IsWordOf (token_of first.token) (Some w) → IsRegularOf w 0 rest atom → Unbarred atom result → RegularOf 1 d i (bare_tokens tokens) result
word-unbarred d i tokens first rest w atom (Ok r) split word b h =
    let above : 0 < reg_row (bare_tokens rest) = omega (
      arith,
      ap (λ ps. reg_row (bare_tokens ps)) b.after,
      ap (λ (x : ReadRegular). reg_row (bare_tokens x.rest.now)) h.0,
      h.1,
    ) in
    subst (ReadsRegular 1 d i (bare_tokens tokens)) (sym h.0) (low-read d i (bare_tokens tokens) w (reg_syntax w) 0 rest atom b refl word.4 (omega (arith, word.1))
    (sym word.2) (omega (arith, word.2)) (omega (arith, word.3))
    (row_not_one (bare_tokens rest) above) (ap (λ ts. ts ++ bare_tokens rest) word.0 ∙ sym (ap bare_tokens split)))
word-unbarred d i tokens first rest w atom (Err e) split word b h =
    moved 1 d i (bare_tokens tokens) (token_of first.token ∷ bare_tokens rest) e (misread.Unexpected (length (bare_tokens rest))) (ap bare_tokens split)
    (h.0 ∙ ap misread.Unexpected (ap (λ ps. length ps) b.after ∙ sym (words-length rest)))
    (word_barred d i (reg_syntax w) (token_of first.token) (bare_tokens rest) word.0 word.1 word.2 word.3 word.4 word.5
    (sym (ap (λ ps. reg_row (bare_tokens ps)) b.after) ∙ h.1))

-- what was read in parentheses, and the closing one after it
pub parens-unbarred : (d i : ℕ) (us : List Token) (inner : ReadRegular) (rest : List Placed) (w : WrittenRegular) (atom : ReadRegular)
    (result : Result ReadRegular Misread) → ReadsRegular 7 d i us inner
    → bare_tokens inner.rest.now ≡ Close ∷ bare_tokens rest → reg_syntax w ≡ Parens' (reg_syntax inner.syntax.value) → IsRegularOf w inner.height rest atom
    → Unbarred atom result → RegularOf 1 d (i + 1) (Open ∷ us) result
parens-unbarred d i us inner rest w atom (Ok r) s close is b h =
    let x = reg_syntax inner.syntax.value in
    let above : 0 < reg_row (bare_tokens rest) = omega (
      arith,
      ap (λ ps. reg_row (bare_tokens ps)) b.after,
      ap (λ (x : ReadRegular). reg_row (bare_tokens x.rest.now)) h.0,
      h.1,
    ) in
    subst (ReadsRegular 1 d (i + 1) (Open ∷ us)) (sym h.0) (low-read d (i + 1) (Open ∷ us) w (Parens' x) inner.height rest atom b is s.sound.grammatical
    (omega arith) s.sound.height (omega (arith, s.sound.height, s.sound.low))
    (omega (arith, s.sound.narrow)) (row_not_one (bare_tokens rest) above)
    (ap (λ ts. Open ∷ ts) (append_assoc (reg_tokens x) (Close ∷ []) (bare_tokens rest) ∙ (ap (λ ts. reg_tokens x ++ ts) (sym close) ∙ s.eaten))))
parens-unbarred d i us inner rest w atom (Err e) s close is b h =
    let x = reg_syntax inner.syntax.value in
    moved 1 d (i + 1) (Open ∷ us) (Open ∷ (reg_tokens x ++ Close ∷ bare_tokens rest)) e (misread.Unexpected (length (bare_tokens rest)))
    (ap (λ ts. Open ∷ ts) (sym s.eaten ∙ ap (λ ts. reg_tokens x ++ ts) close))
    (h.0 ∙ ap misread.Unexpected (ap (λ ps. length ps) b.after ∙ sym (words-length rest)))
    (close_barred d i x (bare_tokens rest) s.sound.grammatical (omega (arith, s.sound.height, s.sound.low)) s.sound.narrow
    (sym (ap (λ ps. reg_row (bare_tokens ps)) b.after) ∙ h.1))

pub parens-unclosed : (d i : ℕ) (us : List Token) (inner : ReadRegular) (e : Misread) → ReadsRegular 7 d i us inner
    → IsMissing Close (bare_tokens inner.rest.now) e → IsRegularMisread 1 d (i + 1) (Open ∷ us) e
parens-unclosed d i us inner e s missing =
    let r = reg_syntax inner.syntax.value in
    let ts = bare_tokens inner.rest.now in
    unexpected-here (BeginsRegular 1) (StandsRegular 1) d (i + 1) (Open ∷ reg_tokens r) ts (Open ∷ us) e (ap (λ us. Open ∷ us) s.eaten) missing.0
    (begun 1 d (i + 1) (Parens' r) (Open ∷ reg_tokens r) (Close ∷ []) s.sound.grammatical (omega arith) (omega (arith, s.sound.height, s.sound.low))
    (omega (arith, s.sound.narrow)) refl)
    (λ nested opened more stop x.
    let u = low-as x.syntax x.rest (reg_tokens r ++ (take 1 ts ++ more)) Open x.row x.spelled in
    let q = one_at 7 u.0 r (Close ∷ x.rest) (take 1 ts ++ more) (subst (λ y. IsTrue (reg_fits y)) u.1 x.grammatical) s.sound.grammatical (any_form u.0)
    (any_form r) (omega arith) (above_taken 7 ts more stop s.stops) u.2 in
    let f = first_taken ts more Close x.rest stop (sym q.1) in
    missing.1 f.0 f.1)

-- what was read under a `!`
pub not-read : (d i : ℕ) (us : List Token) (inner : ReadRegular) (w : WrittenRegular) (r : ReadRegular) → IsRegularOf w (inner.height + 1) inner.rest.now r
    → reg_syntax w ≡ Not' (reg_syntax inner.syntax.value)
    → ReadsRegular 1 d i us inner → ReadsRegular 1 (d + 1) i (NotSign ∷ us) r
not-read d i us inner w r b is s =
    low-read (d + 1) i (NotSign ∷ us) w (Not' (reg_syntax inner.syntax.value)) (inner.height + 1) inner.rest.now r b is
    (all_true _ _ (le_true _ _ s.sound.row) s.sound.grammatical) (omega arith) (omega (arith, s.sound.height))
    (omega (arith, s.sound.height, s.sound.low)) s.sound.narrow s.stops (ap (λ ts. NotSign ∷ ts) s.eaten)

pub names-unnamed : (d i : ℕ) (first : List ℕ) (tokens : List Placed) (n : ℕ) (names : List (List ℕ)) (e : Misread)
    → bare_tokens tokens ≡ more_names names ++ bare_tokens (drop n tokens) → MatchBar (bare_tokens (drop n tokens)) true
    → IsNameMissing (bare_tokens (drop (n + 1) tokens)) e → IsRegularMisread 1 d i (Name first ∷ bare_tokens tokens) e
names-unnamed d i first tokens n names e whole bar missing =
    let b = bar_first (bare_tokens (drop n tokens)) bar in
    let p = words-next tokens n Bar (drop 1 (bare_tokens (drop n tokens))) b in
    let ts = bare_tokens (drop (n + 1) tokens) in
    moved 1 d i (Name first ∷ bare_tokens tokens) (Name first ∷ (more_names names ++ Bar ∷ ts)) e (misread.Unexpected (length ts))
    (ap (λ us. Name first ∷ us) (whole ∙ ap (λ us. more_names names ++ us) (b ∙ ap (λ us. Bar ∷ us) (sym p.1)))) missing.0
    (no_name d i first names ts missing.1)

-- the last of the names, with which no bar goes on
no_bar : (ts : List Token) → MatchBar ts false → 0 < reg_row ts
no_bar [] h = h.1
no_bar (Bar ∷ ts) h = absurd (true≢false (sym h))
no_bar (t ∷ ts) h = h.1

pub names-read : (d i : ℕ) (first : List ℕ) (tokens rest : List Placed) (names : List (List ℕ)) (w : WrittenRegular) (r : ReadRegular)
    → IsRegularOf w 0 rest r → reg_syntax w ≡ Names' first names
    → bare_tokens tokens ≡ more_names names ++ bare_tokens rest → MatchBar (bare_tokens rest) false → ReadsRegular 1 d i (Name first ∷ bare_tokens tokens) r
names-read d i first tokens rest names w r b is whole bar =
    low-read d i (Name first ∷ bare_tokens tokens) w (Names' first names) 0 rest r b is refl (omega arith) refl (omega arith) (omega arith)
    (row_not_one (bare_tokens rest) (no_bar (bare_tokens rest) bar)) (ap (λ ts. Name first ∷ ts) (sym whole))

-- what was read is of each weaker row, and may go on
pub at-row : (level d i : ℕ) (ts : List Token) (r : ReadRegular) → 1 ≤ level → ReadsRegular 1 d i ts r → IsRegular level d i r × MayGoOn r
at-row level d i ts r above s = (
  record { grammatical = s.sound.grammatical; row = omega (arith, s.sound.row); height = s.sound.height; low = s.sound.low; narrow = s.sound.narrow },
  inl (omega (arith, s.sound.row, s.stops)),
)

-- where a formula may go on, some token comes next that goes on or none
pub some_row : (left : ReadRegular) → MayGoOn left → 0 < reg_row (bare_tokens left.rest.now)
some_row left on = elim on [
  | inl below ↦ omega (arith, below)
  | inr five ↦ omega (arith, five.1)
]

-- a formula that may go on with the sign after it is an operand of that sign
pub may_join : (left : ReadRegular) (us : List Token) (mark : Infix) → MayGoOn left → bare_tokens left.rest.now ≡ infix_token mark ∷ us
    → reg_form (reg_syntax left.syntax.value) < infix_row mark
may_join left us mark on front =
    let row : reg_row (bare_tokens left.rest.now) ≡ infix_row mark = ap reg_row front ∙ sign_row mark us in
    elim on [
      | inl below ↦ omega (arith, below, row)
      | inr five ↦ elim (not_postfix mark) [
        | inl less ↦ absurd (omega (arith, five.1, row, less))
        | inr more ↦ absurd (omega (arith, five.1, row, more))
      ]
    ]

may_repeat : (left : ReadRegular) (us : List Token) (mark : Repeat) → MayGoOn left → bare_tokens left.rest.now ≡ repeat_token mark ∷ us
    → reg_form (reg_syntax left.syntax.value) ≤ 5
may_repeat left us mark on front =
    let row : reg_row (bare_tokens left.rest.now) ≡ 5 = ap reg_row front ∙ repeat_row mark us in
    elim on [
      | inl below ↦ omega (arith, below, row)
      | inr five ↦ five.0
    ]

-- the number of tokens left at a sign
at-sign : (placed : List Placed) (t : Token) (us : List Token) → bare_tokens placed ≡ t ∷ us → length placed ≡ suc (length us)
at-sign placed t us front = sym (words-length placed) ∙ ap (λ ts. length ts) front

pub join-deep : (mark : Infix) (level d i : ℕ) (left : ReadRegular) (us : List Token) (e : Misread) → IsRegular level d i left → MayGoOn left
    → infix_row mark ≤ level → bare_tokens left.rest.now ≡ infix_token mark ∷ us
    → d ≤ left.height → e ≡ misread.TooLarge (length left.rest.now) → IsRegularMisread level d i (regular_tokens left) e
join-deep mark level d i left us e l on above front full q =
    let r = reg_syntax left.syntax.value in
    let below = may_join left us mark on front in
    too-large-here (BeginsRegular level) (StandsRegular level) d i _ _ (reg_tokens r) (infix_token mark) us (regular_tokens left) e
    (ap (λ us. reg_tokens r ++ us) (sym front)) (q ∙ ap misread.TooLarge (at-sign left.rest.now _ us front))
    (begun_left level d i r l.grammatical (omega (arith, below, above)) (omega (arith, l.height, l.low)) l.narrow)
    (begins level (infixed mark r Anything') (reg_tokens r ++ infix_token mark ∷ []) (TrueWord ∷ [])
    (infixed-fits mark r Anything' l.grammatical refl below (omega arith)) (omega (arith, (infixed-is mark r Anything').form, above))
    (infixed-tokens mark r Anything' ∙ sym (append_assoc (reg_tokens r) (infix_token mark ∷ []) (TrueWord ∷ []))))
    (λ more w.
    let p = spine mark r w.it.syntax w.it.rest more l.grammatical below w.it.grammatical (omega (arith, w.it.stops, above)) w.it.spelled in
    omega (arith, p.left_below, w.it.nests, w.low, full, l.height))

pub join-right : (mark : Infix) (level d i : ℕ) (left : ReadRegular) (us : List Token) (e : Misread) → IsRegular level d i left → MayGoOn left
    → infix_row mark ≤ level → bare_tokens left.rest.now ≡ infix_token mark ∷ us
    → left.height < d → IsRegularMisread (infix_row mark) (d - 1) i us e → IsRegularMisread level d i (regular_tokens left) e
join-right mark level d i left us e l on above front low h =
    let r = reg_syntax left.syntax.value in
    moved level d i (regular_tokens left) (reg_tokens r ++ infix_token mark ∷ us) e e (ap (λ us. reg_tokens r ++ us) front) refl
    (in_joined mark level d i r us e l.grammatical (may_join left us mark on front) above (omega (arith, l.height, low)) l.narrow h)

pub repeat-deep : (mark : Repeat) (level d i : ℕ) (left : ReadRegular) (us : List Token) (e : Misread) → IsRegular level d i left → MayGoOn left → 5 ≤ level
    → bare_tokens left.rest.now ≡ repeat_token mark ∷ us
    → d ≤ left.height → e ≡ misread.TooLarge (length left.rest.now) → IsRegularMisread level d i (regular_tokens left) e
repeat-deep mark level d i left us e l on above front full q =
    let r = reg_syntax left.syntax.value in
    let below = may_repeat left us mark on front in
    too-large-here (BeginsRegular level) (StandsRegular level) d i _ _ (reg_tokens r) (repeat_token mark) us (regular_tokens left) e
    (ap (λ us. reg_tokens r ++ us) (sym front)) (q ∙ ap misread.TooLarge (at-sign left.rest.now _ us front))
    (begun_left level d i r l.grammatical (omega (arith, below, above)) (omega (arith, l.height, l.low)) l.narrow)
    (begins level (repeated mark r) (reg_tokens r ++ repeat_token mark ∷ []) [] (repeated-fits mark r l.grammatical below)
    (omega (arith, (repeated-is mark r).form, above))
    (repeated-tokens mark r ∙ sym (append-nil (reg_tokens r ++ repeat_token mark ∷ []))))
    (λ more w.
    let p = postfix_spine mark r w.it.syntax w.it.rest more l.grammatical below w.it.grammatical (omega (arith, w.it.stops, above)) w.it.spelled in
    omega (arith, p.left_below, w.it.nests, w.low, full, l.height))

pub repeat-followed : (mark : Repeat) (level d i : ℕ) (left : ReadRegular) (rest : List Placed) (e : Misread) → IsRegular level d i left → MayGoOn left
    → 5 ≤ level → bare_tokens left.rest.now ≡ repeat_token mark ∷ bare_tokens rest
    → left.height < d → e ≡ misread.Unexpected (length rest) → reg_row (bare_tokens rest) < 5 → IsRegularMisread level d i (regular_tokens left) e
repeat-followed mark level d i left rest e l on above front low q next =
    let r = reg_syntax left.syntax.value in
    let ts = bare_tokens rest in
    let front' : List Token = reg_tokens r ++ repeat_token mark ∷ [] in
    let below = may_repeat left ts mark on front in
    let is = repeated-is mark r in
    unexpected-here (BeginsRegular level) (StandsRegular level) d i front' ts (regular_tokens left) e
    (append_assoc (reg_tokens r) (repeat_token mark ∷ []) ts ∙ ap (λ us. reg_tokens r ++ us) (sym front))
    (q ∙ ap misread.Unexpected (sym (words-length rest)))
    (begun level d i (repeated mark r) front' [] (repeated-fits mark r l.grammatical below) (omega (arith, is.form, above))
    (omega (arith, is.nesting, low, l.height)) (omega (arith, is.parens, l.narrow))
    (repeated-tokens mark r ∙ sym (append-nil front')))
    (λ nested opened more stop s.
    let p = postfix_spine mark r s.syntax s.rest (take 1 ts ++ more) l.grammatical below s.grammatical (omega (arith, s.stops, above))
    (s.spelled ∙ append_assoc (reg_tokens r) (repeat_token mark ∷ []) (take 1 ts ++ more)) in
    omega (arith, p.stops, row_taken ts more (omega arith), next))

-- a formula under a postfix sign, which may go on where no sign of action formulas comes next
pub repeated-read : (mark : Repeat) (level depth inside : ℕ) (rest : List Placed) (left : ReadRegular) (w : WrittenRegular) (r : ReadRegular)
    → IsRegular level depth inside left → MayGoOn left
    → bare_tokens left.rest.now ≡ repeat_token mark ∷ bare_tokens rest → 5 ≤ level → left.height < depth → 5 ≤ reg_row (bare_tokens rest)
    → IsRegularOf w (left.height + 1) rest r → reg_syntax w ≡ repeated mark (reg_syntax left.syntax.value) → LongerRegular level depth inside left r
repeated-read mark level depth inside rest left w r l on front above low stops b is =
    let f = reg_syntax left.syntax.value in
    let e : reg_syntax r.syntax.value ≡ repeated mark f = ap reg_syntax b.is ∙ is in
    let own : reg_form (reg_syntax r.syntax.value) ≡ 5 = ap reg_form e ∙ (repeated-is mark f).form in
    let row : reg_row (bare_tokens r.rest.now) ≡ reg_row (bare_tokens rest) = ap (λ ps. reg_row (bare_tokens ps)) b.after in
    let deep : reg_nesting (reg_syntax r.syntax.value) ≡ 1 + reg_nesting f = ap reg_nesting e ∙ (repeated-is mark f).nesting in
    record {
      eaten =
          ap (λ ts. ts ++ bare_tokens r.rest.now) (ap reg_tokens e ∙ repeated-tokens mark f) ∙ append_assoc (reg_tokens f) (repeat_token mark ∷ []) (bare_tokens r.rest.now)
          ∙ ap (λ ps. reg_tokens f ++ (repeat_token mark ∷ bare_tokens ps)) b.after ∙ ap (λ ts. reg_tokens f ++ ts) (sym front);
      sound = record {
        grammatical = subst (λ x. IsTrue (reg_fits x)) (sym e) (repeated-fits mark f l.grammatical (may_repeat left (bare_tokens rest) mark on front));
        row = omega arith;
        height = omega (arith, b.high, l.height);
        low = omega (arith, b.high);
        narrow = omega (arith, ap reg_parens e ∙ (repeated-is mark f).parens, l.narrow);
      };
      onward = elim (cases_eq (reg_row (bare_tokens rest)) 5) [
        | inl five ↦ inr (omega (arith, own), row ∙ five)
        | inr other ↦ inl (omega (arith, own, row, stops, other))
      ];
      shorter = omega (arith, ap (λ ps. length ps) b.after, words-length rest, at-sign left.rest.now _ (bare_tokens rest) front);
    }
