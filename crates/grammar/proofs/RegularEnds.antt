-- Where the reading of a regular formula ends: a token that can't come next, or the end of the tokens.
use Rattle.std.proofs.Common.{◌≡◌, ℕ, ◌+◌, ◌<◌, ◌≤◌, false, List, [], ◌∷◌, ◌++◌, length, take, refl, sym, ap, ◌∙◌, subst, arith, append_assoc, append-nil}
use Rattle.std.proofs.Common.{drop, true≢false}
use Rattle.std.specs.Prelude.{IsTrue, suc}
use Rattle.grammar.specs.Token.{Token, Name, TrueWord, Bar, NotSign, Open, Close}
use Rattle.grammar.specs.Syntax.{RegSyntax, Anything', Nothing', Tau', Names', Quoted', Parens', Not', reg_form, reg_fits, reg_tokens, reg_nesting}
use Rattle.grammar.specs.Syntax.{reg_parens, more_names}
use Rattle.grammar.specs.Written.{repeated}
use Rattle.grammar.specs.Read.{reg_row, is_word}
use Rattle.grammar.specs.Misread.{BeginsRegular, StandsRegular, Within, IsRegularMisread}
use Rattle.grammar.specs.declared.misread.Misread.TheVariants as misread
use Rattle.grammar.specs.declared.written.Repeat.{Repeat}
use Rattle.grammar.specs.declared.written.Repeat.TheVariants as repeat
use Rattle.grammar.proofs.Regulars.{all_true, le_true, more_names-push}
use Rattle.grammar.proofs.RegularUnique.{any_form}
use Rattle.grammar.proofs.Misreads.{unexpected-here, too-large-here}
use Rattle.grammar.proofs.RegularSpine.{one_at}
use Rattle.grammar.proofs.RegularPlaces.{row_taken, first_taken, opens_regular, opening_token, word_alone, low-as, name_next}

-- a formula that begins with these tokens, and within the limits
pub begins : (level : ℕ) (s : RegSyntax) (front more : List Token) → IsTrue (reg_fits s) → reg_form s ≤ level → reg_tokens s ≡ front ++ more
    → BeginsRegular level (reg_nesting s) (reg_parens s) front
begins level s front more fit row e = record { syntax = s; more = more; grammatical = fit; row = row; nests = refl; opens = refl; spelled = e }

pub begun : (level depth inside : ℕ) (s : RegSyntax) (front more : List Token) → IsTrue (reg_fits s) → reg_form s ≤ level → reg_nesting s ≤ depth
    → reg_parens s ≤ inside → reg_tokens s ≡ front ++ more
    → Within (BeginsRegular level) depth inside front
begun level depth inside s front more fit row low narrow e = record {
  nested = reg_nesting s;
  opened = reg_parens s;
  it = begins level s front more fit row e;
  low = low;
  narrow = narrow;
}

begun_none : (level depth inside : ℕ) → Within (BeginsRegular level) depth inside []
begun_none level depth inside = begun level depth inside Anything' [] (TrueWord ∷ []) refl (omega arith) (omega arith) (omega arith) refl

pub begun_left : (level depth inside : ℕ) (left : RegSyntax) → IsTrue (reg_fits left) → reg_form left ≤ level → reg_nesting left ≤ depth
    → reg_parens left ≤ inside → Within (BeginsRegular level) depth inside (reg_tokens left)
begun_left level depth inside left fit row low narrow = begun level depth inside left (reg_tokens left) [] fit row low narrow
    (sym (append-nil (reg_tokens left)))

-- no formula has no tokens
some_token : (s : RegSyntax) (rest : List Token) → reg_form s ≤ 1 → reg_tokens s ++ rest ≡ [] → ⊥
some_token (Names' x xs) rest low e = cc
some_token (Parens' r) rest low e = cc
some_token (Not' r) rest low e = cc
some_token (Quoted' bytes) rest low e = cc
some_token Anything' rest low e = cc
some_token Nothing' rest low e = cc
some_token Tau' rest low e = cc
some_token _ rest low e = omega arith

pub no_token : (depth inside : ℕ) → IsRegularMisread 1 depth inside [] (misread.Unexpected 0)
no_token depth inside =
    unexpected-here (BeginsRegular 1) (StandsRegular 1) depth inside [] [] _ _ refl refl (begun_none 1 depth inside)
    (λ nested opened more stop s. some_token s.syntax s.rest s.row (s.spelled ∙ stop refl))

-- this token begins no atom and no negation
pub no_start : (depth inside : ℕ) (t : Token) (ts : List Token) → opens_regular t ≡ false
    → IsRegularMisread 1 depth inside (t ∷ ts) (misread.Unexpected (suc (length ts)))
no_start depth inside t ts other =
    unexpected-here (BeginsRegular 1) (StandsRegular 1) depth inside [] (t ∷ ts) _ _ refl refl (begun_none 1 depth inside)
    (λ nested opened more stop s. true≢false (sym (opening_token t s.syntax s.rest more (low-as s.syntax s.rest more t s.row s.spelled)) ∙ other))

-- a `!` where no operator may stand
pub not_too_deep : (depth inside : ℕ) (ts : List Token) → depth ≤ 0 → IsRegularMisread 1 depth inside (NotSign ∷ ts) (misread.TooLarge (suc (length ts)))
not_too_deep depth inside ts full =
    too-large-here (BeginsRegular 1) (StandsRegular 1) depth inside 1 0 [] NotSign ts _ _ refl refl (begun_none 1 depth inside)
    (begins 1 (Not' Anything') (NotSign ∷ []) (TrueWord ∷ []) refl (omega arith) refl)
    (λ more w. omega (arith, ap reg_nesting (low-as w.it.syntax w.it.rest more NotSign w.it.row w.it.spelled).1, w.it.nests, w.low, full))

-- a parenthesis where none may open
pub open_too_many : (depth inside : ℕ) (ts : List Token) → inside ≡ 0 → IsRegularMisread 1 depth inside (Open ∷ ts) (misread.TooLarge (suc (length ts)))
open_too_many depth inside ts full =
    too-large-here (BeginsRegular 1) (StandsRegular 1) depth inside 0 1 [] Open ts _ _ refl refl (begun_none 1 depth inside)
    (begins 1 (Parens' Anything') (Open ∷ []) (TrueWord ∷ Close ∷ []) refl (omega arith) refl)
    (λ more w. omega (arith, ap reg_parens (low-as w.it.syntax w.it.rest more Open w.it.row w.it.spelled).1, w.it.opens, w.narrow, full))

-- what a bar follows where none may
not_barred : (back more rest : List Token) → reg_row back ≡ 0 → 1 < reg_row rest → rest ≡ take 1 back ++ more → ⊥
not_barred back more rest bar stop e = let row : reg_row rest ≡ 0 = ap reg_row e ∙ (row_taken back more (omega arith) ∙ bar) in omega arith

-- a bar after an atom of one token that is no name
pub word_barred : (depth inside : ℕ) (r : RegSyntax) (t : Token) (ts : List Token) → reg_tokens r ≡ t ∷ [] → reg_form r ≡ 0 → reg_nesting r ≡ 0
    → reg_parens r ≡ 0 → IsTrue (reg_fits r) → IsTrue (is_word t)
    → reg_row ts ≡ 0 → IsRegularMisread 1 depth inside (t ∷ ts) (misread.Unexpected (length ts))
word_barred depth inside r t ts e form low narrow fit word bar =
    unexpected-here (BeginsRegular 1) (StandsRegular 1) depth inside (t ∷ []) ts _ _ refl refl
    (begun 1 depth inside r (t ∷ []) [] fit (omega arith) (omega arith) (omega arith) e)
    (λ nested opened more stop s. not_barred ts more s.rest bar s.stops
    (word_alone t s.syntax s.rest (take 1 ts ++ more) word (low-as s.syntax s.rest (take 1 ts ++ more) t s.row s.spelled)))

-- a bar after a closing parenthesis
pub close_barred : (depth inside : ℕ) (r : RegSyntax) (ts : List Token) → IsTrue (reg_fits r) → reg_nesting r ≤ depth → reg_parens r ≤ inside → reg_row ts ≡ 0
    → IsRegularMisread 1 depth (inside + 1) (Open ∷ (reg_tokens r ++ Close ∷ ts)) (misread.Unexpected (length ts))
close_barred depth inside r ts fit low narrow bar =
    unexpected-here (BeginsRegular 1) (StandsRegular 1) depth (inside + 1) (reg_tokens (Parens' r)) ts _ _
    (ap (λ us. Open ∷ us) (append_assoc (reg_tokens r) (Close ∷ []) ts)) refl
    (begun_left 1 depth (inside + 1) (Parens' r) fit (omega arith) low (omega (arith, narrow)))
    (λ nested opened more stop s.
    let u = low-as s.syntax s.rest (reg_tokens r ++ Close ∷ (take 1 ts ++ more)) Open s.row
    (s.spelled ∙ ap (λ us. Open ∷ us) (append_assoc (reg_tokens r) (Close ∷ []) (take 1 ts ++ more))) in
    let q = one_at 7 u.0 r (Close ∷ s.rest) (Close ∷ (take 1 ts ++ more)) (subst (λ x. IsTrue (reg_fits x)) u.1 s.grammatical) fit (any_form u.0)
    (any_form r) (omega arith) (omega arith) u.2 in
    not_barred ts more s.rest bar s.stops (ap (drop 1) q.1))

-- no name after a bar between names
pub no_name : (depth inside : ℕ) (first : List ℕ) (names : List (List ℕ)) (ts : List Token) → ((name : List ℕ) (more : List Token) → ts ≡ Name name ∷ more → ⊥)
    → IsRegularMisread 1 depth inside (Name first ∷ (more_names names ++ Bar ∷ ts)) (misread.Unexpected (length ts))
no_name depth inside first names ts missing =
    unexpected-here (BeginsRegular 1) (StandsRegular 1) depth inside (Name first ∷ (more_names names ++ Bar ∷ [])) ts _ _
    (ap (λ us. Name first ∷ us) (append_assoc (more_names names) (Bar ∷ []) ts)) refl
    (begun 1 depth inside (Names' first (names ++ first ∷ [])) (Name first ∷ (more_names names ++ Bar ∷ [])) (Name first ∷ []) refl (omega arith)
    (omega arith) (omega arith)
    (ap (λ us. Name first ∷ us) (sym (append-nil (more_names (names ++ first ∷ [])))
    ∙ (sym (more_names-push names first []) ∙ sym (append_assoc (more_names names) (Bar ∷ []) (Name first ∷ []))))))
    (λ nested opened more stop s.
    let p = low-as s.syntax s.rest ((more_names names ++ Bar ∷ []) ++ (take 1 ts ++ more)) (Name first) s.row s.spelled in
    let q = name_next names p.0 s.rest (take 1 ts ++ more) (omega (arith, s.stops)) (p.1 ∙ append_assoc (more_names names) (Bar ∷ []) (take 1 ts ++ more)) in
    let f = first_taken ts more (Name q.0) q.1 stop q.2 in
    missing q.0 f.0 f.1)

pub repeated-fits : (mark : Repeat) (r : RegSyntax) → IsTrue (reg_fits r) → reg_form r ≤ 5 → IsTrue (reg_fits (repeated mark r))
repeated-fits repeat.Star r fit low = all_true _ _ (le_true (reg_form r) 5 low) fit
repeated-fits repeat.Plus r fit low = all_true _ _ (le_true (reg_form r) 5 low) fit

pub record IsRepeated (mark : Repeat) (r : RegSyntax) : Type 0 where
  pub form : reg_form (repeated mark r) ≡ 5
  pub nesting : reg_nesting (repeated mark r) ≡ 1 + reg_nesting r
  pub parens : reg_parens (repeated mark r) ≡ reg_parens r

pub repeated-is : (mark : Repeat) (r : RegSyntax) → IsRepeated mark r
repeated-is repeat.Star r = record { form = refl; nesting = refl; parens = refl }
repeated-is repeat.Plus r = record { form = refl; nesting = refl; parens = refl }
