-- Where a state formula can't go on: which tokens it begins with, and that none stands there.
use Rattle.std.proofs.Common.{◌≡◌, ℕ, suc, ◌+◌, ◌<◌, ◌≤◌, List, [], ◌∷◌, ◌++◌, length, take, refl, sym, ap, ◌∙◌, subst, arith, append_assoc, append-nil}
use Rattle.std.specs.Prelude.{IsTrue, max, drop}
use Rattle.grammar.specs.Token.{Token, Name, TrueWord, NotSign, Open, Close, Dot}
use Rattle.grammar.specs.Syntax.{RegSyntax, Anything', reg_tokens, reg_fits, reg_nesting, reg_parens, Syntax, True', Neg', Group', Both', OneOf', If', form}
use Rattle.grammar.specs.Syntax.{fits, tokens, nesting, parens}
use Rattle.grammar.specs.Written.{joined, connective_token, connective_row, written_modal, opening_bracket, closing, bound, binder_token}
use Rattle.grammar.specs.Read.{reg_row, state_row}
use Rattle.grammar.specs.Misread.{BeginsState, StandsState, Within, IsStateMisread, IsMissing, IsNameMissing}
use Rattle.grammar.specs.declared.misread.Misread.{Misread}
use Rattle.grammar.specs.declared.misread.Misread.TheVariants as misread
use Rattle.grammar.specs.declared.written.Connective.{Connective}
use Rattle.grammar.specs.declared.written.Brackets.{Brackets}
use Rattle.grammar.specs.declared.written.Binder.{Binder}
use Rattle.grammar.proofs.RegularUnique.{any_form}
use Rattle.grammar.proofs.RegularSpine.{one_at}
use Rattle.grammar.proofs.RegularPlaces.{head_once, above_taken}
use Rattle.grammar.proofs.Unambiguous.{any_formula}
use Rattle.grammar.proofs.Misreads.{NoneStands, unexpected-here, too-large-here}
use Rattle.grammar.proofs.States.{bound-tokens, bound-is, joined-tokens, joined-is, joined-fits, modal-tokens, modal-is, modal-fits}
use Rattle.grammar.proofs.StateSpine.{row-level, Standing, one-state, LeftOperand, spine}
use Rattle.grammar.proofs.StatePlaces.{standing, UnaryAs, unary-as, modal-as, bound-as, modal-inside, closing-row}

-- what follows the last token that counts doesn't matter
pub same-row : (back more : List Token) → (back ≡ [] → more ≡ []) → state_row (take 1 back ++ more) ≡ state_row back
same-row [] more stop = ap state_row (stop refl)
same-row (t ∷ back) more stop = row-level t more ∙ sym (row-level t back)

cons_nil : (t : Token) (ts : List Token) → t ∷ ts ≡ [] → ⊥
cons_nil t ts e = absurd (omega (arith, ap length e))

-- a token that doesn't come next doesn't come next
pub still-missing : (t : Token) (back more rest : List Token) → (back ≡ [] → more ≡ []) → ((after : List Token) → back ≡ t ∷ after → ⊥)
    → t ∷ rest ≡ take 1 back ++ more → ⊥
still-missing t [] more rest stop none e = cons_nil t rest (e ∙ stop refl)
still-missing t (u ∷ back) more rest stop none e = none back (ap (λ v. v ∷ back) (sym (head_once t u rest more e)))

-- a formula that begins with these tokens, and within the limits
begins : (level : ℕ) (s : Syntax) (front more : List Token) → IsTrue (fits s) → form s ≤ level → tokens s ≡ front ++ more
    → BeginsState level (nesting s) (parens s) front
begins level s front more fit row e = record { syntax = s; more = more; grammatical = fit; row = row; nests = refl; opens = refl; spelled = e }

pub begun-by : (level depth inside : ℕ) (s : Syntax) (front more : List Token) → IsTrue (fits s) → form s ≤ level → nesting s ≤ depth → parens s ≤ inside
    → tokens s ≡ front ++ more
    → Within (BeginsState level) depth inside front
begun-by level depth inside s front more fit row low narrow e = record {
  nested = nesting s;
  opened = parens s;
  it = begins level s front more fit row e;
  low = low;
  narrow = narrow;
}

begun-none : (level depth inside : ℕ) → Within (BeginsState level) depth inside []
begun-none level depth inside = begun-by level depth inside True' [] (TrueWord ∷ []) refl (omega arith) (omega arith) (omega arith) refl

no_tokens : (s : Syntax) (rest : List Token) → form s ≤ 0 → tokens s ++ rest ≡ [] → ⊥
no_tokens (Both' f g) rest low e = absurd (omega (arith, low))
no_tokens (OneOf' f g) rest low e = absurd (omega (arith, low))
no_tokens (If' f g) rest low e = absurd (omega (arith, low))
no_tokens s rest low e = cons_nil _ _ e

-- no token is left
pub nothing-left : (depth inside : ℕ) (ts : List Token) (e : Misread) → ts ≡ [] → e ≡ misread.Unexpected (length ts) → IsStateMisread 0 depth inside ts e
nothing-left depth inside ts e none is =
    unexpected-here (BeginsState 0) (StandsState 0) depth inside [] ts ts e refl is (begun-none 0 depth inside)
    (λ nested opened more stop x. no_tokens x.syntax x.rest x.row (x.spelled ∙ (ap (λ us. take 1 us ++ more) none ∙ stop none)))

-- no formula begins with this token
pub no-word : (token : Token) (back : List Token) (depth inside : ℕ) (e : Misread) → ((s : Syntax) (rest more : List Token) → UnaryAs token s rest more → ⊥)
    → e ≡ misread.Unexpected (length (token ∷ back)) → IsStateMisread 0 depth inside (token ∷ back) e
no-word token back depth inside e none is =
    unexpected-here (BeginsState 0) (StandsState 0) depth inside [] (token ∷ back) (token ∷ back) e refl is (begun-none 0 depth inside)
    (λ nested opened more stop x. none x.syntax x.rest more (unary-as x.syntax x.rest more token x.row x.spelled))

group_none : (f : Syntax) (back : List Token) → Standing f back → 3 < state_row back → ((after : List Token) → back ≡ Close ∷ after → ⊥)
    → NoneStands (StandsState 0) (Open ∷ tokens f) back
group_none f back st far missing nested opened more stop x =
    let u = unary-as x.syntax x.rest (tokens f ++ (take 1 back ++ more)) Open x.row x.spelled in
    let row : state_row (take 1 back ++ more) ≡ state_row back = same-row back more stop in
    let own = any_formula u.0 in
    let his = any_formula f in
    let inner : Standing u.0 (Close ∷ x.rest) = record {
      grammatical = subst (λ s. IsTrue (fits s)) u.1 x.grammatical;
      ended = omega arith;
      reaches = λ b. omega arith;
    } in
    let outer : Standing f (take 1 back ++ more) = record { grammatical = st.grammatical; ended = omega arith; reaches = λ b. omega arith } in
    let p = one-state 3 u.0 f (Close ∷ x.rest) (take 1 back ++ more) inner outer (any_formula u.0) (any_formula f) (omega arith) (omega arith) u.2 in
    still-missing Close back more x.rest stop missing p.1

-- a parenthesis that isn't closed
pub group-unclosed : (depth inside : ℕ) (f : Syntax) (back ts : List Token) (e : Misread) → Standing f back → 3 < state_row back → nesting f ≤ depth
    → parens f ≤ inside → tokens f ++ back ≡ ts
    → IsMissing Close back e → IsStateMisread 0 depth (inside + 1) (Open ∷ ts) e
group-unclosed depth inside f back ts e st far low narrow split missing =
    unexpected-here (BeginsState 0) (StandsState 0) depth (inside + 1) (Open ∷ tokens f) back (Open ∷ ts) e (ap (λ us. Open ∷ us) split) missing.0
    (begun-by 0 depth (inside + 1) (Group' f) (Open ∷ tokens f) (Close ∷ []) st.grammatical (omega arith) low (omega arith) refl)
    (group_none f back st far missing.1)

modal_none : (mark : Brackets) (r : RegSyntax) (back : List Token) → IsTrue (reg_fits r) → 7 < reg_row back
    → ((after : List Token) → back ≡ closing mark ∷ after → ⊥)
    → NoneStands (StandsState 0) (opening_bracket mark ∷ reg_tokens r) back
modal_none mark r back fit far missing nested opened more stop x =
    let u = modal-as mark x.syntax x.rest (reg_tokens r ++ (take 1 back ++ more)) x.row x.spelled in
    let beyond : 7 < reg_row (take 1 back ++ more) = above_taken 7 back more stop far in
    let after : reg_row (closing mark ∷ (tokens u.1 ++ x.rest)) ≡ 8 = closing-row mark (tokens u.1 ++ x.rest) in
    let o = modal-inside mark u.0 u.1 (subst (λ s. IsTrue (fits s)) u.2 x.grammatical) in
    let p = one_at 7 u.0 r (closing mark ∷ (tokens u.1 ++ x.rest)) (take 1 back ++ more) o.1 fit (any_form u.0) (any_form r) (omega arith) beyond u.3 in
    still-missing (closing mark) back more (tokens u.1 ++ x.rest) stop missing p.1

-- a modality whose bracket isn't closed
pub modal-unclosed : (mark : Brackets) (depth inside : ℕ) (r : RegSyntax) (back ts : List Token) (e : Misread) → IsTrue (reg_fits r) → 7 < reg_row back
    → reg_nesting r ≤ depth → reg_parens r ≤ inside
    → reg_tokens r ++ back ≡ ts → IsMissing (closing mark) back e → IsStateMisread 0 (depth + 1) inside (opening_bracket mark ∷ ts) e
modal-unclosed mark depth inside r back ts e fit far low narrow split missing =
    let s : Syntax = written_modal mark r True' in
    let own : form s ≡ 0 = (modal-is mark r True').form in
    let deep : nesting s ≡ 1 + max (reg_nesting r) 0 = (modal-is mark r True').nesting in
    let wide : parens s ≡ max (reg_parens r) 0 = (modal-is mark r True').parens in
    unexpected-here (BeginsState 0) (StandsState 0) (depth + 1) inside (opening_bracket mark ∷ reg_tokens r) back (opening_bracket mark ∷ ts) e
    (ap (λ us. opening_bracket mark ∷ us) split) missing.0
    (begun-by 0 (depth + 1) inside s (opening_bracket mark ∷ reg_tokens r) (closing mark ∷ TrueWord ∷ []) (modal-fits mark r True' fit (omega arith) refl)
    (omega arith) (omega arith) (omega arith) (modal-tokens mark r True'))
    (modal_none mark r back fit far missing.1)

-- a binder without a name
pub binder-unnamed : (word : Binder) (depth inside : ℕ) (ts : List Token) (e : Misread) → IsNameMissing ts e
    → IsStateMisread 0 (depth + 1) inside (binder_token word ∷ ts) e
binder-unnamed word depth inside ts e missing =
    let s : Syntax = bound word [] True' in
    let own : form s ≡ 0 = (bound-is word [] True').form in
    let deep : nesting s ≡ 1 + 0 = (bound-is word [] True').nesting in
    let wide : parens s ≡ 0 = (bound-is word [] True').parens in
    unexpected-here (BeginsState 0) (StandsState 0) (depth + 1) inside (binder_token word ∷ []) ts (binder_token word ∷ ts) e refl missing.0
    (begun-by 0 (depth + 1) inside s (binder_token word ∷ []) (Name [] ∷ Dot ∷ TrueWord ∷ []) ((bound-is word [] True').fits) (omega arith) (omega arith)
    (omega arith) (bound-tokens word [] True'))
    (λ nested opened more stop x.
    let u = bound-as word x.syntax x.rest (take 1 ts ++ more) x.row x.spelled in
    still-missing (Name u.0) ts more (Dot ∷ (tokens u.1 ++ x.rest)) stop (missing.1 u.0) u.3)

-- a binder's name without a dot
pub binder-undotted : (word : Binder) (x : List ℕ) (depth inside : ℕ) (back ts : List Token) (e : Misread) → ts ≡ Name x ∷ back → IsMissing Dot back e
    → IsStateMisread 0 (depth + 1) inside (binder_token word ∷ ts) e
binder-undotted word y depth inside back ts e split missing =
    let s : Syntax = bound word y True' in
    let own : form s ≡ 0 = (bound-is word y True').form in
    let deep : nesting s ≡ 1 + 0 = (bound-is word y True').nesting in
    let wide : parens s ≡ 0 = (bound-is word y True').parens in
    unexpected-here (BeginsState 0) (StandsState 0) (depth + 1) inside (binder_token word ∷ Name y ∷ []) back (binder_token word ∷ ts) e
    (ap (λ us. binder_token word ∷ us) (sym split)) missing.0
    (begun-by 0 (depth + 1) inside s (binder_token word ∷ Name y ∷ []) (Dot ∷ TrueWord ∷ []) ((bound-is word y True').fits) (omega arith) (omega arith)
    (omega arith) (bound-tokens word y True'))
    (λ nested opened more stop x.
    let u = bound-as word x.syntax x.rest (Name y ∷ (take 1 back ++ more)) x.row x.spelled in
    still-missing Dot back more (tokens u.1 ++ x.rest) stop missing.1 (ap (drop 1) u.3))

-- an operator or a parenthesis at the front that goes beyond the limits
too-large-first : (depth inside : ℕ) (token : Token) (back : List Token) (e : Misread) (s : Syntax) (after : List Token)
    → e ≡ misread.TooLarge (suc (length back)) → IsTrue (fits s) → form s ≤ 0 → tokens s ≡ token ∷ after
    → ((x : Syntax) (rest more : List Token) → form x ≤ 0 → tokens x ++ rest ≡ token ∷ more → nesting x ≤ depth → parens x ≤ inside → ⊥)
    → IsStateMisread 0 depth inside (token ∷ back) e
too-large-first depth inside token back e s after is fit row spelled none =
    too-large-here (BeginsState 0) (StandsState 0) depth inside _ _ [] token back (token ∷ back) e refl is (begun-none 0 depth inside)
    (begins 0 s (token ∷ []) after fit row spelled)
    (λ more w.
    let x = w.it in
    let low : nesting x.syntax ≤ depth = omega (arith, x.nests, w.low) in
    let narrow : parens x.syntax ≤ inside = omega (arith, x.opens, w.narrow) in
    none x.syntax x.rest more x.row x.spelled low narrow)

pub not-too-deep : (depth inside : ℕ) (back : List Token) (e : Misread) → depth ≤ 0 → e ≡ misread.TooLarge (suc (length back))
    → IsStateMisread 0 depth inside (NotSign ∷ back) e
not-too-deep depth inside back e none is =
    too-large-first depth inside NotSign back e (Neg' True') (TrueWord ∷ []) is refl (omega arith) refl
    (λ x rest more row spelled low narrow. absurd (omega (arith, none, low, ap nesting (unary-as x rest more NotSign row spelled).1)))

pub modal-too-deep : (mark : Brackets) (depth inside : ℕ) (back : List Token) (e : Misread) → depth ≤ 0 → e ≡ misread.TooLarge (suc (length back))
    → IsStateMisread 0 depth inside (opening_bracket mark ∷ back) e
modal-too-deep mark depth inside back e none is =
    let own : form (written_modal mark Anything' True') ≡ 0 = (modal-is mark Anything' True').form in
    too-large-first depth inside (opening_bracket mark) back e (written_modal mark Anything' True') (TrueWord ∷ closing mark ∷ TrueWord ∷ []) is
    (modal-fits mark Anything' True' refl (omega arith) refl) (omega arith) (modal-tokens mark Anything' True')
    (λ x rest more row spelled low narrow.
    let u = modal-as mark x rest more row spelled in
    let deep : nesting x ≡ 1 + max (reg_nesting u.0) (nesting u.1) = ap nesting u.2 ∙ (modal-is mark u.0 u.1).nesting in
    absurd (omega arith))

pub binder-too-deep : (word : Binder) (depth inside : ℕ) (back : List Token) (e : Misread) → depth ≤ 0 → e ≡ misread.TooLarge (suc (length back))
    → IsStateMisread 0 depth inside (binder_token word ∷ back) e
binder-too-deep word depth inside back e none is =
    let own : form (bound word [] True') ≡ 0 = (bound-is word [] True').form in
    too-large-first depth inside (binder_token word) back e (bound word [] True') (Name [] ∷ Dot ∷ TrueWord ∷ []) is ((bound-is word [] True').fits)
    (omega arith) (bound-tokens word [] True')
    (λ x rest more row spelled low narrow.
    let u = bound-as word x rest more row spelled in
    let deep : nesting x ≡ 1 + nesting u.1 = ap nesting u.2 ∙ (bound-is word u.0 u.1).nesting in
    absurd (omega arith))

pub group-too-wide : (depth inside : ℕ) (back : List Token) (e : Misread) → inside ≤ 0 → e ≡ misread.TooLarge (suc (length back))
    → IsStateMisread 0 depth inside (Open ∷ back) e
group-too-wide depth inside back e none is =
    too-large-first depth inside Open back e (Group' True') (TrueWord ∷ Close ∷ []) is refl (omega arith) refl
    (λ x rest more row spelled low narrow. absurd (omega (arith, none, narrow, ap parens (unary-as x rest more Open row spelled).1)))

-- a sign after a left operand that nests as deep as it may
pub sign-too-large : (mark : Connective) (left : Syntax) (level depth inside : ℕ) (back ts : List Token) (e : Misread) → LeftOperand mark left
    → form left ≤ level → connective_row mark ≤ level
    → depth ≤ nesting left → nesting left ≤ depth → parens left ≤ inside → tokens left ++ connective_token mark ∷ back ≡ ts
    → e ≡ misread.TooLarge (suc (length back)) → IsStateMisread level depth inside ts e
sign-too-large mark left level depth inside back ts e w row lower full low narrow split is =
    let s : Syntax = joined mark left True' in
    let own : form s ≡ connective_row mark = (joined-is mark left True').form in
    too-large-here (BeginsState level) (StandsState level) depth inside _ _ (tokens left) (connective_token mark) back ts e split is
    (begun-by level depth inside left (tokens left) [] w.grammatical row low narrow (sym (append-nil (tokens left))))
    (begins level s (tokens left ++ connective_token mark ∷ []) (TrueWord ∷ [])
    (joined-fits mark left True' w.grammatical refl w.below (omega arith) (rw w.open_end refl)) (omega arith)
    (joined-tokens mark left True' ∙ sym (append_assoc (tokens left) (connective_token mark ∷ []) (TrueWord ∷ []))))
    (λ more x. let h = spine mark left more x.it.syntax w x.it.rest (standing level x.nested x.opened _ x.it) (omega (arith, x.it.stops)) x.it.spelled
    in absurd (omega (arith, h.beside, x.it.nests, x.low)))
