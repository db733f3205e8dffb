-- Where a state formula's parts stand in it: what begins a part begins the whole, and what stands as the whole has the part.
use Rattle.std.proofs.Common.{◌≡◌, ℕ, ◌+◌, ◌-◌, ◌<◌, ◌≤◌, true, List, [], ◌∷◌, ◌++◌, refl, sym, ap, ◌∙◌, subst, arith, append_assoc}
use Rattle.std.specs.Prelude.{IsTrue, nat_le, drop}
use Rattle.std.proofs.lemmas.Bool.{leb-true, and_parts}
use Rattle.grammar.specs.Token.{Token, Name, TrueWord, FalseWord, MuWord, NuWord, NotSign, Less, Greater, OpenBox, CloseBox, Open, Close, Dot}
use Rattle.grammar.specs.Syntax.{RegSyntax, reg_tokens, reg_fits, reg_nesting, reg_parens, Syntax, True', False', Var', Group', Neg', Both', OneOf', If'}
use Rattle.grammar.specs.Syntax.{Dia', Box', Mu', Nu', form, ends_in_binder, fits, tokens, nesting, parens}
use Rattle.grammar.specs.Written.{joined, connective_token, connective_row, written_modal, opening_bracket, closing, bound, binder_token}
use Rattle.grammar.specs.Read.{reg_row, state_row}
use Rattle.grammar.specs.Misread.{BeginsRegular, StandsRegular, BeginsState, StandsState}
use Rattle.grammar.specs.declared.written.Connective.{Connective}
use Rattle.grammar.specs.declared.written.Brackets.{Brackets}
use Rattle.grammar.specs.declared.written.Brackets.TheVariants as brackets
use Rattle.grammar.specs.declared.written.Binder.{Binder}
use Rattle.grammar.specs.declared.written.Binder.TheVariants as binder
use Rattle.grammar.proofs.RegularUnique.{any_form}
use Rattle.grammar.proofs.RegularSpine.{one_at}
use Rattle.grammar.proofs.RegularPlaces.{head_once, stands-part as regular-part}
use Rattle.grammar.proofs.Unambiguous.{any_formula, modal_parts}
use Rattle.grammar.proofs.States.{joined-tokens, joined-is, joined-fits, modal-tokens, modal-is, modal-fits, bound-tokens, bound-is}
use Rattle.grammar.proofs.Misreads.{IsPlace}
use Rattle.grammar.proofs.Regulars.{all_true, le_true}
use Rattle.grammar.proofs.StateSpine.{Standing, LeftOperand, spine, first-unary}

pub standing : (level nested opened : ℕ) (ts : List Token) (x : StandsState level nested opened ts) → Standing x.syntax x.rest
standing level nested opened ts x = let row = x.row in let stops = x.stops in record { grammatical = x.grammatical; ended = omega arith; reaches = x.reaches }

-- what a unary formula with these tokens after it is, by its first token
abbrev pub UnaryAs : Token → Syntax → (rest more : List Token) → Type 0
UnaryAs NotSign s rest more = (f : Syntax) × (s ≡ Neg' f) × (tokens f ++ rest ≡ more)
UnaryAs Open s rest more = (f : Syntax) × (s ≡ Group' f) × (tokens f ++ Close ∷ rest ≡ more)
UnaryAs Less s rest more = (r : RegSyntax) × (f : Syntax) × (s ≡ Dia' r f) × (reg_tokens r ++ Greater ∷ (tokens f ++ rest) ≡ more)
UnaryAs OpenBox s rest more = (r : RegSyntax) × (f : Syntax) × (s ≡ Box' r f) × (reg_tokens r ++ CloseBox ∷ (tokens f ++ rest) ≡ more)
UnaryAs MuWord s rest more = (x : List ℕ) × (f : Syntax) × (s ≡ Mu' x f) × (Name x ∷ Dot ∷ (tokens f ++ rest) ≡ more)
UnaryAs NuWord s rest more = (x : List ℕ) × (f : Syntax) × (s ≡ Nu' x f) × (Name x ∷ Dot ∷ (tokens f ++ rest) ≡ more)
UnaryAs TrueWord s rest more = Unit {0}
UnaryAs FalseWord s rest more = Unit {0}
UnaryAs (Name x) s rest more = Unit {0}
UnaryAs _ s rest more = ⊥

as_first : (t u : Token) (s : Syntax) (rest ts more : List Token) → t ∷ ts ≡ u ∷ more → UnaryAs t s rest more → UnaryAs u s rest more
as_first t u s rest ts more e h = subst (λ v. UnaryAs v s rest more) (head_once t u ts more e) h

pub unary-as : (s : Syntax) (rest more : List Token) (t : Token) → form s ≤ 0 → tokens s ++ rest ≡ t ∷ more → UnaryAs t s rest more
unary-as True' rest more t low e = as_first TrueWord t True' rest rest more e tt
unary-as False' rest more t low e = as_first FalseWord t False' rest rest more e tt
unary-as (Var' x) rest more t low e = as_first (Name x) t (Var' x) rest rest more e tt
unary-as (Group' f) rest more t low e = as_first Open t (Group' f) rest _ more e (f, refl, sym (append_assoc (tokens f) (Close ∷ []) rest) ∙ ap (drop 1) e)
unary-as (Neg' f) rest more t low e = as_first NotSign t (Neg' f) rest _ more e (f, refl, ap (drop 1) e)
unary-as (Dia' r f) rest more t low e = as_first Less t (Dia' r f) rest _ more e
    (r, f, refl, sym (append_assoc (reg_tokens r) (Greater ∷ tokens f) rest) ∙ ap (drop 1) e)
unary-as (Box' r f) rest more t low e = as_first OpenBox t (Box' r f) rest _ more e
    (r, f, refl, sym (append_assoc (reg_tokens r) (CloseBox ∷ tokens f) rest) ∙ ap (drop 1) e)
unary-as (Mu' x f) rest more t low e = as_first MuWord t (Mu' x f) rest _ more e (x, f, refl, ap (drop 1) e)
unary-as (Nu' x f) rest more t low e = as_first NuWord t (Nu' x f) rest _ more e (x, f, refl, ap (drop 1) e)
unary-as (Both' f g) rest more t low e = absurd (omega (arith, low))
unary-as (OneOf' f g) rest more t low e = absurd (omega (arith, low))
unary-as (If' f g) rest more t low e = absurd (omega (arith, low))

-- a modality, by its bracket
pub modal-as : (b : Brackets) (s : Syntax) (rest more : List Token) → form s ≤ 0 → tokens s ++ rest ≡ opening_bracket b ∷ more
    → (r : RegSyntax) × (f : Syntax) × (s ≡ written_modal b r f) × (reg_tokens r ++ closing b ∷ (tokens f ++ rest) ≡ more)
modal-as brackets.Diamond s rest more low e = unary-as s rest more Less low e
modal-as brackets.Box s rest more low e = unary-as s rest more OpenBox low e

-- a fixpoint, by its word
pub bound-as : (b : Binder) (s : Syntax) (rest more : List Token) → form s ≤ 0 → tokens s ++ rest ≡ binder_token b ∷ more
    → (x : List ℕ) × (f : Syntax) × (s ≡ bound b x f) × (Name x ∷ Dot ∷ (tokens f ++ rest) ≡ more)
bound-as binder.Mu s rest more low e = unary-as s rest more MuWord low e
bound-as binder.Nu s rest more low e = unary-as s rest more NuWord low e

-- what a modality is made of, each part in its row
pub modal-inside : (b : Brackets) (r : RegSyntax) (f : Syntax) → IsTrue (fits (written_modal b r f)) → (form f ≤ 0) × IsTrue (reg_fits r) × IsTrue (fits f)
modal-inside brackets.Diamond r f h = modal_parts r f h
modal-inside brackets.Box r f h = modal_parts r f h

-- a part from which a formula begins, and one in which a formula stands
begins-part : (nested opened depth inside depth' inside' level : ℕ) (s : Syntax) (front more : List Token) → IsTrue (fits s) → form s ≤ level
    → tokens s ≡ front ++ more → (nested ≤ depth → nesting s ≤ depth') → (opened ≤ inside → parens s ≤ inside')
    → (nested' opened' : ℕ) × BeginsState level nested' opened' front × (nested ≤ depth → nested' ≤ depth') × (opened ≤ inside → opened' ≤ inside')
begins-part nested opened depth inside depth' inside' level s front more fit row e low narrow =
    (nesting s, parens s, record { syntax = s; more = more; grammatical = fit; row = row; nests = refl; opens = refl; spelled = e }, low, narrow)

stands-part : (nested opened depth inside depth' inside' level : ℕ) (s : Syntax) (rest ts : List Token) → IsTrue (fits s) → form s ≤ level
    → level < state_row rest → (ends_in_binder s ≡ true → 3 < state_row rest) → tokens s ++ rest ≡ ts
    → (nested ≤ depth → nesting s ≤ depth') → (opened ≤ inside → parens s ≤ inside')
    → (nested' opened' : ℕ) × StandsState level nested' opened' ts × (nested ≤ depth → nested' ≤ depth') × (opened ≤ inside → opened' ≤ inside')
stands-part nested opened depth inside depth' inside' level s rest ts fit row stop reaches e low narrow = (
  nesting s,
  parens s,
  record {
    syntax = s;
    rest = rest;
    grammatical = fit;
    row = row;
    nests = refl;
    opens = refl;
    stops = stop;
    reaches = reaches;
    spelled = e;
  },
  low,
  narrow,
)

-- after a `!`
pub after-not : (depth inside : ℕ) → IsPlace (BeginsState 0) (StandsState 0) (BeginsState 0) (StandsState 0) (depth + 1) inside depth inside (NotSign ∷ [])
after-not depth inside = record {
  outward = λ ts nested opened b.
      begins-part nested opened depth inside (depth + 1) inside 0 (Neg' b.syntax) (NotSign ∷ ts) b.more (all_true _ _ (le_true _ _ b.row) b.grammatical)
      (omega arith) (ap (λ us. NotSign ∷ us) b.spelled)
      (λ h. omega (arith, b.nests, h)) (λ h. omega (arith, b.opens, h));
  inward = λ ts nested opened x.
      let u = unary-as x.syntax x.rest ts NotSign x.row x.spelled in
      let o = and_parts (nat_le (form u.0) 0) (fits u.0) (subst (λ s. IsTrue (fits s)) u.1 x.grammatical) in
      stands-part nested opened (depth + 1) inside depth inside 0 u.0 x.rest ts o.1 (leb-true (form u.0) 0 o.0) x.stops
      (λ e. x.reaches (ap ends_in_binder u.1 ∙ e)) u.2
      (λ h. omega (arith, ap nesting u.1, x.nests, h)) (λ h. omega (arith, ap parens u.1, x.opens, h));
}

-- in parentheses
pub in-group : (depth inside : ℕ) → IsPlace (BeginsState 0) (StandsState 0) (BeginsState 3) (StandsState 3) depth (inside + 1) depth inside (Open ∷ [])
in-group depth inside = record {
  outward = λ ts nested opened b.
      begins-part nested opened depth inside depth (inside + 1) 0 (Group' b.syntax) (Open ∷ ts) (b.more ++ Close ∷ []) b.grammatical (omega arith)
      (ap (λ us. Open ∷ us) (ap (λ us. us ++ Close ∷ []) b.spelled ∙ append_assoc ts b.more (Close ∷ []))) (λ h. omega (arith, b.nests, h))
      (λ h. omega (arith, b.opens, h));
  inward = λ ts nested opened x.
      let u = unary-as x.syntax x.rest ts Open x.row x.spelled in
      stands-part nested opened depth (inside + 1) depth inside 3 u.0 (Close ∷ x.rest) ts (subst (λ s. IsTrue (fits s)) u.1 x.grammatical) (any_formula u.0)
      (omega arith) (λ e. omega arith) u.2
      (λ h. omega (arith, ap nesting u.1, x.nests, h)) (λ h. omega (arith, ap parens u.1, x.opens, h));
}

-- at the front
pub at-front : (level depth inside : ℕ) → IsPlace (BeginsState level) (StandsState level) (BeginsState 0) (StandsState 0) depth inside depth inside []
at-front level depth inside = record {
  outward = λ ts nested opened b.
      begins-part nested opened depth inside depth inside level b.syntax ts b.more b.grammatical (omega (arith, b.row)) b.spelled
      (λ h. omega (arith, b.nests, h)) (λ h. omega (arith, b.opens, h));
  inward = λ ts nested opened x.
      let u = first-unary x.syntax x.rest (standing level nested opened ts x) in
      stands-part nested opened depth inside depth inside 0 u.operand u.rest ts u.standing.grammatical u.row
      (omega (arith, u.standing.ended)) u.standing.reaches (u.spelled ∙ x.spelled)
      (λ h. omega (arith, u.nests, x.nests, h)) (λ h. omega (arith, u.opens, x.opens, h));
}

-- after a left operand and its sign
pub after-sign : (mark : Connective) (left : Syntax) (level depth inside : ℕ) → LeftOperand mark left → connective_row mark ≤ level → nesting left < depth
    → parens left ≤ inside
    → IsPlace (BeginsState level) (StandsState level) (BeginsState (connective_row mark)) (StandsState (connective_row mark)) depth inside (depth - 1) inside
    (tokens left ++ connective_token mark ∷ [])
after-sign mark left level depth inside w lower low narrow = record {
  outward = λ ts nested opened b.
      let f = b.syntax in
      begins-part nested opened (depth - 1) inside depth inside level (joined mark left f) ((tokens left ++ connective_token mark ∷ []) ++ ts) b.more
      (joined-fits mark left f w.grammatical b.grammatical w.below b.row (rw w.open_end refl)) (omega (arith, (joined-is mark left f).form, lower))
      (joined-tokens mark left f ∙ ap (λ us. tokens left ++ connective_token mark ∷ us) b.spelled
      ∙ sym (append_assoc (tokens left) (connective_token mark ∷ ts) b.more)
      ∙ ap (λ us. us ++ b.more) (sym (append_assoc (tokens left) (connective_token mark ∷ []) ts)))
      (λ h. omega (arith, (joined-is mark left f).nesting, b.nests, low, h)) (λ h. omega (arith, (joined-is mark left f).parens, b.opens, narrow, h));
  inward = λ ts nested opened x.
      let h = spine mark left ts x.syntax w x.rest (standing level nested opened _ x) (omega (arith, x.stops, lower))
      (x.spelled ∙ append_assoc (tokens left) (connective_token mark ∷ []) ts) in
      stands-part nested opened depth inside (depth - 1) inside
      (connective_row mark) h.operand h.rest ts h.standing.grammatical h.row h.stops h.standing.reaches h.spelled
      (λ k. omega (arith, h.nests, x.nests, k)) (λ k. omega (arith, h.opens, x.opens, k));
}

-- nothing goes on with a regular formula before the closing bracket
pub closing-row : (mark : Brackets) (more : List Token) → reg_row (closing mark ∷ more) ≡ 8
closing-row brackets.Diamond more = refl
closing-row brackets.Box more = refl

-- in the brackets of a modality
pub in-brackets : (mark : Brackets) (depth inside : ℕ) → IsPlace (BeginsState 0) (StandsState 0) (BeginsRegular 7) (StandsRegular 7)
    (depth + 1) inside depth inside (opening_bracket mark ∷ [])
in-brackets mark depth inside = record {
  outward = λ ts nested opened b.
      let r = b.syntax in
      begins-part nested opened depth inside (depth + 1) inside 0 (written_modal mark r True') (opening_bracket mark ∷ ts) (b.more ++ closing mark ∷ TrueWord ∷ [])
      (modal-fits mark r True' b.grammatical (omega arith) refl)
      (omega (arith, (modal-is mark r True').form))
      (modal-tokens mark r True' ∙ ap (λ us. opening_bracket mark ∷ us)
      (ap (λ us. us ++ closing mark ∷ TrueWord ∷ []) b.spelled ∙ append_assoc ts b.more (closing mark ∷ TrueWord ∷ [])))
      (λ h. omega (arith, (modal-is mark r True').nesting, b.nests, h)) (λ h. omega (arith, (modal-is mark r True').parens, b.opens, h));
  inward = λ ts nested opened x.
      let u = modal-as mark x.syntax x.rest ts x.row x.spelled in
      let o = modal-inside mark u.0 u.1 (subst (λ s. IsTrue (fits s)) u.2 x.grammatical) in
      regular-part nested opened (depth + 1) inside depth inside 7 u.0 (closing mark ∷ (tokens u.1 ++ x.rest)) ts o.1 (any_form u.0)
      (omega (arith, closing-row mark (tokens u.1 ++ x.rest))) u.3
      (λ h. omega (arith, ap nesting u.2, (modal-is mark u.0 u.1).nesting, x.nests, h))
      (λ h. omega (arith, ap parens u.2, (modal-is mark u.0 u.1).parens, x.opens, h));
}

-- after the brackets of a modality
pub after-brackets : (mark : Brackets) (r : RegSyntax) (depth inside : ℕ) → IsTrue (reg_fits r) → reg_nesting r ≤ depth → reg_parens r ≤ inside
    → IsPlace (BeginsState 0) (StandsState 0) (BeginsState 0) (StandsState 0) (depth + 1) inside depth inside
    (opening_bracket mark ∷ (reg_tokens r ++ closing mark ∷ []))
after-brackets mark r depth inside fit low narrow = record {
  outward = λ ts nested opened b.
      let f = b.syntax in
      begins-part nested opened depth inside (depth + 1) inside 0 (written_modal mark r f) (opening_bracket mark ∷ ((reg_tokens r ++ closing mark ∷ []) ++ ts)) b.more
      (modal-fits mark r f fit b.row b.grammatical)
      (omega (arith, (modal-is mark r f).form))
      (modal-tokens mark r f ∙ ap (λ us. opening_bracket mark ∷ us) (ap (λ us. reg_tokens r ++ closing mark ∷ us) b.spelled
      ∙ sym (append_assoc (reg_tokens r) (closing mark ∷ ts) b.more) ∙ ap (λ us. us ++ b.more) (sym (append_assoc (reg_tokens r) (closing mark ∷ []) ts))))
      (λ h. omega (arith, (modal-is mark r f).nesting, b.nests, low, h)) (λ h. omega (arith, (modal-is mark r f).parens, b.opens, narrow, h));
  inward = λ ts nested opened x.
      let u = modal-as mark x.syntax x.rest ((reg_tokens r ++ closing mark ∷ []) ++ ts) x.row x.spelled in
      let o = modal-inside mark u.0 u.1 (subst (λ s. IsTrue (fits s)) u.2 x.grammatical) in
      let p = one_at 7 u.0 r (closing mark ∷ (tokens u.1 ++ x.rest)) (closing mark ∷ ts) o.1 fit (any_form u.0) (any_form r)
      (omega (arith, closing-row mark (tokens u.1 ++ x.rest))) (omega (arith, closing-row mark ts))
      (u.3 ∙ append_assoc (reg_tokens r) (closing mark ∷ []) ts) in
      stands-part nested opened (depth + 1) inside depth inside 0 u.1 x.rest ts o.2 o.0 x.stops
      (λ e. x.reaches (ap ends_in_binder u.2 ∙ (modal-is mark u.0 u.1).ends ∙ e)) (ap (drop 1) p.1)
      (λ h. omega (arith, ap nesting u.2, (modal-is mark u.0 u.1).nesting, x.nests, h))
      (λ h. omega (arith, ap parens u.2, (modal-is mark u.0 u.1).parens, x.opens, h));
}

-- after the dot of a binder
pub after-dot : (word : Binder) (x : List ℕ) (depth inside : ℕ)
    → IsPlace (BeginsState 0) (StandsState 0) (BeginsState 3) (StandsState 3) (depth + 1) inside depth inside (binder_token word ∷ Name x ∷ Dot ∷ [])
after-dot word y depth inside = record {
  outward = λ ts nested opened b.
      let f = b.syntax in
      begins-part nested opened depth inside (depth + 1) inside 0 (bound word y f) (binder_token word ∷ Name y ∷ Dot ∷ ts) b.more
      ((bound-is word y f).fits ∙ b.grammatical) (omega (arith, (bound-is word y f).form))
      (bound-tokens word y f ∙ ap (λ us. binder_token word ∷ Name y ∷ Dot ∷ us) b.spelled) (λ h. omega (arith, (bound-is word y f).nesting, b.nests, h))
      (λ h. omega (arith, (bound-is word y f).parens, b.opens, h));
  inward = λ ts nested opened x.
      let u = bound-as word x.syntax x.rest (Name y ∷ Dot ∷ ts) x.row x.spelled in
      let far : 3 < state_row x.rest = x.reaches (ap ends_in_binder u.2 ∙ (bound-is word u.0 u.1).ends) in
      stands-part nested opened (depth + 1) inside depth inside 3 u.1 x.rest ts
      (sym ((bound-is word u.0 u.1).fits) ∙ subst (λ s. IsTrue (fits s)) u.2 x.grammatical) (any_formula u.1) far (λ e. far) (ap (drop 2) u.3)
      (λ h. omega (arith, ap nesting u.2, (bound-is word u.0 u.1).nesting, x.nests, h))
      (λ h. omega (arith, ap parens u.2, (bound-is word u.0 u.1).parens, x.opens, h));
}
