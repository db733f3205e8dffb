-- Why tokens gave no regular formula, at each place where the reading can end.
use Rattle.std.proofs.Common.{◌≡◌, ℕ, ◌+◌, ◌-◌, ◌<◌, ◌≤◌, Bool, true, List, [], ◌∷◌, ◌++◌, take, refl, sym, ap, ◌∙◌, subst, arith, append_assoc, drop}
use Rattle.std.proofs.Common.{true≢false}
use Rattle.std.specs.Prelude.{IsTrue, nat_le}
use Rattle.std.proofs.lemmas.Bool.{and_parts, leb-true}
use Rattle.grammar.specs.Token.{Token, Name, Atom, TrueWord, FalseWord, TauWord, AndSign, OrSign, ImpliesSign, Bar, NotSign, Open, Close, Dot, ChoiceSign}
use Rattle.grammar.specs.Token.{PlusSign, StarSign}
use Rattle.grammar.specs.Syntax.{RegSyntax, Anything', Nothing', Tau', Names', Quoted', Parens', Not', And', Or', Implies', Star', Plus', Then', Either'}
use Rattle.grammar.specs.Syntax.{reg_form, reg_fits, reg_tokens, reg_nesting, reg_parens, more_names}
use Rattle.grammar.specs.Written.{infixed, infix_token, infix_row}
use Rattle.grammar.specs.Read.{reg_row, is_word}
use Rattle.grammar.specs.Misread.{BeginsRegular, StandsRegular, IsRegularMisread}
use Rattle.grammar.specs.declared.misread.Misread.{Misread}
use Rattle.grammar.specs.declared.written.Infix.{Infix}
use Rattle.grammar.specs.declared.written.Infix.TheVariants as sign
use Rattle.grammar.proofs.Misreads.{IsPlace, misread-within}
use Rattle.grammar.proofs.Regulars.{all_true, le_true, infixed-tokens, infixed-is, infixed-fits}
use Rattle.grammar.proofs.RegularUnique.{any_form}
use Rattle.grammar.proofs.RegularSpine.{row_first, infixed-parts, spine}

pub head_once : (t u : Token) (ts us : List Token) → t ∷ ts ≡ u ∷ us → t ≡ u
head_once t u ts us e = cc

tail_once : (t u : Token) (ts us : List Token) → t ∷ ts ≡ u ∷ us → ts ≡ us
tail_once t u ts us e = cc

-- The first of the tokens that are left decides, whatever follows it.
pub row_taken : (back more : List Token) → reg_row back < 8 → reg_row (take 1 back ++ more) ≡ reg_row back
row_taken [] more h = absurd (omega arith)
row_taken (t ∷ ts) more h = row_first t more ∙ sym (row_first t ts)

pub above_taken : (k : ℕ) (back more : List Token) → (back ≡ [] → more ≡ []) → k < reg_row back → k < reg_row (take 1 back ++ more)
above_taken k [] more stop h = subst (λ ts. k < reg_row ts) (sym (stop refl)) h
above_taken k (t ∷ ts) more stop h = omega (arith, row_first t more, row_first t ts, h)

pub first_taken : (back more : List Token) (t : Token) (ts : List Token) → (back ≡ [] → more ≡ []) → take 1 back ++ more ≡ t ∷ ts → (us : List Token)
    × (back ≡ t ∷ us)
first_taken [] more t ts stop e = let none = stop refl in absurd (clash more t ts none e)
  where
    clash : (more : List Token) (t : Token) (ts : List Token) → more ≡ [] → more ≡ t ∷ ts → ⊥
    clash more t ts n e = cc
first_taken (u ∷ us) more t ts stop e = (us, ap (λ v. v ∷ us) (head_once u t more ts e))

-- what an atom or a negation with these tokens after it is, by its first token
abbrev pub LowAs : Token → RegSyntax → (rest more : List Token) → Type 0
LowAs NotSign s rest more = (r : RegSyntax) × (s ≡ Not' r) × (reg_tokens r ++ rest ≡ more)
LowAs Open s rest more = (r : RegSyntax) × (s ≡ Parens' r) × (reg_tokens r ++ Close ∷ rest ≡ more)
LowAs (Name x) s rest more = (xs : List (List ℕ)) × (more_names xs ++ rest ≡ more)
LowAs t s rest more = IsTrue (is_word t) × (rest ≡ more)

as_first : (t u : Token) (s : RegSyntax) (rest ts more : List Token) → t ∷ ts ≡ u ∷ more → LowAs t s rest more → LowAs u s rest more
as_first t u s rest ts more e h = subst (λ v. LowAs v s rest more) (head_once t u ts more e) h

pub low-as : (s : RegSyntax) (rest more : List Token) (t : Token) → reg_form s ≤ 1 → reg_tokens s ++ rest ≡ t ∷ more → LowAs t s rest more
low-as Anything' rest more t low e = as_first TrueWord t Anything' rest rest more e (refl, ap (drop 1) e)
low-as Nothing' rest more t low e = as_first FalseWord t Nothing' rest rest more e (refl, ap (drop 1) e)
low-as Tau' rest more t low e = as_first TauWord t Tau' rest rest more e (refl, ap (drop 1) e)
low-as (Quoted' bytes) rest more t low e = as_first (Atom bytes) t (Quoted' bytes) rest rest more e (refl, ap (drop 1) e)
low-as (Names' x xs) rest more t low e = as_first (Name x) t (Names' x xs) rest _ more e (xs, ap (drop 1) e)
low-as (Parens' r) rest more t low e = as_first Open t (Parens' r) rest _ more e (r, refl, sym (append_assoc (reg_tokens r) (Close ∷ []) rest) ∙ ap (drop 1) e)
low-as (Not' r) rest more t low e = as_first NotSign t (Not' r) rest _ more e (r, refl, ap (drop 1) e)
low-as _ rest more t low e = absurd (omega arith)

-- tokens that begin an atom or a negation
abbrev pub opens_regular : Token → Bool
opens_regular (Name x) = true
opens_regular NotSign = true
opens_regular Open = true
opens_regular t = is_word t

pub opening_token : (t : Token) (s : RegSyntax) (rest more : List Token) → LowAs t s rest more → opens_regular t ≡ true
opening_token (Name x) s rest more h = refl
opening_token NotSign s rest more h = refl
opening_token Open s rest more h = refl
opening_token t s rest more h = h.0

-- such a token is all of its formula
pub word_alone : (t : Token) (s : RegSyntax) (rest more : List Token) → is_word t ≡ true → LowAs t s rest more → rest ≡ more
word_alone (Name x) s rest more w h = absurd (true≢false (sym w))
word_alone NotSign s rest more w h = absurd (true≢false (sym w))
word_alone Open s rest more w h = absurd (true≢false (sym w))
word_alone t s rest more w h = h.1

-- where names go on at a bar, a name comes next
pub name_next : (xs ys : List (List ℕ)) (rest ts : List Token) → 0 < reg_row rest → more_names ys ++ rest ≡ more_names xs ++ Bar ∷ ts → (name : List ℕ)
    × (more : List Token) × (ts ≡ Name name ∷ more)
name_next [] [] rest ts stop e = let row : reg_row rest ≡ 0 = ap reg_row e in absurd (omega arith)
name_next [] (y ∷ ys) rest ts stop e = (y, more_names ys ++ rest, sym (tail_once Bar Bar (Name y ∷ (more_names ys ++ rest)) ts e))
name_next (x ∷ xs) [] rest ts stop e = let row : reg_row rest ≡ 0 = ap reg_row e in absurd (omega arith)
name_next (x ∷ xs) (y ∷ ys) rest ts stop e =
    name_next xs ys rest ts stop (tail_once (Name y) (Name x) (more_names ys ++ rest) (more_names xs ++ Bar ∷ ts)
    (tail_once Bar Bar (Name y ∷ (more_names ys ++ rest)) (Name x ∷ (more_names xs ++ Bar ∷ ts)) e))

-- the atom or negation that a formula begins with
record Leftmost (s : RegSyntax) (m : List Token) : Type 0 where
  inner : RegSyntax
  rest : List Token
  grammatical : IsTrue (reg_fits inner)
  row : reg_form inner ≤ 1
  stops : 1 < reg_row rest
  spelled : reg_tokens inner ++ rest ≡ reg_tokens s ++ m
  low : reg_nesting inner ≤ reg_nesting s
  narrow : reg_parens inner ≤ reg_parens s

is_leftmost : (s : RegSyntax) (m : List Token) → IsTrue (reg_fits s) → reg_form s ≤ 1 → 1 < reg_row m → Leftmost s m
is_leftmost s m fit low stop = record {
  inner = s;
  rest = m;
  grammatical = fit;
  row = low;
  stops = stop;
  spelled = refl;
  low = omega arith;
  narrow = omega arith;
}

-- of the operand before these tokens
of_left : (a s : RegSyntax) (ts m : List Token) → Leftmost a (ts ++ m) → reg_tokens s ≡ reg_tokens a ++ ts → reg_nesting a ≤ reg_nesting s
    → reg_parens a ≤ reg_parens s → Leftmost s m
of_left a s ts m p e low narrow = record {
  inner = p.inner;
  rest = p.rest;
  grammatical = p.grammatical;
  row = p.row;
  stops = p.stops;
  spelled = p.spelled ∙ (sym (append_assoc (reg_tokens a) ts m) ∙ ap (λ us. us ++ m) (sym e));
  low = omega (arith, p.low, low);
  narrow = omega (arith, p.narrow, narrow);
}

leftmost : (s : RegSyntax) (m : List Token) → IsTrue (reg_fits s) → 1 < reg_row m → Leftmost s m
leftmost (And' a b) m fit stop = of_left a (And' a b) (AndSign ∷ reg_tokens b) m
    (leftmost a (AndSign ∷ (reg_tokens b ++ m)) (infixed-parts sign.And a b fit).2 (omega arith)) refl (omega arith) (omega arith)
leftmost (Or' a b) m fit stop = of_left a (Or' a b) (OrSign ∷ reg_tokens b) m
    (leftmost a (OrSign ∷ (reg_tokens b ++ m)) (infixed-parts sign.Or a b fit).2 (omega arith)) refl (omega arith) (omega arith)
leftmost (Implies' a b) m fit stop = of_left a (Implies' a b) (ImpliesSign ∷ reg_tokens b) m
    (leftmost a (ImpliesSign ∷ (reg_tokens b ++ m)) (infixed-parts sign.Implies a b fit).2 (omega arith)) refl (omega arith) (omega arith)
leftmost (Then' a b) m fit stop = of_left a (Then' a b) (Dot ∷ reg_tokens b) m
    (leftmost a (Dot ∷ (reg_tokens b ++ m)) (infixed-parts sign.Then a b fit).2 (omega arith)) refl (omega arith) (omega arith)
leftmost (Either' a b) m fit stop = of_left a (Either' a b) (ChoiceSign ∷ reg_tokens b) m
    (leftmost a (ChoiceSign ∷ (reg_tokens b ++ m)) (infixed-parts sign.Either a b fit).2 (omega arith)) refl (omega arith) (omega arith)
leftmost (Star' a) m fit stop = of_left a (Star' a) (StarSign ∷ []) m (leftmost a (StarSign ∷ m) (and_parts _ _ fit).1 (omega arith)) refl (omega arith)
    (omega arith)
leftmost (Plus' a) m fit stop = of_left a (Plus' a) (PlusSign ∷ []) m (leftmost a (PlusSign ∷ m) (and_parts _ _ fit).1 (omega arith)) refl (omega arith)
    (omega arith)
leftmost s m fit stop = is_leftmost s m fit (omega arith) stop

-- a part from which a formula begins, and one in which a formula stands
begins-part : (nested opened depth inside depth' inside' level : ℕ) (s : RegSyntax) (front more : List Token) → IsTrue (reg_fits s) → reg_form s ≤ level
    → reg_tokens s ≡ front ++ more → (nested ≤ depth → reg_nesting s ≤ depth')
    → (opened ≤ inside → reg_parens s ≤ inside') → (nested' opened' : ℕ) × BeginsRegular level nested' opened' front × (nested ≤ depth → nested' ≤ depth')
    × (opened ≤ inside → opened' ≤ inside')
begins-part nested opened depth inside depth' inside' level s front more fit row e low narrow =
    (reg_nesting s, reg_parens s, record { syntax = s; more = more; grammatical = fit; row = row; nests = refl; opens = refl; spelled = e }, low, narrow)

pub stands-part : (nested opened depth inside depth' inside' level : ℕ) (s : RegSyntax) (rest ts : List Token) → IsTrue (reg_fits s) → reg_form s ≤ level
    → level < reg_row rest → reg_tokens s ++ rest ≡ ts → (nested ≤ depth → reg_nesting s ≤ depth')
    → (opened ≤ inside → reg_parens s ≤ inside') → (nested' opened' : ℕ) × StandsRegular level nested' opened' ts × (nested ≤ depth → nested' ≤ depth')
    × (opened ≤ inside → opened' ≤ inside')
stands-part nested opened depth inside depth' inside' level s rest ts fit row stop e low narrow = (
  reg_nesting s,
  reg_parens s,
  record { syntax = s; rest = rest; grammatical = fit; row = row; nests = refl; opens = refl; stops = stop; spelled = e },
  low,
  narrow,
)

-- at the front of a formula of any row
pub place_front : (level depth inside : ℕ) → 1 ≤ level → IsPlace (BeginsRegular level) (StandsRegular level) (BeginsRegular 1)
    (StandsRegular 1) depth inside depth inside []
place_front level depth inside above = record {
  outward = λ ts nested opened b.
      begins-part nested opened depth inside depth inside level b.syntax ts b.more b.grammatical (omega (arith, b.row)) b.spelled
      (λ h. omega (arith, b.nests, h)) (λ h. omega (arith, b.opens, h));
  inward = λ ts nested opened s.
      let p = leftmost s.syntax s.rest s.grammatical (omega (arith, s.stops)) in
      stands-part nested opened depth inside depth inside 1 p.inner p.rest ts p.grammatical p.row p.stops (p.spelled ∙ s.spelled)
      (λ h. omega (arith, p.low, s.nests, h)) (λ h. omega (arith, p.narrow, s.opens, h));
}

-- after a `!`
pub place_not : (depth inside : ℕ) → IsPlace (BeginsRegular 1) (StandsRegular 1) (BeginsRegular 1) (StandsRegular 1) (depth + 1) inside depth inside
    (NotSign ∷ [])
place_not depth inside = record {
  outward = λ ts nested opened b.
      begins-part nested opened depth inside (depth + 1) inside 1 (Not' b.syntax) (NotSign ∷ ts) b.more
      (all_true _ _ (le_true (reg_form b.syntax) 1 b.row) b.grammatical) (omega arith) (ap (λ us. NotSign ∷ us) b.spelled)
      (λ h. omega (arith, b.nests, h)) (λ h. omega (arith, b.opens, h));
  inward = λ ts nested opened s.
      let u = low-as s.syntax s.rest ts NotSign s.row s.spelled in
      let o = and_parts (nat_le (reg_form u.0) 1) (reg_fits u.0) (subst (λ x. IsTrue (reg_fits x)) u.1 s.grammatical) in
      stands-part nested opened (depth + 1) inside depth inside 1 u.0 s.rest ts o.1 (leb-true (reg_form u.0) 1 o.0) s.stops u.2
      (λ h. omega (arith, ap reg_nesting u.1, s.nests, h)) (λ h. omega (arith, ap reg_parens u.1, s.opens, h));
}

-- after an opening parenthesis
pub place_open : (depth inside : ℕ) → IsPlace (BeginsRegular 1) (StandsRegular 1) (BeginsRegular 7) (StandsRegular 7) depth (inside + 1) depth inside
    (Open ∷ [])
place_open depth inside = record {
  outward = λ ts nested opened b.
      begins-part nested opened depth inside depth (inside + 1) 1 (Parens' b.syntax) (Open ∷ ts) (b.more ++ Close ∷ []) b.grammatical (omega arith)
      (ap (λ us. Open ∷ us) (ap (λ us. us ++ Close ∷ []) b.spelled ∙ append_assoc ts b.more (Close ∷ []))) (λ h. omega (arith, b.nests, h))
      (λ h. omega (arith, b.opens, h));
  inward = λ ts nested opened s.
      let u = low-as s.syntax s.rest ts Open s.row s.spelled in
      stands-part nested opened depth (inside + 1) depth inside 7 u.0 (Close ∷ s.rest) ts (subst (λ x. IsTrue (reg_fits x)) u.1 s.grammatical) (any_form u.0)
      (omega arith) u.2
      (λ h. omega (arith, ap reg_nesting u.1, s.nests, h)) (λ h. omega (arith, ap reg_parens u.1, s.opens, h));
}

-- after a left operand and its sign
place_sign : (mark : Infix) (level depth inside : ℕ) (left : RegSyntax) → IsTrue (reg_fits left) → reg_form left < infix_row mark → infix_row mark ≤ level
    → reg_nesting left < depth → reg_parens left ≤ inside
    → IsPlace (BeginsRegular level) (StandsRegular level) (BeginsRegular (infix_row mark)) (StandsRegular (infix_row mark)) depth inside (depth - 1) inside
    (reg_tokens left ++ infix_token mark ∷ [])
place_sign mark level depth inside left fit below above low narrow = record {
  outward = λ ts nested opened b.
      let r = b.syntax in
      begins-part nested opened (depth - 1) inside depth inside level (infixed mark left r) ((reg_tokens left ++ infix_token mark ∷ []) ++ ts) b.more
      (infixed-fits mark left r fit b.grammatical below b.row) (omega (arith, (infixed-is mark left r).form, above))
      (infixed-tokens mark left r ∙ ap (λ us. reg_tokens left ++ infix_token mark ∷ us) b.spelled
      ∙ sym (append_assoc (reg_tokens left ++ infix_token mark ∷ []) ts b.more ∙ append_assoc (reg_tokens left) (infix_token mark ∷ []) (ts ++ b.more)))
      (λ h. omega (arith, (infixed-is mark left r).nesting, b.nests, low, h)) (λ h. omega (arith, (infixed-is mark left r).parens, b.opens, narrow, h));
  inward = λ ts nested opened s.
      let p = spine mark left s.syntax s.rest ts fit below s.grammatical (omega (arith, s.stops, above))
      (s.spelled ∙ append_assoc (reg_tokens left) (infix_token mark ∷ []) ts) in
      stands-part nested opened depth inside (depth - 1) inside (infix_row mark) p.right p.rest ts p.grammatical p.row p.stops p.spelled
      (λ h. omega (arith, p.below, s.nests, h)) (λ h. omega (arith, p.narrow, s.opens, h));
}

pub in_joined : (mark : Infix) (level depth inside : ℕ) (left : RegSyntax) (ts : List Token) (e : Misread) → IsTrue (reg_fits left)
    → reg_form left < infix_row mark → infix_row mark ≤ level → reg_nesting left < depth
    → reg_parens left ≤ inside → IsRegularMisread (infix_row mark) (depth - 1) inside ts e
    → IsRegularMisread level depth inside (reg_tokens left ++ infix_token mark ∷ ts) e
in_joined mark level depth inside left ts e fit below above low narrow h =
    subst (λ us. IsRegularMisread level depth inside us e) (append_assoc (reg_tokens left) (infix_token mark ∷ []) ts)
    (misread-within (BeginsRegular level) (StandsRegular level) (BeginsRegular (infix_row mark)) (StandsRegular (infix_row mark)) depth inside
    (depth - 1) inside
    (reg_tokens left ++ infix_token mark ∷ []) ts e (place_sign mark level depth inside left fit below above low narrow) h)
