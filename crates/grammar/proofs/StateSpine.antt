-- State formulas at the front of tokens: which one stands after an operand and its sign, and which unary one comes first.
use Rattle.std.proofs.Common.{◌≡◌, ℕ, ◌+◌, ◌-◌, ◌<◌, ◌≤◌, Bool, true, false, not, List, [], ◌∷◌, ◌++◌, refl, sym, ap, ◌∙◌, subst, arith, append_assoc, inl}
use Rattle.std.proofs.Common.{inr, true≢false}
use Rattle.std.specs.Prelude.{IsTrue, nat_le, drop}
use Rattle.std.proofs.lemmas.Bool.{lt-ltb, leb-true, and_parts, not-true, cases_order}
use Rattle.grammar.specs.Token.{Token, AndSign, OrSign, ImpliesSign}
use Rattle.grammar.specs.Syntax.{Syntax, Both', OneOf', If', form, ends_in_binder, fits, tokens, nesting, parens}
use Rattle.grammar.specs.Written.{joined, connective_token, connective_row}
use Rattle.grammar.specs.Read.{state_row}
use Rattle.grammar.specs.declared.written.Connective.{Connective}
use Rattle.grammar.specs.declared.written.Connective.TheVariants as connective
use Rattle.grammar.proofs.Unambiguous.{level, stops, binder_stops, one_tree, Operands as Parted, operands}
use Rattle.grammar.proofs.States.{joined-tokens, joined-is, connective-row, row-most}

pub row-level : (t : Token) (ts : List Token) → state_row (t ∷ ts) ≡ level t
row-level AndSign ts = refl
row-level OrSign ts = refl
row-level ImpliesSign ts = refl
row-level _ ts = refl

-- tokens of a greater row don't go on with a formula of this form
row-stops : (k : ℕ) (ts : List Token) → k < state_row ts → stops k ts ≡ true
row-stops k [] h = refl
row-stops k (t ∷ ts) h = lt-ltb k (level t) (subst (λ n. k < n) (row-level t ts) h)

reaches-stops : (b : Bool) (ts : List Token) → (b ≡ true → 3 < state_row ts) → binder_stops b ts ≡ true
reaches-stops true ts h = row-stops 3 ts (h refl)
reaches-stops false ts h = refl

-- A formula may stand before these tokens, which can't go on with it.
pub record Standing (s : Syntax) (rest : List Token) : Type 0 where
  pub grammatical : IsTrue (fits s)
  pub ended : form s < state_row rest
  pub reaches : ends_in_binder s ≡ true → 3 < state_row rest

-- Two formulas of one form at the front of the same tokens, each of which ends there, are one.
pub one-state : (k : ℕ) (f g : Syntax) (m n : List Token) → Standing f m → Standing g n → form f ≤ k → form g ≤ k → k < state_row m → k < state_row n
    → tokens f ++ m ≡ tokens g ++ n → (f ≡ g) × (m ≡ n)
one-state k f g m n sf sg lf lg hm hn e =
    one_tree k f g m n sf.grammatical sg.grammatical lf lg (row-stops k m hm) (row-stops k n hn) (reaches-stops (ends_in_binder f) m sf.reaches)
    (reaches-stops (ends_in_binder g) n sg.reaches) e

-- the operands that a sign joins
pub record Operands (mark : Connective) (f g : Syntax) : Type 0 where
  pub left : IsTrue (fits f)
  pub right : IsTrue (fits g)
  pub below : form f < connective_row mark
  pub row : form g ≤ connective_row mark
  pub open_end : ends_in_binder f ≡ false

as_operands : (mark : Connective) (i j : ℕ) (f g : Syntax) → i < connective_row mark → j ≤ connective_row mark → Parted i j f g → Operands mark f g
as_operands mark i j f g low high o =
    let l = and_parts (nat_le (form f) i) (not (ends_in_binder f)) o.0 in
    record {
      left = o.2;
      right = o.3;
      below = omega (arith, leb-true (form f) i l.0, low);
      row = omega (arith, o.1, high);
      open_end = not-true (ends_in_binder f) l.1;
    }

pub joined-operands : (mark : Connective) (f g : Syntax) → IsTrue (fits (joined mark f g)) → Operands mark f g
joined-operands connective.And f g h = as_operands connective.And 0 1 f g (omega arith) (omega arith) (operands 0 1 f g h)
joined-operands connective.Or f g h = as_operands connective.Or 1 2 f g (omega arith) (omega arith) (operands 1 2 f g h)
joined-operands connective.Implies f g h = as_operands connective.Implies 2 3 f g (omega arith) (omega arith) (operands 2 3 f g h)

pub row-some : (mark : Connective) → 1 ≤ connective_row mark
row-some connective.And = omega arith
row-some connective.Or = omega arith
row-some connective.Implies = omega arith

one_sign : (m n : Connective) → connective_row m ≡ connective_row n → m ≡ n
one_sign connective.And connective.And e = refl
one_sign connective.Or connective.Or e = refl
one_sign connective.Implies connective.Implies e = refl
one_sign _ _ e = absurd (omega (arith, e))

-- the tokens of a joined formula, sign by sign
pub joined-split : (mark : Connective) (l r : Syntax) (m : List Token) → tokens (joined mark l r) ++ m ≡ tokens l ++ connective_token mark ∷ (tokens r ++ m)
joined-split mark l r m = ap (λ ts. ts ++ m) (joined-tokens mark l r) ∙ append_assoc (tokens l) (connective_token mark ∷ tokens r) m

-- a formula that may stand before this sign as its left operand
pub record LeftOperand (mark : Connective) (left : Syntax) : Type 0 where
  pub grammatical : IsTrue (fits left)
  pub below : form left < connective_row mark
  pub open_end : ends_in_binder left ≡ false

pub own_left : (mark : Connective) (l r : Syntax) → IsTrue (fits (joined mark l r)) → LeftOperand mark l
own_left mark l r h = let o = joined-operands mark l r h in record { grammatical = o.left; below = o.below; open_end = o.open_end }

-- a left operand stands before its sign
pub left-standing : (mark : Connective) (left : Syntax) (ts : List Token) → LeftOperand mark left → Standing left (connective_token mark ∷ ts)
left-standing mark left ts w = record {
  grammatical = w.grammatical;
  ended = let row : state_row (connective_token mark ∷ ts) ≡ connective_row mark = connective-row mark ts in omega (arith, w.below);
  reaches = λ b. absurd (true≢false (sym b ∙ w.open_end));
}

-- The formula s has an operand at the front of these tokens; the left one nests less deep than s, as it does.
pub record OperandAfter (mark : Connective) (left s : Syntax) (ts : List Token) : Type 0 where
  pub operand : Syntax
  pub rest : List Token
  pub standing : Standing operand rest
  pub row : form operand ≤ connective_row mark
  pub stops : connective_row mark < state_row rest
  pub nests : nesting operand + 1 ≤ nesting s
  pub beside : nesting left + 1 ≤ nesting s
  pub opens : parens operand ≤ parens s
  pub spelled : tokens operand ++ rest ≡ ts

abbrev pub HasOperand : Connective → Syntax → List Token → Syntax → Type 0
HasOperand mark left ts s =
    (m : List Token) → Standing s m → connective_row mark < state_row m → tokens s ++ m ≡ tokens left ++ connective_token mark ∷ ts
    → OperandAfter mark left s ts

-- a formula of a lower form would be the left operand itself, which the sign follows
too_low : (mark : Connective) (left s : Syntax) (ts : List Token) → LeftOperand mark left → form s < connective_row mark → HasOperand mark left ts s
too_low mark left s ts w low m st far e =
    let some = row-some mark in
    let most = row-most mark in
    let row : state_row (connective_token mark ∷ ts) ≡ connective_row mark = connective-row mark ts in
    let below = w.below in
    let p = one-state (connective_row mark - 1) s left m (connective_token mark ∷ ts) st (left-standing mark left ts w) (omega arith) (omega arith)
    (omega arith) (omega arith) e in
    let same : state_row m ≡ state_row (connective_token mark ∷ ts) = ap state_row p.1 in
    absurd (omega arith)

-- at the sign itself
at_sign : (mark : Connective) (left l r : Syntax) (ts : List Token) → LeftOperand mark left → HasOperand mark left ts (joined mark l r)
at_sign mark left l r ts w m st far e =
    let o = joined-operands mark l r st.grammatical in
    let on : List Token = tokens r ++ m in
    let p = one-state (connective_row mark - 1) l left (connective_token mark ∷ on) (connective_token mark ∷ ts)
    (left-standing mark l on (own_left mark l r st.grammatical)) (left-standing mark left ts w)
    (omega (arith, o.below)) (omega (arith, w.below)) (omega (arith, row-some mark, connective-row mark on))
    (omega (arith, row-some mark, connective-row mark ts)) (sym (joined-split mark l r m) ∙ e) in
    let deep = (joined-is mark l r).nesting in
    record {
      operand = r;
      rest = m;
      standing = record { grammatical = o.right; ended = omega (arith, o.row); reaches = λ b. st.reaches ((joined-is mark l r).ends ∙ b) };
      row = o.row;
      stops = far;
      nests = omega (arith, deep);
      beside = omega (arith, deep, ap nesting p.0);
      opens = omega (arith, (joined-is mark l r).parens);
      spelled = ap (drop 1) p.1;
    }

-- of a formula that is joined by a weaker sign, the left operand has it
before_sign : (mark mark' : Connective) (left l r : Syntax) (ts : List Token) → connective_row mark < connective_row mark' → HasOperand mark left ts l
    → HasOperand mark left ts (joined mark' l r)
before_sign mark mark' left l r ts weaker inner m st far e =
    let on : List Token = tokens r ++ m in
    let h = inner (connective_token mark' ∷ on) (left-standing mark' l on (own_left mark' l r st.grammatical)) (omega (arith, connective-row mark' on))
    (sym (joined-split mark' l r m) ∙ e) in
    let deep = (joined-is mark' l r).nesting in
    record {
      operand = h.operand;
      rest = h.rest;
      standing = h.standing;
      row = h.row;
      stops = h.stops;
      nests = omega (arith, deep, h.nests);
      beside = omega (arith, deep, h.beside);
      opens = omega (arith, (joined-is mark' l r).parens, h.opens);
      spelled = h.spelled;
    }

in_joined : (mark mark' : Connective) (left l r : Syntax) (ts : List Token) → LeftOperand mark left → HasOperand mark left ts l
    → HasOperand mark left ts (joined mark' l r)
in_joined mark mark' left l r ts w inner =
    elim (cases_order (connective_row mark) (connective_row mark')) as (λ o. HasOperand mark left ts (joined mark' l r)) [
      | inl same ↦ subst (λ sign. HasOperand mark left ts (joined sign l r)) (one_sign mark mark' same) (at_sign mark left l r ts w)
      | inr (inl weaker) ↦ before_sign mark mark' left l r ts weaker inner
      | inr (inr stronger) ↦ too_low mark left (joined mark' l r) ts w
          (let own : form (joined mark' l r) ≡ connective_row mark' = (joined-is mark' l r).form in omega arith)
    ]

unary_low : (mark : Connective) (s : Syntax) → form s ≤ 0 → form s < connective_row mark
unary_low mark s h = omega (arith, row-some mark)

-- After a left operand and its sign, each formula that goes beyond the sign has its right operand.
pub spine : (mark : Connective) (left : Syntax) (ts : List Token) (s : Syntax) → LeftOperand mark left → HasOperand mark left ts s
spine mark left ts (Both' l r) w = in_joined mark connective.And left l r ts w (spine mark left ts l w)
spine mark left ts (OneOf' l r) w = in_joined mark connective.Or left l r ts w (spine mark left ts l w)
spine mark left ts (If' l r) w = in_joined mark connective.Implies left l r ts w (spine mark left ts l w)
spine mark left ts s w = too_low mark left s ts w (unary_low mark s (omega arith))

-- the unary formula with which s begins
pub record FirstUnary (s : Syntax) (ts : List Token) : Type 0 where
  pub operand : Syntax
  pub rest : List Token
  pub standing : Standing operand rest
  pub row : form operand ≤ 0
  pub nests : nesting operand ≤ nesting s
  pub opens : parens operand ≤ parens s
  pub spelled : tokens operand ++ rest ≡ ts

first_joined : (mark : Connective) (l r : Syntax) (m : List Token) → Standing (joined mark l r) m
    → ((m : List Token) → Standing l m → FirstUnary l (tokens l ++ m))
    → FirstUnary (joined mark l r) (tokens (joined mark l r) ++ m)
first_joined mark l r m st inner =
    let h = inner (connective_token mark ∷ (tokens r ++ m)) (left-standing mark l (tokens r ++ m) (own_left mark l r st.grammatical)) in
    record {
      operand = h.operand;
      rest = h.rest;
      standing = h.standing;
      row = h.row;
      nests = omega (arith, (joined-is mark l r).nesting, h.nests);
      opens = omega (arith, (joined-is mark l r).parens, h.opens);
      spelled = h.spelled ∙ sym (joined-split mark l r m);
    }

itself : (s : Syntax) (m : List Token) → form s ≤ 0 → Standing s m → FirstUnary s (tokens s ++ m)
itself s m low st = record { operand = s; rest = m; standing = st; row = low; nests = omega arith; opens = omega arith; spelled = refl }

-- Each formula begins with a unary one.
pub first-unary : (s : Syntax) (m : List Token) → Standing s m → FirstUnary s (tokens s ++ m)
first-unary (Both' l r) m st = first_joined connective.And l r m st (λ n h. first-unary l n h)
first-unary (OneOf' l r) m st = first_joined connective.Or l r m st (λ n h. first-unary l n h)
first-unary (If' l r) m st = first_joined connective.Implies l r m st (λ n h. first-unary l n h)
first-unary s m st = itself s m (omega arith) st
