-- A formula that begins with another one's tokens and a sign after them has that sign, with the other one before it.
use Rattle.std.proofs.Common.{Some, ◌≡◌, ℕ, ◌+◌, ◌-◌, ◌<◌, ◌≤◌, ◌⊎◌, inl, inr, true, List, [], ◌∷◌, ◌++◌, refl, sym, ap, ◌∙◌, arith, append_assoc}
use Rattle.std.specs.Prelude.{IsTrue}
use Rattle.std.proofs.lemmas.Bool.{ltb-true, lt-ltb, cases_lt, and_parts}
use Rattle.grammar.specs.Token.{Token, ImpliesSign, OrSign, AndSign, Bar, Dot, ChoiceSign, PlusSign, StarSign}
use Rattle.grammar.specs.Syntax.{RegSyntax, And', Or', Implies', Star', Plus', Then', Either', reg_form, reg_fits, reg_tokens, reg_nesting, reg_parens}
use Rattle.grammar.specs.Written.{infixed, infix_token, infix_row, repeated, repeat_token}
use Rattle.grammar.specs.Read.{reg_row}
use Rattle.grammar.specs.declared.written.Infix.{Infix}
use Rattle.grammar.specs.declared.written.Infix.TheVariants as sign
use Rattle.grammar.specs.declared.written.Repeat.{Repeat}
use Rattle.grammar.specs.declared.written.Repeat.TheVariants as repeat
use Rattle.grammar.proofs.Regulars.{infixed-tokens, infixed-is}
use Rattle.grammar.proofs.RegularUnique.{reg_level, reg_stops, operands, one_regular, reg_read, reg_size, more, more_grows, postfix_found}

-- the row that a token makes
pub row_first : (t : Token) (ts : List Token) → reg_row (t ∷ ts) ≡ reg_level t
row_first Bar ts = refl
row_first AndSign ts = refl
row_first OrSign ts = refl
row_first ImpliesSign ts = refl
row_first StarSign ts = refl
row_first PlusSign ts = refl
row_first Dot ts = refl
row_first ChoiceSign ts = refl
row_first _ ts = refl

pub stops_at : (k : ℕ) (ts : List Token) → k < reg_row ts → reg_stops k ts ≡ true
stops_at k [] h = refl
stops_at k (t ∷ ts) h = lt-ltb k (reg_level t) (omega (arith, row_first t ts, h))

row_above : (k : ℕ) (ts : List Token) → k < 8 → reg_stops k ts ≡ true → k < reg_row ts
row_above k [] low h = low
row_above k (t ∷ ts) low h = omega (arith, row_first t ts, ltb-true k (reg_level t) h)

-- two formulas of one row at the front of the same tokens are one
pub one_at : (k : ℕ) (r s : RegSyntax) (m n : List Token) → IsTrue (reg_fits r) → IsTrue (reg_fits s) → reg_form r ≤ k → reg_form s ≤ k → k < reg_row m
    → k < reg_row n
    → reg_tokens r ++ m ≡ reg_tokens s ++ n → (r ≡ s) × (m ≡ n)
one_at k r s m n fr fs lr ls sm sn e = one_regular k r s m n fr fs lr ls (stops_at k m sm) (stops_at k n sn) e

pub sign_row : (mark : Infix) (ts : List Token) → reg_row (infix_token mark ∷ ts) ≡ infix_row mark
sign_row sign.And ts = refl
sign_row sign.Or ts = refl
sign_row sign.Implies ts = refl
sign_row sign.Then ts = refl
sign_row sign.Either ts = refl

pub repeat_row : (mark : Repeat) (ts : List Token) → reg_row (repeat_token mark ∷ ts) ≡ 5
repeat_row repeat.Star ts = refl
repeat_row repeat.Plus ts = refl

pub sign_high : (mark : Infix) → 2 ≤ infix_row mark
sign_high sign.And = omega arith
sign_high sign.Or = omega arith
sign_high sign.Implies = omega arith
sign_high sign.Then = omega arith
sign_high sign.Either = omega arith

-- no sign between two has the row of postfix signs
pub not_postfix : (mark : Infix) → (infix_row mark < 5) ⊎ (5 < infix_row mark)
not_postfix sign.And = inl (omega arith)
not_postfix sign.Or = inl (omega arith)
not_postfix sign.Implies = inl (omega arith)
not_postfix sign.Then = inr (omega arith)
not_postfix sign.Either = inr (omega arith)

-- each row has one sign
one_sign : (a b : Infix) → infix_row a ≡ infix_row b → a ≡ b
one_sign sign.And sign.And e = refl
one_sign sign.Or sign.Or e = refl
one_sign sign.Implies sign.Implies e = refl
one_sign sign.Then sign.Then e = refl
one_sign sign.Either sign.Either e = refl
one_sign _ _ e = absurd (omega (arith, e))

pub infixed-parts : (mark : Infix) (r s : RegSyntax) → IsTrue (reg_fits (infixed mark r s)) → (reg_form r < infix_row mark) × (reg_form s ≤ infix_row mark)
    × IsTrue (reg_fits r) × IsTrue (reg_fits s)
infixed-parts sign.And r s h = let o = operands 1 2 r s h in (omega (arith, o.0), o.1, o.2, o.3)
infixed-parts sign.Or r s h = let o = operands 2 3 r s h in (omega (arith, o.0), o.1, o.2, o.3)
infixed-parts sign.Implies r s h = let o = operands 3 4 r s h in (omega (arith, o.0), o.1, o.2, o.3)
infixed-parts sign.Then r s h = let o = operands 5 6 r s h in (omega (arith, o.0), o.1, o.2, o.3)
infixed-parts sign.Either r s h = let o = operands 6 7 r s h in (omega (arith, o.0), o.1, o.2, o.3)

-- the operand after the sign, at the front of the tokens after it, in a formula that begins with the left one and the sign
pub record Spine (mark : Infix) (left s : RegSyntax) (ts : List Token) : Type 0 where
  pub right : RegSyntax
  pub rest : List Token
  pub grammatical : IsTrue (reg_fits right)
  pub row : reg_form right ≤ infix_row mark
  pub stops : infix_row mark < reg_row rest
  pub spelled : reg_tokens right ++ rest ≡ ts
  pub below : reg_nesting right + 1 ≤ reg_nesting s
  pub left_below : reg_nesting left + 1 ≤ reg_nesting s
  pub narrow : reg_parens right ≤ reg_parens s

widened : (mark : Infix) (left a s : RegSyntax) (ts : List Token) → Spine mark left a ts → reg_nesting a ≤ reg_nesting s → reg_parens a ≤ reg_parens s
    → Spine mark left s ts
widened mark left a s ts p deep wide = record {
  right = p.right;
  rest = p.rest;
  grammatical = p.grammatical;
  row = p.row;
  stops = p.stops;
  spelled = p.spelled;
  below = omega (arith, p.below, deep);
  left_below = omega (arith, p.left_below, deep);
  narrow = omega (arith, p.narrow, wide);
}

-- a formula of a lower row than the sign's is the left one
left_is : (mark : Infix) (left s : RegSyntax) (m ts : List Token) → IsTrue (reg_fits left) → reg_form left < infix_row mark → IsTrue (reg_fits s)
    → reg_form s < infix_row mark → infix_row mark ≤ reg_row m
    → reg_tokens s ++ m ≡ reg_tokens left ++ infix_token mark ∷ ts → (s ≡ left) × (m ≡ infix_token mark ∷ ts)
left_is mark left s m ts fl low fs lows stop e =
    one_at (infix_row mark - 1) s left m (infix_token mark ∷ ts) fs fl (omega arith) (omega arith) (omega arith) (omega (arith, sign_row mark ts, low)) e

too_low : (mark : Infix) (left s : RegSyntax) (m ts : List Token) → IsTrue (reg_fits left) → reg_form left < infix_row mark → IsTrue (reg_fits s)
    → reg_form s < infix_row mark → infix_row mark < reg_row m
    → reg_tokens s ++ m ≡ reg_tokens left ++ infix_token mark ∷ ts → Spine mark left s ts
too_low mark left s m ts fl low fs lows stop e =
    let q = left_is mark left s m ts fl low fs lows (omega arith) e in
    let row : reg_row m ≡ infix_row mark = ap reg_row q.1 ∙ sign_row mark ts in
    absurd (omega arith)

-- along a formula with a sign between two
along : (mark other : Infix) (left a b : RegSyntax) (m ts : List Token) → IsTrue (reg_fits left) → reg_form left < infix_row mark
    → IsTrue (reg_fits (infixed other a b)) → infix_row mark < reg_row m
    → reg_tokens (infixed other a b) ++ m ≡ reg_tokens left ++ infix_token mark ∷ ts
    → ((n : List Token) → infix_row mark < reg_row n → reg_tokens a ++ n ≡ reg_tokens left ++ infix_token mark ∷ ts → Spine mark left a ts)
    → Spine mark left (infixed other a b) ts
along mark other left a b m ts fl low fs stop e on =
    let o = infixed-parts other a b fs in
    let n : List Token = infix_token other ∷ (reg_tokens b ++ m) in
    let e' : reg_tokens a ++ n ≡ reg_tokens left ++ infix_token mark ∷ ts
    = sym (append_assoc (reg_tokens a) (infix_token other ∷ reg_tokens b) m) ∙ (ap (λ xs. xs ++ m) (sym (infixed-tokens other a b)) ∙ e) in
    let row : reg_row n ≡ infix_row other = sign_row other (reg_tokens b ++ m) in
    let deep = (infixed-is other a b).nesting in
    let wide = (infixed-is other a b).parens in
    elim (cases_lt (infix_row mark) (infix_row other)) [
      | inl less ↦ widened mark left a (infixed other a b) ts (on n (omega (arith, row, less)) e') (omega (arith, deep)) (omega (arith, wide))
      | inr above ↦ elim (cases_lt (infix_row other) (infix_row mark)) [
        | inl more ↦ too_low mark left (infixed other a b) m ts fl low fs (omega (arith, (infixed-is other a b).form, more)) stop e
        | inr same' ↦
            let same : infix_row other ≡ infix_row mark = omega (arith, above, same') in
            let q = left_is mark left a n ts fl low o.2 (omega (arith, o.0, same)) (omega (arith, row, same)) e' in
            let l : reg_nesting a ≡ reg_nesting left = ap reg_nesting q.0 in
            record {
              right = b;
              rest = m;
              grammatical = o.3;
              row = omega (arith, o.1, same);
              stops = stop;
              spelled = tail_once (infix_token other) (infix_token mark) (reg_tokens b ++ m) ts q.1;
              below = omega (arith, deep);
              left_below = omega (arith, deep, l);
              narrow = omega (arith, wide);
            }
      ]
    ]
  where
    tail_once : (t u : Token) (ts us : List Token) → t ∷ ts ≡ u ∷ us → ts ≡ us
    tail_once t u ts us e = cc

-- along a postfixed formula
under : (mark : Infix) (post : Repeat) (left a : RegSyntax) (m ts : List Token) → IsTrue (reg_fits left) → reg_form left < infix_row mark
    → IsTrue (reg_fits (repeated post a)) → reg_form (repeated post a) ≡ 5
    → reg_nesting (repeated post a) ≡ 1 + reg_nesting a → reg_parens (repeated post a) ≡ reg_parens a
    → reg_tokens (repeated post a) ≡ reg_tokens a ++ repeat_token post ∷ []
    → infix_row mark < reg_row m → reg_tokens (repeated post a) ++ m ≡ reg_tokens left ++ infix_token mark ∷ ts
    → ((n : List Token) → infix_row mark < reg_row n → reg_tokens a ++ n ≡ reg_tokens left ++ infix_token mark ∷ ts → Spine mark left a ts)
    → Spine mark left (repeated post a) ts
under mark post left a m ts fl low fs form deep wide tokens stop e on =
    elim (not_postfix mark) [
      | inl less ↦
          let e' : reg_tokens a ++ repeat_token post ∷ m ≡ reg_tokens left ++ infix_token mark ∷ ts
          = sym (append_assoc (reg_tokens a) (repeat_token post ∷ []) m) ∙ (ap (λ xs. xs ++ m) (sym tokens) ∙ e) in
          widened mark left a (repeated post a) ts (on (repeat_token post ∷ m) (omega (arith, repeat_row post m, less)) e') (omega (arith, deep))
          (omega (arith, wide))
      | inr more ↦ too_low mark left (repeated post a) m ts fl low fs (omega (arith, form, more)) stop e
    ]

-- A formula that begins with the tokens of a left operand and its sign has a right operand after the sign, and both lie below the sign.
pub spine : (mark : Infix) (left s : RegSyntax) (m ts : List Token) → IsTrue (reg_fits left) → reg_form left < infix_row mark → IsTrue (reg_fits s)
    → infix_row mark < reg_row m
    → reg_tokens s ++ m ≡ reg_tokens left ++ infix_token mark ∷ ts → Spine mark left s ts
spine mark left (And' a b) m ts fl low fs stop e = along mark sign.And left a b m ts fl low fs stop e
    (λ n h f. spine mark left a n ts fl low (infixed-parts sign.And a b fs).2 h f)
spine mark left (Or' a b) m ts fl low fs stop e = along mark sign.Or left a b m ts fl low fs stop e
    (λ n h f. spine mark left a n ts fl low (infixed-parts sign.Or a b fs).2 h f)
spine mark left (Implies' a b) m ts fl low fs stop e = along mark sign.Implies left a b m ts fl low fs stop e
    (λ n h f. spine mark left a n ts fl low (infixed-parts sign.Implies a b fs).2 h f)
spine mark left (Then' a b) m ts fl low fs stop e = along mark sign.Then left a b m ts fl low fs stop e
    (λ n h f. spine mark left a n ts fl low (infixed-parts sign.Then a b fs).2 h f)
spine mark left (Either' a b) m ts fl low fs stop e = along mark sign.Either left a b m ts fl low fs stop e
    (λ n h f. spine mark left a n ts fl low (infixed-parts sign.Either a b fs).2 h f)
spine mark left (Star' a) m ts fl low fs stop e = under mark repeat.Star left a m ts fl low fs refl refl refl refl stop e
    (λ n h f. spine mark left a n ts fl low (and_parts _ _ fs).1 h f)
spine mark left (Plus' a) m ts fl low fs stop e = under mark repeat.Plus left a m ts fl low fs refl refl refl refl stop e
    (λ n h f. spine mark left a n ts fl low (and_parts _ _ fs).1 h f)
spine mark left s m ts fl low fs stop e = too_low mark left s m ts fl low fs (omega (arith, sign_high mark)) stop e

-- what follows a postfix sign after a formula that another one begins with
pub record Postfixed (left s : RegSyntax) (ts : List Token) : Type 0 where
  pub left_below : reg_nesting left + 1 ≤ reg_nesting s
  pub stops : 5 ≤ reg_row ts

grown : (left post s : RegSyntax) (m ts : List Token) → reg_nesting left + 1 ≤ reg_nesting post → 5 < reg_row m
    → more 5 (reg_read (reg_size left + reg_size s)) post ts ≡ Some (s, m) → Postfixed left s ts
grown left post s m ts deep stop e = let g = more_grows (reg_read (reg_size left + reg_size s)) post s ts m (stops_at 5 m stop) e
    in record { left_below = omega (arith, g.0, deep); stops = row_above 4 ts (omega arith) g.1 }

low_postfix : (mark : Repeat) (left s : RegSyntax) (m ts : List Token) → IsTrue (reg_fits left) → reg_form left ≤ 5 → IsTrue (reg_fits s) → reg_form s ≤ 5
    → 5 < reg_row m
    → reg_tokens s ++ m ≡ reg_tokens left ++ repeat_token mark ∷ ts → Postfixed left s ts
low_postfix repeat.Star left s m ts fl low fs lows stop e =
    grown left (Star' left) s m ts (omega arith) stop (postfix_found left s (StarSign ∷ ts) m fl fs low lows refl (stops_at 5 m stop) e)
low_postfix repeat.Plus left s m ts fl low fs lows stop e =
    grown left (Plus' left) s m ts (omega arith) stop (postfix_found left s (PlusSign ∷ ts) m fl fs low lows refl (stops_at 5 m stop) e)

-- A formula that begins with the tokens of one and a postfix sign is deeper than that one, and no sign of action formulas follows the postfix sign.
pub postfix_spine : (mark : Repeat) (left s : RegSyntax) (m ts : List Token) → IsTrue (reg_fits left) → reg_form left ≤ 5 → IsTrue (reg_fits s) → 5 < reg_row m
    → reg_tokens s ++ m ≡ reg_tokens left ++ repeat_token mark ∷ ts → Postfixed left s ts
postfix_spine mark left (Then' a b) m ts fl low fs stop e =
    let p = postfix_spine mark left a (Dot ∷ (reg_tokens b ++ m)) ts fl low (infixed-parts sign.Then a b fs).2 (omega arith)
    (sym (append_assoc (reg_tokens a) (Dot ∷ reg_tokens b) m) ∙ e) in
    record { left_below = omega (arith, p.left_below); stops = p.stops }
postfix_spine mark left (Either' a b) m ts fl low fs stop e =
    let p = postfix_spine mark left a (ChoiceSign ∷ (reg_tokens b ++ m)) ts fl low (infixed-parts sign.Either a b fs).2 (omega arith)
    (sym (append_assoc (reg_tokens a) (ChoiceSign ∷ reg_tokens b) m) ∙ e) in
    record { left_below = omega (arith, p.left_below); stops = p.stops }
postfix_spine mark left s m ts fl low fs stop e = low_postfix mark left s m ts fl low fs (omega arith) stop e
