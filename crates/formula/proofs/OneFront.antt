-- The longest front of tokens that formulas within the limits begin with is one.
use Rattle.std.specs.Prelude.{◌≡◌, ◌⊎◌, ℕ, List, [], ◌∷◌, ◌++◌, length, IsTrue, Some, slice_get, refl}
use Rattle.std.proofs.Common.{sym, ◌∙◌, ap, subst, append_assoc, append-nil, inl, inr}
use Rattle.grammar.specs.Token.{Token, Segment, tokens_of, offsets_from}
use Rattle.grammar.specs.Syntax.{Syntax, tokens, fits, is_within_limits}
use Rattle.formula.specs.Fault.{BeginsFormula, BeginsWithin, IsTokens, GrammarFault}
use Rattle.formula.specs.Spells.{IsWritten}
use Rattle.formula.specs.declared.error.FormulaFault.{FormulaFault}
use Rattle.formula.specs.declared.error.FormulaFault.TheVariants as fault
use Rattle.grammar.proofs.RegularUnique.{some_once}
use Rattle.formula.proofs.Pieces.{heads_same, same_tokens}
use Rattle.formula.proofs.OneCut.{same_offsets}

-- the front cannot grow by the next token
abbrev Stuck : (List Token → Type 0) → List Token → List Token → Type 0
Stuck P front back = (t : Token) (more : List Token) → back ≡ t ∷ more → P (front ++ t ∷ []) → ⊥

-- it can, where another front is longer
grows : (P : List Token → Type 0) → ((xs ys : List Token) → P (xs ++ ys) → P xs) → (back back' front' : List Token) (t : Token) → P (t ∷ front')
    → Stuck P [] back → back ≡ t ∷ (front' ++ back') → ⊥
grows P closed back back' front' t holds stuck e = stuck t (front' ++ back') e (closed (t ∷ []) front' holds)

one_front : (P : List Token → Type 0) → ((xs ys : List Token) → P (xs ++ ys) → P xs) → (front front' back back' : List Token) → P front → P front'
    → Stuck P front back → Stuck P front' back'
    → front ++ back ≡ front' ++ back' → (front ≡ front') × (back ≡ back')
one_front P closed [] [] back back' h k stuck stuck' e = (refl, e)
one_front P closed [] (t ∷ front') back back' h k stuck stuck' e = absurd (grows P closed back back' front' t k stuck e)
one_front P closed (t ∷ front) [] back back' h k stuck stuck' e = absurd (grows P closed back' back front t h stuck' (sym e))
one_front P closed (t ∷ front) (u ∷ front') back back' h k stuck stuck' e =
    let same = heads_same t u (front ++ back) (front' ++ back') e in
    let Q : List Token → Type 0 = λ ts. P (t ∷ ts) in
    let other : Q front' = subst (λ (v : Token). P (v ∷ front')) (sym same.0) k in
    let others : Stuck Q front' back' = subst (λ (v : Token). Stuck (λ ts. P (v ∷ ts)) front' back') (sym same.0) stuck' in
    let w = one_front Q (λ xs ys. closed (t ∷ xs) ys) front front' back back' h other stuck others same.1 in
    (λ i. same.0 i ∷ w.0 i, w.1)

within_closed : (xs ys : List Token) → BeginsWithin (xs ++ ys) → BeginsWithin xs
within_closed xs ys (s, more, fit, small, e) = (s, ys ++ more, fit, small, e ∙ append_assoc xs ys more)

-- whether no formula begins with these tokens, or none within the limits
abbrev Kind : List Token → FormulaFault → Type 0
Kind front f = ((f ≡ fault.Unexpected) × (BeginsFormula front → ⊥)) ⊎ ((f ≡ fault.TooLarge) × BeginsFormula front)

-- why the grammar stops at this front of the tokens
abbrev Reason : List ℕ → List ℕ → List Token → List Token → FormulaFault → ℕ → Type 0
Reason text offsets front back f place =
    ((back ≡ []) × (f ≡ fault.Unfinished) × (place ≡ length text) × ((s : Syntax) → IsTrue (fits s) → tokens s ≡ front → ⊥))
    ⊎ ((t : Token) × (more : List Token) × (back ≡ t ∷ more) × (BeginsWithin (front ++ t ∷ []) → ⊥) × (slice_get offsets (length front) ≡ Some place)
    × Kind (front ++ t ∷ []) f)

-- the tokens are those of a formula up to here and no further
record Stop (text : List ℕ) (f : FormulaFault) (place : ℕ) : Type 0 where
  pieces : List Segment
  front : List Token
  back : List Token
  whole : IsTokens text pieces
  split : tokens_of pieces ≡ front ++ back
  begun : BeginsWithin front
  why : Reason text (offsets_from 0 pieces) front back f place

begins_within : (front : List Token) → (BeginsFormula front → ⊥) → BeginsWithin front → ⊥
begins_within front none (s, more, fit, small, e) = none (s, more, fit, e)

stop : (text : List ℕ) (f : FormulaFault) (place : ℕ) → GrammarFault text f place → Stop text f place
stop text fault.Unexpected place (pieces, front, back, t, whole, split, begun, none, there) =
    record {
      pieces = pieces;
      front = front;
      back = t ∷ back;
      whole = whole;
      split = split;
      begun = begun;
      why = inr (t, back, refl, begins_within (front ++ t ∷ []) none, there, inl (refl, none));
    }
stop text fault.TooLarge place (pieces, front, back, t, whole, split, begun, some, none, there) =
    record {
      pieces = pieces;
      front = front;
      back = t ∷ back;
      whole = whole;
      split = split;
      begun = begun;
      why = inr (t, back, refl, none, there, inr (refl, some));
    }
stop text fault.Unfinished place (pieces, whole, begun, none, there) =
    record {
      pieces = pieces;
      front = tokens_of pieces;
      back = [];
      whole = whole;
      split = sym (append-nil (tokens_of pieces));
      begun = begun;
      why = inl (refl, refl, there, none);
    }
stop text _ place h = absurd h

stuck : (text offsets : List ℕ) (front back : List Token) (f : FormulaFault) (place : ℕ) → Reason text offsets front back f place
    → Stuck BeginsWithin front back
stuck text offsets front back f place (inl a) t more e h = cc
stuck text offsets front back f place (inr a) t more e h =
    let same = heads_same a.0 t a.1 more (sym a.2 ∙ e) in
    a.3 (subst (λ (u : Token). BeginsWithin (front ++ u ∷ [])) (sym same.0) h)

one_kind : (front : List Token) (f g : FormulaFault) → Kind front f → Kind front g → f ≡ g
one_kind front f g (inl a) (inl b) = a.0 ∙ sym b.0
one_kind front f g (inr a) (inr b) = a.0 ∙ sym b.0
one_kind front f g (inl a) (inr b) = absurd (a.1 b.1)
one_kind front f g (inr a) (inl b) = absurd (b.1 a.1)

one_reason : (text offsets : List ℕ) (front back : List Token) (f g : FormulaFault) (p q : ℕ) → Reason text offsets front back f p
    → Reason text offsets front back g q → (f ≡ g) × (p ≡ q)
one_reason text offsets front back f g p q (inl a) (inl b) = (a.1 ∙ sym b.1, a.2 ∙ sym b.2)
one_reason text offsets front back f g p q (inl a) (inr b) = let e : [] ≡ b.0 ∷ b.1 = sym a.0 ∙ b.2 in cc
one_reason text offsets front back f g p q (inr a) (inl b) = let e : [] ≡ a.0 ∷ a.1 = sym b.0 ∙ a.2 in cc
one_reason text offsets front back f g p q (inr a) (inr b) =
    let same = heads_same a.0 b.0 a.1 b.1 (sym a.2 ∙ b.2) in
    let kind = subst (λ (u : Token). Kind (front ++ u ∷ []) g) (sym same.0) b.5 in
    (one_kind (front ++ a.0 ∷ []) f g a.5 kind, some_once p q (sym a.4 ∙ b.4))

-- A text has one fault of the grammar at most.
pub one_grammar_fault : (text : List ℕ) (f g : FormulaFault) (p q : ℕ) → GrammarFault text f p → GrammarFault text g q → (f ≡ g) × (p ≡ q)
one_grammar_fault text f g p q a b =
    let x = stop text f p a in
    let y = stop text g q b in
    let xs = x.pieces in
    let ys = y.pieces in
    let joined = sym x.whole.joined ∙ y.whole.joined in
    let words = same_tokens xs ys x.whole.cut y.whole.cut x.whole.decided y.whole.decided joined in
    let offsets = same_offsets xs ys x.whole.cut y.whole.cut joined in
    let same = one_front BeginsWithin within_closed x.front y.front x.back y.back x.begun y.begun (stuck text (offsets_from 0 xs) x.front x.back f p x.why)
    (stuck text (offsets_from 0 ys) y.front y.back g q y.why)
    (sym x.split ∙ words ∙ y.split) in
    let other : Reason text (offsets_from 0 xs) x.front x.back g q =
    subst (λ (os : List ℕ). Reason text os x.front x.back g q) (sym offsets)
    (subst (λ (front : List Token). Reason text (offsets_from 0 ys) front x.back g q) (sym same.0)
    (subst (λ (back : List Token). Reason text (offsets_from 0 ys) y.front back g q) (sym same.1) y.why)) in
    one_reason text (offsets_from 0 xs) x.front x.back f g p q x.why other

goes_on : (text offsets : List ℕ) (front back : List Token) (f : FormulaFault) (place : ℕ) (s : Syntax) → Reason text offsets front back f place
    → IsTrue (fits s) → IsTrue (is_within_limits s) → tokens s ≡ front ++ back → ⊥
goes_on text offsets front back f place s (inl a) fit small e = a.3 s fit (e ∙ ap (λ ts. front ++ ts) a.0 ∙ append-nil front)
goes_on text offsets front back f place s (inr a) fit small e =
    a.3 (s, a.1, fit, small, e ∙ ap (λ ts. front ++ ts) a.2 ∙ sym (append_assoc front (a.0 ∷ []) a.1))

-- A text that is written as a formula within the limits has no fault of the grammar.
pub no_grammar_fault : (text : List ℕ) (pieces : List Segment) (s : Syntax) (f : FormulaFault) (place : ℕ) → IsWritten text pieces s
    → IsTrue (is_within_limits s) → GrammarFault text f place → ⊥
no_grammar_fault text pieces s f place w small h =
    let x = stop text f place h in
    let words = same_tokens pieces x.pieces w.cut x.whole.cut w.decided x.whole.decided (sym w.joined ∙ x.whole.joined) in
    goes_on text (offsets_from 0 x.pieces) x.front x.back f place s x.why w.grammatical small (sym w.spelled ∙ words ∙ x.split)

pub grammar_tokens : (text : List ℕ) (f : FormulaFault) (place : ℕ) → GrammarFault text f place → (pieces : List Segment) × IsTokens text pieces
grammar_tokens text f place h = let x = stop text f place h in (x.pieces, x.whole)
