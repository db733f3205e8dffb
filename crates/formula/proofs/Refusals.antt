-- What a refusal says of its text.
use Rattle.std.specs.Prelude.{◌≡◌, ℕ, nat_le, ◌+◌, ◌-◌, ◌<◌, ◌≤◌, ◌⊎◌, List, [], ◌∷◌, ◌++◌, length, map, drop, take, Some, suc, slice_get, IsTrue, Result, Ok}
use Rattle.std.specs.Prelude.{Err, IfOk, IfErr, MatchResult}
use Rattle.std.proofs.Common.{arith, refl, sym, ◌∙◌, ap, subst, append-nil, append_assoc, length-append, true≢false, inl, inr}
use Rattle.std.specs.List.{list_any}
use Rattle.std.proofs.lemmas.Bool.{leb-true, and_parts}
use Rattle.std.proofs.lemmas.Result.{IfOk-weaker}
use Rattle.text.specs.Reads.{Reads}
use Rattle.text.proofs.Promised.{AreLaws, keeps}
use Rattle.grammar.specs.Token.{Token, is_reserved}
use Rattle.calculus.specs.Tree.{Formula}
use Rattle.grammar.specs.Syntax.{Syntax, meant, tokens, nesting, parens, is_within_limits}
use Rattle.formula.specs.Spells.{IsWritten, Spells, SpellsWithin}
use Rattle.calculus.specs.Admitted.{IsAdmitted}
use Rattle.formula.specs.Fault.{BeginsWithin, IsTokens, HasFormulaFaultAt, operand_faults, variable_faults}
use Rattle.calculus.specs.View.{formula_of}
use Rattle.grammar.specs.Written.{bare_tokens, state_syntax}
use Rattle.formula.specs.Cutting.{IsLexed, IsTokenRefusal}
use Rattle.grammar.specs.Read.{IsWholeFormula, IsReadState, state_tokens, state_row}
use Rattle.formula.specs.Refused.{IsGrammarRefusal, IsRefusal}
use Rattle.grammar.specs.Misread.{BeginsState, StandsState, Within, SpellsTokens, IsStateMisread, IsWholeMisread}
use Rattle.formula.specs.Checked.{IsTreeRefusal, IsTold, formula_fault_of, is_variable_fault}
use Rattle.calculus.specs.Closed.{closed_formula}
use Rattle.grammar.specs.declared.limits.TheConstants.{LONGEST_TEXT, DEEPEST, MOST_PARENS}
use Rattle.calculus.specs.declared.closed.Closed.{Closed}
use Rattle.grammar.specs.declared.token.Placed.{Placed}
use Rattle.formula.specs.declared.scope.Misplaced.{Misplaced}
use Rattle.grammar.specs.declared.state.ReadState.{ReadState}
use Rattle.calculus.specs.declared.tree.State.{State}
use Rattle.grammar.specs.declared.misread.Misread.{Misread}
use Rattle.grammar.specs.declared.misread.Misread.TheVariants as misread
use Rattle.formula.specs.declared.error.FormulaFault.{FormulaFault}
use Rattle.formula.specs.declared.error.FormulaFault.TheVariants as fault
use Rattle.formula.specs.declared.error.FormulaError.{FormulaError}
use Rattle.formula.specs.declared.error.FormulaError.TheVariants as refused
use Rattle.grammar.proofs.Regulars.{all_true, le_true}
use Rattle.grammar.proofs.Unambiguous.{any_formula}
use Rattle.formula.proofs.Tokenless.{free_words}
use Rattle.grammar.proofs.Misreads.{Parts, IsPlace, misread-within}
use Rattle.grammar.proofs.StateSpine.{Standing, one-state}
use Rattle.grammar.proofs.StateEnds.{begun-by, same-row}
use Rattle.grammar.proofs.RegularRefusals.{words-length}
use Rattle.formula.proofs.Sense.{admitted_in}
use Rattle.formula.proofs.OneText.{one_formula, no_fault, one_fault}

first_is : {A : Type 0} (xs : List A) (x : A) → slice_get xs 0 ≡ Some x → xs ≡ x ∷ drop 1 xs
first_is [] x e = cc
first_is (y ∷ ys) x e = cc

pub operand-refused : (s : Syntax) (places : List ℕ) (place : ℕ) (e : FormulaError) → slice_get (operand_faults 0 s) 0 ≡ Some place
    → IsRefusal fault.NotAnAction (slice_get places place) e
    → IsTreeRefusal s places e
operand-refused s places place (refused.Fault other offset) h r =
    subst (λ (f : FormulaFault). IsTreeRefusal s places (refused.Fault f offset)) (sym r.0) (place, drop 1 (operand_faults 0 s), first_is _ _ h, r.1)
operand-refused s places place refused.Memory h r = absurd r

variable-refusal : (s : Syntax) (places : List ℕ) (f : FormulaFault) (place offset : ℕ) → operand_faults 0 s ≡ []
    → slice_get (variable_faults [] 0 s) 0 ≡ Some (place, f)
    → IsTrue (is_variable_fault f) → slice_get places place ≡ Some offset → IsTreeRefusal s places (refused.Fault f offset)
variable-refusal s places fault.Unbound place offset none h v p = (place, drop 1 (variable_faults [] 0 s), none, first_is _ _ h, p)
variable-refusal s places fault.OddNegations place offset none h v p = (place, drop 1 (variable_faults [] 0 s), none, first_is _ _ h, p)
variable-refusal s places fault.NotAnAction place offset none h v p = absurd (true≢false (sym v))
variable-refusal s places _ place offset none h v p = absurd (true≢false (sym v))

pub variable-refused : (s : Syntax) (places : List ℕ) (found : Misplaced) (e : FormulaError) → operand_faults 0 s ≡ []
    → slice_get (variable_faults [] 0 s) 0 ≡ Some (found.place, found.fault)
    → IsTrue (is_variable_fault found.fault) → IsRefusal found.fault (slice_get places found.place) e → IsTreeRefusal s places e
variable-refused s places found (refused.Fault other offset) none h v r =
    subst (λ (f : FormulaFault). IsTreeRefusal s places (refused.Fault f offset)) (sym r.0)
    (variable-refusal s places found.fault found.place offset none h v r.1)
variable-refused s places found refused.Memory none h v r = absurd r

-- a formula that is the tokens stands at their front, and nothing is after it
whole_in : (ts : List Token) → Parts SpellsTokens (StandsState 3) DEEPEST MOST_PARENS DEEPEST MOST_PARENS ts ts
whole_in ts nested opened x = (
  nested,
  opened,
  record {
    syntax = x.syntax;
    rest = [];
    grammatical = x.grammatical;
    row = any_formula x.syntax;
    nests = x.nests;
    opens = x.opens;
    stops = omega arith;
    reaches = λ e. omega arith;
    spelled = append-nil (tokens x.syntax) ∙ x.spelled;
  },
  λ h. h,
  λ h. h,
)

whole_place : IsPlace (BeginsState 3) SpellsTokens (BeginsState 3) (StandsState 3) DEEPEST MOST_PARENS DEEPEST MOST_PARENS []
whole_place = record { outward = λ ts nested opened b. (nested, opened, b, λ h. h, λ h. h); inward = whole_in }

-- where no formula stands at the front, the tokens are none
pub whole-misread : (ts : List Token) (e : Misread) → IsStateMisread 3 DEEPEST MOST_PARENS ts e → IsWholeMisread ts e
whole-misread ts e h = misread-within (BeginsState 3) SpellsTokens (BeginsState 3) (StandsState 3) DEEPEST MOST_PARENS DEEPEST MOST_PARENS [] ts e whole_place h

not_over : (back more : List Token) → 0 < length back → [] ≡ take 1 back ++ more → ⊥
not_over [] more h e = absurd (omega (arith, h))
not_over (t ∷ back) more h e = absurd (omega (arith, ap length e))

-- After a whole formula a token is left.
pub left-over : (s : ReadState) (ts : List Token) (e : Misread) → IsReadState 3 DEEPEST MOST_PARENS s → 3 < state_row (bare_tokens s.rest.now) → state_tokens s ≡ ts
    → 0 < length s.rest.now
    → e ≡ misread.Unexpected (length s.rest.now) → IsWholeMisread ts e
left-over s ts e is stops eaten some at =
    let f : Syntax = state_syntax s.syntax.value in
    let back : List Token = bare_tokens s.rest.now in
    let count : length back ≡ length s.rest.now = words-length s.rest.now in
    let height = is.height in
    let low = is.low in
    subst (λ (m : Misread). IsWholeMisread ts m) (sym (at ∙ ap misread.Unexpected (sym count))) (record {
      front = tokens f;
      back = back;
      joined = sym eaten;
      place = refl;
      begun = begun-by 3 DEEPEST MOST_PARENS f (tokens f) [] is.grammatical is.row (omega arith) is.narrow (sym (append-nil (tokens f)));
      none = λ nested opened more stop x.
          let row : state_row (take 1 back ++ more) ≡ state_row back = same-row back more stop in
          let own = any_formula x.syntax in
          let his = any_formula f in
          let inner : Standing x.syntax [] = record { grammatical = x.grammatical; ended = omega arith; reaches = λ b. omega arith } in
          let outer : Standing f (take 1 back ++ more) = record { grammatical = is.grammatical; ended = omega arith; reaches = λ b. omega arith } in
          let p = one-state 3 x.syntax f [] (take 1 back ++ more) inner outer (any_formula x.syntax) (any_formula f) (omega arith) (omega arith)
          (append-nil (tokens x.syntax) ∙ x.spelled) in
          not_over back more (omega arith) p.1;
    })

within_limits : (front : List Token) → Within (BeginsState 3) DEEPEST MOST_PARENS front → BeginsWithin front
within_limits front w =
    let low : nesting w.it.syntax ≤ DEEPEST = omega (arith, w.it.nests, w.low) in
    let narrow : parens w.it.syntax ≤ MOST_PARENS = omega (arith, w.it.opens, w.narrow) in
    (w.it.syntax, w.it.more, w.it.grammatical, all_true _ _ (le_true _ _ low) (le_true _ _ narrow), w.it.spelled)

split_limits : (s : Syntax) → IsTrue (is_within_limits s) → (nesting s ≤ DEEPEST) × (parens s ≤ MOST_PARENS)
split_limits s h = let o = and_parts (nat_le (nesting s) DEEPEST) (nat_le (parens s) MOST_PARENS) h
    in (leb-true (nesting s) DEEPEST o.0, leb-true (parens s) MOST_PARENS o.1)

first_of : (back : List Token) → 0 < length back → (token : Token) × (others : List Token) × (back ≡ token ∷ others)
first_of [] h = absurd (omega (arith, h))
first_of (token ∷ others) h = (token, others, refl)

no_more : (back : List Token) → 0 ≡ length back → back ≡ []
no_more [] e = refl
no_more (token ∷ others) e = absurd (omega (arith, e))

pub unfinished : (ts : List Token) (places : List ℕ) (end : ℕ) → IsWholeMisread ts (misread.Unexpected 0)
    → IsGrammarRefusal ts places end (refused.Fault fault.Unfinished end)
unfinished ts places end h =
    let none : h.back ≡ [] = no_more h.back h.place in
    let whole : h.front ≡ ts = sym (append-nil h.front) ∙ (ap (λ ts. h.front ++ ts) (sym none) ∙ sym h.joined) in
    let begun : BeginsWithin ts = subst BeginsWithin whole (within_limits h.front h.begun) in (
      begun,
      λ s fit e. h.none (nesting s) (parens s) [] (λ k. refl) (record {
        syntax = s;
        grammatical = fit;
        nests = refl;
        opens = refl;
        spelled = e ∙ (sym whole ∙ (sym (append-nil h.front) ∙ ap (λ ts. h.front ++ (take 1 ts ++ [])) (sym none)));
      }),
      refl,
    )

-- the token with which no formula begins
unexpected_at : (ts : List Token) (places : List ℕ) (end left offset : ℕ) → IsWholeMisread ts (misread.Unexpected left) → 0 < left
    → slice_get places (length ts - left) ≡ Some offset
    → IsGrammarRefusal ts places end (refused.Fault fault.Unexpected offset)
unexpected_at ts places end left offset h some at =
    let place = h.place in
    let first = first_of h.back (omega arith) in
    let size : length ts ≡ length h.front + length h.back = ap length h.joined ∙ length-append h.front h.back in
    let here : length ts - left ≡ length h.front = omega arith in
    let one : take 1 h.back ≡ first.0 ∷ [] = ap (take 1) first.2 in (
      h.front,
      first.1,
      first.0,
      h.joined ∙ ap (λ ts. h.front ++ ts) first.2,
      within_limits h.front h.begun,
      λ b. h.none (nesting b.0) (parens b.0) b.1 (λ none. absurd (omega (arith, ap length none))) (record {
        syntax = b.0;
        grammatical = b.2;
        nests = refl;
        opens = refl;
        spelled = b.3 ∙ (append_assoc h.front (first.0 ∷ []) b.1 ∙ ap (λ ts. h.front ++ (ts ++ b.1)) (sym one));
      }),
      ap (slice_get places) (sym here) ∙ at,
    )

pub unexpected : (ts : List Token) (places : List ℕ) (end left : ℕ) (e : FormulaError) → IsWholeMisread ts (misread.Unexpected left) → 0 < left
    → IsRefusal fault.Unexpected (slice_get places (length ts - left)) e → IsGrammarRefusal ts places end e
unexpected ts places end left (refused.Fault other offset) h some r =
    subst (λ (f : FormulaFault). IsGrammarRefusal ts places end (refused.Fault f offset)) (sym r.0) (unexpected_at ts places end left offset h some r.1)
unexpected ts places end left refused.Memory h some r = tt

-- the token with which no formula within the limits begins
too_large_at : (ts : List Token) (places : List ℕ) (end left offset : ℕ) → IsWholeMisread ts (misread.TooLarge left)
    → slice_get places (length ts - left) ≡ Some offset
    → IsGrammarRefusal ts places end (refused.Fault fault.TooLarge offset)
too_large_at ts places end left offset h at =
    let place = h.place in
    let size : length ts ≡ length h.front + suc (length h.back) = ap length h.joined ∙ length-append h.front (h.token ∷ h.back) in
    let here : length ts - left ≡ length h.front = omega arith in
    let on = h.goes_on in (
      h.front,
      h.back,
      h.token,
      h.joined,
      within_limits h.front h.begun,
      (on.2.syntax, on.2.more, on.2.grammatical, on.2.spelled),
      λ b.
          let limits = split_limits b.0 b.3 in
          h.none b.1 (record {
            nested = nesting b.0;
            opened = parens b.0;
            it = record { syntax = b.0; grammatical = b.2; nests = refl; opens = refl; spelled = b.4 ∙ append_assoc h.front (h.token ∷ []) b.1 };
            low = limits.0;
            narrow = limits.1;
          }),
      ap (slice_get places) (sym here) ∙ at,
    )

pub too-large : (ts : List Token) (places : List ℕ) (end left : ℕ) (e : FormulaError) → IsWholeMisread ts (misread.TooLarge left)
    → IsRefusal fault.TooLarge (slice_get places (length ts - left)) e → IsGrammarRefusal ts places end e
too-large ts places end left (refused.Fault other offset) h r =
    subst (λ (f : FormulaFault). IsGrammarRefusal ts places end (refused.Fault f offset)) (sym r.0) (too_large_at ts places end left offset h r.1)
too-large ts places end left refused.Memory h r = tt

pub token-told : (text : List ℕ) (e : FormulaError) → length text ≤ LONGEST_TEXT → IsTokenRefusal text e → IsTold text e
token-told text (refused.Fault f offset) short r = inr (short, inl r)
token-told text refused.Memory short r = tt

-- the pieces of a text that was cut into tokens, none of which is reserved
lexed_tokens : (text : List ℕ) (placed : List Placed) (l : IsLexed text placed) → IsTokens text l.pieces
lexed_tokens text placed l = record { joined = l.joined; cut = l.cut; decided = l.decided; free = ap (list_any is_reserved) l.spelled ∙ free_words placed }

pub grammar-told : (text : List ℕ) (placed : List Placed) (e : FormulaError) → length text ≤ LONGEST_TEXT → IsLexed text placed
    → IsGrammarRefusal (bare_tokens placed) (map (λ p. p.offset) placed) (length text) e → IsTold text e
grammar-told text placed (refused.Fault fault.Unexpected offset) short l r =
    inr (
      short,
      inr (inl (
        l.pieces,
        r.0,
        r.1,
        r.2,
        lexed_tokens text placed l,
        l.spelled
            ∙ r.3,
        r.4,
        r.5,
        ap (λ places. slice_get places (length r.0)) l.places ∙ r.6,
      )),
    )
grammar-told text placed (refused.Fault fault.TooLarge offset) short l r =
    inr (
      short,
      inr (inl (
        l.pieces,
        r.0,
        r.1,
        r.2,
        lexed_tokens text placed l,
        l.spelled
            ∙ r.3,
        r.4,
        r.5,
        r.6,
        ap (λ places. slice_get places (length r.0)) l.places ∙ r.7,
      )),
    )
grammar-told text placed (refused.Fault fault.Unfinished offset) short l r =
    inr (short, inr (inl (l.pieces, lexed_tokens text placed l, subst BeginsWithin (sym l.spelled) r.0, λ s fit e. r.1 s fit (e ∙ l.spelled), r.2)))
grammar-told text placed (refused.Fault _ offset) short l r = absurd r
grammar-told text placed refused.Memory short l r = tt

pub written-as : (text : List ℕ) (placed : List Placed) (s : Syntax) (l : IsLexed text placed) → IsWholeFormula s (bare_tokens placed) → IsWritten text l.pieces s
written-as text placed s l w = record { joined = l.joined; cut = l.cut; decided = l.decided; spelled = l.spelled ∙ sym w.spelled; grammatical = w.grammatical }

pub spelled-within : (text : List ℕ) (placed : List Placed) (s : Syntax) (f : Formula) → length text ≤ LONGEST_TEXT → IsLexed text placed
    → IsWholeFormula s (bare_tokens placed) → meant s ≡ Some f → SpellsWithin text f
spelled-within text placed s f short l w m =
    record { pieces = l.pieces; syntax = s; written = written-as text placed s l w; stands_for = m; within = w.within; short = short }

pub tree-told : (text : List ℕ) (placed : List Placed) (s : Syntax) (e : FormulaError) → length text ≤ LONGEST_TEXT → IsLexed text placed
    → IsWholeFormula s (bare_tokens placed)
    → IsTreeRefusal s (map (λ p. p.offset) placed) e → IsTold text e
tree-told text placed s (refused.Fault fault.NotAnAction offset) short l w r =
    inr (short, inr (inr (l.pieces, s, r.0, r.1, written-as text placed s l w, w.within, r.2, ap (λ places. slice_get places r.0) l.places ∙ r.3)))
tree-told text placed s (refused.Fault _ offset) short l w r =
    inr (short, inr (inr (l.pieces, s, r.0, r.1, written-as text placed s l w, w.within, r.2, r.3, ap (λ places. slice_get places r.0) l.places ∙ r.4)))
tree-told text placed s refused.Memory short l w r = tt

-- what a written formula without faults means is admitted
pub meant-admitted : (s : Syntax) (places : List ℕ) (r : Result State FormulaError) → variable_faults [] 0 s ≡ []
    → MatchResult r (λ f. meant s ≡ Some (formula_of f)) (λ e. e ≡ refused.Memory)
    → MatchResult r (λ f. (meant s ≡ Some (formula_of f)) × IsAdmitted (formula_of f)) (λ e. (e ≡ refused.Memory) ⊎ IsTreeRefusal s places e)
meant-admitted s places (Ok f) none m = (m, admitted_in s [] 0 (formula_of f) none m)
meant-admitted s places (Err e) none m = inl m

-- what a written formula means, or its refusal, is the text's
pub meaning-told : (text : List ℕ) (placed : List Placed) (s : Syntax) (r : Result State FormulaError) → length text ≤ LONGEST_TEXT → IsLexed text placed
    → IsWholeFormula s (bare_tokens placed)
    → MatchResult r (λ f. (meant s ≡ Some (formula_of f)) × IsAdmitted (formula_of f))
    (λ e. (e ≡ refused.Memory) ⊎ IsTreeRefusal s (map (λ p. p.offset) placed) e)
    → MatchResult r (λ f. SpellsWithin text (formula_of f) × IsAdmitted (formula_of f)) (IsTold text)
meaning-told text placed s (Ok f) short l w m = (spelled-within text placed s (formula_of f) short l w m.0, m.1)
meaning-told text placed s (Err e) short l w (inl m) = subst (IsTold text) (sym m) tt
meaning-told text placed s (Err e) short l w (inr r) = tree-told text placed s e short l w r

-- what is spelled within the limits is spelled
pub without_limits : (text : List ℕ) (f : Formula) → SpellsWithin text f → Spells text f
without_limits text f s = record { pieces = s.pieces; syntax = s.syntax; written = s.written; stands_for = s.stands_for }

abbrev IsDue : List ℕ → Formula → Type 0
IsDue text f = SpellsWithin text f × IsAdmitted f

laws : AreLaws Spells IsDue IsDue HasFormulaFaultAt
laws = record {
  one_value = λ text f g a b. one_formula text g f b (without_limits text f a.0);
  no_fault = λ text f told a h. no_fault text f told.0 told.1 a.0 a.1 h;
  none_due = λ text f told a h. no_fault text f told.0 told.1 a.0 a.1 h;
  one_fault = λ text f g h k. let e = one_fault text f.0 g.0 f.1 g.1 h k in λ i. (e.0 i, e.1 i);
}

-- all that the reader promises
pub promised : (text : List ℕ) (r : Result Closed FormulaError) → IfOk r (λ f. IsDue text (closed_formula f)) → IfErr r (IsTold text)
    → Reads Spells SpellsWithin IsDue HasFormulaFaultAt closed_formula formula_fault_of (Some text) r
promised text r due told =
    let k = keeps Spells IsDue IsDue HasFormulaFaultAt closed_formula formula_fault_of laws (Some text) r due told in
    record { spelled = IfOk-weaker r _ _ (λ f d. d.0) due; only = k.only; complete = k.complete; none = k.none; exact = k.exact; fault = k.fault }
