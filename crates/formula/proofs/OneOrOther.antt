-- No text is without both: an admitted formula that it spells within the limits, and a deciding fault.
use Rattle.std.specs.Prelude.{◌≡◌, ℕ, zero, suc, ◌+◌, ◌<◌, ◌≤◌, ◌||◌, List, [], ◌∷◌, ◌++◌, length, IsTrue, IsFalse, IsSome, Option, Some, None, slice_get, refl}
use Rattle.std.specs.List.{list_any, AllByRecursion}
use Rattle.std.proofs.Common.{inl, inr, arith, sym, ◌∙◌, ap, subst, append_assoc, append-nil, true≢false}
use Rattle.std.proofs.lemmas.Bool.Decides.{leb_tells}
use Rattle.std.proofs.lemmas.List.{length-append}
use Rattle.std.proofs.lemmas.List.Folds.{list_any-append}
use Rattle.grammar.specs.declared.limits.TheConstants.{LONGEST_TEXT}
use Rattle.calculus.specs.Tree.{Formula}
use Rattle.grammar.specs.Token.{Token, Reserved, TrueWord, Segment, Word, IsPiece, written_piece, piece_ends, Cuts, text_of, tokens_of, offsets_from, is_reserved}
use Rattle.grammar.specs.Syntax.{Syntax, True', fits, tokens, meant, is_within_limits}
use Rattle.formula.specs.Spells.{IsWritten, SpellsWithin}
use Rattle.calculus.specs.Admitted.{IsAdmitted}
use Rattle.formula.specs.Fault.{NothingBegins, BeginsWithin, IsTokens, TokenFault, GrammarFault, TreeFault, HasFormulaFault, operand_faults, variable_faults}
use Rattle.formula.specs.Checked.{is_variable_fault}
use Rattle.formula.specs.declared.error.FormulaFault.{FormulaFault}
use Rattle.formula.specs.declared.error.FormulaFault.TheVariants as fault
use Rattle.formula.proofs.Cuts.{text_of-append, tokens_of-append, cuts-append}
use Rattle.formula.proofs.Pieces.{some_bytes}
use Rattle.formula.proofs.Sense.{meant_some, admitted_in}
use Rattle.formula.proofs.Beginnings.{begins-within}
use Rattle.formula.proofs.Signs.{settled_tokens}
use Rattle.formula.proofs.Placing.{token_place, operands_below, variables_below}

-- ---- pieces

-- the piece is a reserved word, or is free to be one of more
data Kind (p : Segment) : Type 0 where
  word : (bytes : List ℕ) → p ≡ Word (Reserved bytes) → Kind p
  free : IsFalse (list_any is_reserved (tokens_of (p ∷ []))) → Kind p

kind : (p : Segment) → Kind p
kind (Word (Reserved bytes)) = word bytes refl
kind _ = free refl

-- a piece is not empty
fewer : (p : Segment) (more : List ℕ) → IsPiece p → length more < length (written_piece p ++ more)
fewer p more valid = some (written_piece p) (λ e. some_bytes p [] valid (ap (λ text. text ++ []) e))
  where
    some : (bytes : List ℕ) → (bytes ≡ [] → ⊥) → length more < length (bytes ++ more)
    some [] none = absurd (none refl)
    some (b ∷ bytes) none = omega (arith, length-append bytes more)

-- one more piece
grown_text : (ps : List Segment) (p : Segment) → text_of (ps ++ p ∷ []) ≡ text_of ps ++ written_piece p
grown_text ps p = text_of-append ps (p ∷ []) ∙ ap (λ text. text_of ps ++ text) (append-nil (written_piece p))

grown_cut : (ps : List Segment) (p : Segment) (more : List ℕ) → Cuts ps (written_piece p ++ more) → IsPiece p → IsTrue (piece_ends p more) → Cuts (ps ++ p ∷ []) more
grown_cut ps p more cut valid ends = cuts-append ps (p ∷ []) more (subst (λ (text : List ℕ). Cuts ps (text ++ more)) (sym (append-nil (written_piece p))) cut)
    (valid, ends, tt)

grown_free : (ps : List Segment) (p : Segment) → IsFalse (list_any is_reserved (tokens_of ps)) → IsFalse (list_any is_reserved (tokens_of (p ∷ [])))
    → IsFalse (list_any is_reserved (tokens_of (ps ++ p ∷ [])))
grown_free ps p h k = ap (list_any is_reserved) (tokens_of-append ps (p ∷ []))
    ∙ (list_any-append is_reserved (tokens_of ps) (tokens_of (p ∷ [])) ∙ (λ i. h i || k i))

-- No text is without both: a token fault, and pieces that are all tokens, none reserved.
module _ (text : List ℕ) (faultless : (f : FormulaFault) (place : ℕ) → TokenFault text f place → ⊥) (untold : (ps : List Segment) → IsTokens text ps → ⊥) where
  -- with this piece next, where the text after it cannot be cut on
  cut_one : (ps : List Segment) (rest : List ℕ) (p : Segment) (more : List ℕ) → text ≡ text_of ps ++ rest → Cuts ps rest
      → IsFalse (list_any is_reserved (tokens_of ps)) → IsPiece p → IsTrue (piece_ends p more) → rest ≡ written_piece p ++ more → Kind p
      → (text ≡ text_of (ps ++ p ∷ []) ++ more → Cuts (ps ++ p ∷ []) more → IsFalse (list_any is_reserved (tokens_of (ps ++ p ∷ []))) → ⊥) → ⊥
  cut_one ps rest p more e cut none valid ends is (word bytes same) on =
      let here : rest ≡ bytes ++ more = is ∙ ap (λ q. written_piece q ++ more) same in
      let joined : text ≡ text_of ps ++ (bytes ++ more) = e ∙ ap (λ us. text_of ps ++ us) here in
      let before : Cuts ps (bytes ++ more) = subst (λ (us : List ℕ). Cuts ps us) here cut in
      faultless fault.ReservedWord (length (text_of ps)) (
        ps,
        bytes,
        more,
        joined,
        before,
        none,
        subst IsPiece same valid,
        subst (λ q. IsTrue (piece_ends q more)) same ends,
        refl,
      )
  cut_one ps rest p more e cut none valid ends is (free also) on =
      on (e ∙ (ap (λ us. text_of ps ++ us) is ∙ (sym (append_assoc (text_of ps) (written_piece p) more) ∙ ap (λ us. us ++ more) (sym (grown_text ps p)))))
      (grown_cut ps p more (subst (λ (us : List ℕ). Cuts ps us) is cut) valid ends) (grown_free ps p none also)

  cut_on : (n : ℕ) (ps : List Segment) (rest : List ℕ) → length rest ≤ n → text ≡ text_of ps ++ rest → Cuts ps rest
      → IsFalse (list_any is_reserved (tokens_of ps)) → ⊥
  cut_on n ps [] few e cut none = untold _ (settled_tokens text ps (e ∙ append-nil (text_of ps)) cut none)
  cut_on zero ps (b ∷ rest) few e cut none = absurd (omega arith)
  cut_on (suc n) ps (b ∷ rest) few e cut none =
      let nothing : NothingBegins (b ∷ rest) = λ p more valid ends is. cut_one ps (b ∷ rest) p more e cut none valid ends is (kind p)
      (λ k c h. cut_on n (ps ++ p ∷ []) more (omega (arith, ap length is, fewer p more valid)) k c h) in
      faultless fault.NoToken (length (text_of ps)) (ps, b ∷ rest, e, cut, none, (λ empty. cc), nothing, refl)

  pub all_cut : ⊥
  all_cut = cut_on (length text) [] text (omega arith) refl tt refl

-- ---- tokens

inside : (ts front back : List Token) (t : Token) → ts ≡ front ++ t ∷ back → length front < length ts
inside ts front back t e = omega (arith, ap length e, length-append front (t ∷ back))

-- No tokens are without both: a fault of the grammar, and a formula within the limits.
module _ (text : List ℕ) (ps : List Segment) (all : IsTokens text ps) (faultless : (f : FormulaFault) (place : ℕ) → GrammarFault text f place → ⊥)
    (unread : (s : Syntax) → IsTrue (fits s) → tokens_of ps ≡ tokens s → IsTrue (is_within_limits s) → ⊥) where
  read_on : (back front : List Token) → tokens_of ps ≡ front ++ back → BeginsWithin front → ⊥
  read_on [] front e b =
      let whole : front ≡ tokens_of ps = sym (e ∙ append-nil front) in
      faultless fault.Unfinished (length text) (
        ps,
        all,
        subst BeginsWithin whole b,
        λ s fit same. unread s fit (sym same) (begins-within s b.0 b.1 fit b.2 (b.4 ∙ ap (λ ts. ts ++ b.1) (whole ∙ sym same)) b.3),
        refl,
      )
  read_on (t ∷ back) front e b =
      let place = token_place ps (length front) (inside (tokens_of ps) front back t e) in
      let not_within : BeginsWithin (front ++ t ∷ []) → ⊥ = λ more. read_on back (front ++ t ∷ []) (e ∙ sym (append_assoc front (t ∷ []) back)) more in
      faultless fault.Unexpected place.0 (
        ps,
        front,
        back,
        t,
        all,
        e,
        b,
        λ begun. faultless fault.TooLarge place.0 (ps, front, back, t, all, e, b, begun, not_within, place.1),
        place.1,
      )

  pub all_read : ⊥
  all_read = read_on (tokens_of ps) [] refl (True', TrueWord ∷ [], refl, refl, refl)

-- ---- the written formula

variable_fault_at : (text : List ℕ) (f : FormulaFault) (place : ℕ) (ps : List Segment) (s : Syntax) (first : ℕ) (others : List (ℕ × FormulaFault))
    → IsTrue (is_variable_fault f) → IsWritten text ps s → IsTrue (is_within_limits s)
    → operand_faults 0 s ≡ [] → variable_faults [] 0 s ≡ (first, f) ∷ others → slice_get (offsets_from 0 ps) first ≡ Some place → TreeFault text f place
variable_fault_at text fault.Unbound place ps s first others kind w small none e there = (ps, s, first, others, w, small, none, e, there)
variable_fault_at text fault.OddNegations place ps s first others kind w small none e there = (ps, s, first, others, w, small, none, e, there)
variable_fault_at text _ place ps s first others kind w small none e there = absurd (true≢false (sym kind))

some_of : {A : Type 0} (o : Option A) → IsSome o → (a : A) × (o ≡ Some a)
some_of (Some a) h = (a, refl)
some_of None h = absurd (true≢false (sym h))

-- No written formula within the limits is without both: a fault of an operand or a variable, and an admitted meaning.
module _ (text : List ℕ) (ps : List Segment) (s : Syntax) (w : IsWritten text ps s) (small : IsTrue (is_within_limits s))
    (faultless : (f : FormulaFault) (place : ℕ) → TreeFault text f place → ⊥)
    (unmeant : (f : Formula) → meant s ≡ Some f → IsAdmitted f → ⊥) where
  place_of : (n : ℕ) → n < 0 + length (tokens s) → (place : ℕ) × (slice_get (offsets_from 0 ps) n ≡ Some place)
  place_of n lt = token_place ps n (omega (arith, ap length w.spelled, lt))

  by_variables : (f : Formula) → operand_faults 0 s ≡ [] → meant s ≡ Some f → (faults : List (ℕ × FormulaFault)) → variable_faults [] 0 s ≡ faults → ⊥
  by_variables f none m [] e = unmeant f m (admitted_in s [] 0 f e m)
  by_variables f none m (first ∷ others) e =
      let below = subst (AllByRecursion (λ (x : ℕ × FormulaFault). (x.0 < 0 + length (tokens s)) × IsTrue (is_variable_fault x.1))) e
      (variables_below s [] 0) in
      let place = place_of first.0 below.0.0 in
      faultless first.1 place.0 (variable_fault_at text first.1 place.0 ps s first.0 others below.0.1 w small none e place.1)

  by_operands : (faults : List ℕ) → operand_faults 0 s ≡ faults → ⊥
  by_operands [] e = let f = some_of (meant s) (meant_some s 0 e) in by_variables f.0 e f.1 (variable_faults [] 0 s) refl
  by_operands (first ∷ others) e =
      let below = subst (AllByRecursion (λ (n : ℕ). n < 0 + length (tokens s))) e (operands_below s 0) in
      let place = place_of first below.0 in
      faultless fault.NotAnAction place.0 (ps, s, first, others, w, small, e, place.1)

  pub all_meant : ⊥
  all_meant = by_operands (operand_faults 0 s) refl

-- ---- the text

pub decided : (text : List ℕ) → (((f : Formula) × SpellsWithin text f × IsAdmitted f) → ⊥) → (((f : FormulaFault) × (place : ℕ) × HasFormulaFault text f place) → ⊥)
    → ⊥
decided text unspelled faultless = elim (leb_tells (length text) LONGEST_TEXT) [
  | inl short ↦
      all_cut text (λ f place h. faultless (f, place, inr (short.1, inl h)))
      (λ ps all. all_read text ps all (λ f place h. faultless (f, place, inr (short.1, inr (inl h))))
      (λ s fit e small.
      let w : IsWritten text ps s = record { joined = all.joined; cut = all.cut; decided = all.decided; spelled = e; grammatical = fit } in
      all_meant text ps s w small (λ f place h. faultless (f, place, inr (short.1, inr (inr h))))
      (λ f m admitted. unspelled (f, record { pieces = ps; syntax = s; written = w; stands_for = m; within = small; short = short.1 }, admitted))))
  | inr long ↦ faultless (fault.TooLarge, LONGEST_TEXT, inl (long.1, refl, refl))
]
