-- A text is written in one way, spells one formula at most and has one deciding fault at most, none where the formula is admitted and within the limits.
use Rattle.std.specs.Prelude.{◌⊎◌, [], ◌∷◌, ◌++◌, map, IsTrue, Some, slice_get, IsSome, refl}
use Rattle.std.proofs.Common.{◌≡◌, ℕ, List, sym, ap, ◌∙◌, arith, inl, inr, subst}
use Rattle.calculus.specs.Tree.{Formula}
use Rattle.grammar.specs.Token.{Segment, offsets_from}
use Rattle.grammar.specs.Syntax.{Syntax, meant, is_within_limits}
use Rattle.formula.specs.Spells.{IsWritten, Spells, SpellsWithin}
use Rattle.formula.specs.Fault.{TokenFault, GrammarFault, operand_faults, variable_faults, TreeFault, HasFormulaFault}
use Rattle.formula.specs.declared.error.FormulaFault.{FormulaFault}
use Rattle.formula.specs.declared.error.FormulaFault.TheVariants as fault
use Rattle.calculus.specs.Admitted.{IsAdmitted}
use Rattle.formula.proofs.Pieces.{same_tokens}
use Rattle.grammar.proofs.RegularUnique.{some_once}
use Rattle.grammar.proofs.Unambiguous.{one_syntax}
use Rattle.formula.proofs.OneCut.{one_token_fault, no_token_fault, same_offsets}
use Rattle.formula.proofs.OneFront.{one_grammar_fault, no_grammar_fault, grammar_tokens}
use Rattle.formula.proofs.Unreserved.{written_tokens}
use Rattle.formula.proofs.Sense.{meant_fine, admitted_fine}

-- A text is written as one tree.
pub one_writing : (text : List ℕ) (ps qs : List Segment) (s t : Syntax) → IsWritten text ps s → IsWritten text qs t → s ≡ t
one_writing text ps qs s t a b =
    let same = same_tokens ps qs a.cut b.cut a.decided b.decided (sym a.joined ∙ b.joined) in
    one_syntax s t a.grammatical b.grammatical (sym a.spelled ∙ (same ∙ b.spelled))

pub one_formula : (text : List ℕ) (f g : Formula) → Spells text f → Spells text g → f ≡ g
one_formula text f g a b = some_once f g (sym a.stands_for ∙
    (ap meant (one_writing text a.pieces b.pieces a.syntax b.syntax a.written b.written) ∙ b.stands_for))

-- the faults of a written formula, with their places in tokens, those of operands first
abbrev pub faults : Syntax → List (ℕ × FormulaFault)
faults s = map (λ place. (place, fault.NotAnAction)) (operand_faults 0 s) ++ variable_faults [] 0 s

-- the text is a formula of the grammar within the limits, whose first fault is this one
pub record First (text : List ℕ) (f : FormulaFault) (place : ℕ) : Type 0 where
  pub pieces : List Segment
  pub syntax : Syntax
  pub number : ℕ
  pub others : List (ℕ × FormulaFault)
  pub written : IsWritten text pieces syntax
  pub within : IsTrue (is_within_limits syntax)
  pub first : faults syntax ≡ (number, f) ∷ others
  pub there : slice_get (offsets_from 0 pieces) number ≡ Some place

operand_first : (operands : List ℕ) (variables : List (ℕ × FormulaFault)) (number : ℕ) (others : List ℕ) → operands ≡ number ∷ others
    → map (λ place. (place, fault.NotAnAction)) operands ++ variables
    ≡ (number, fault.NotAnAction) ∷ (map (λ place. (place, fault.NotAnAction)) others ++ variables)
operand_first operands variables number others e = λ i. map (λ place. (place, fault.NotAnAction)) (e i) ++ variables

pub variable_first : (operands : List ℕ) (variables rest : List (ℕ × FormulaFault)) → operands ≡ [] → variables ≡ rest
    → map (λ place. (place, fault.NotAnAction)) operands ++ variables ≡ rest
variable_first operands variables rest none e = (λ i. map (λ place. (place, fault.NotAnAction)) (none i) ++ variables) ∙ e

pub first : (text : List ℕ) (f : FormulaFault) (place : ℕ) → TreeFault text f place → First text f place
first text fault.NotAnAction place (pieces, s, number, others, written, within, e, there) =
    record {
      pieces = pieces;
      syntax = s;
      number = number;
      others = _;
      written = written;
      within = within;
      first = operand_first _ _ number others e;
      there = there;
    }
first text _ place h = record {
  pieces = h.0;
  syntax = h.1;
  number = h.2;
  others = h.3;
  written = h.4;
  within = h.5;
  first = variable_first _ _ _ h.6 h.7;
  there = h.8;
}

same_first : (n m : ℕ) (f g : FormulaFault) (others more : List (ℕ × FormulaFault)) → (n, f) ∷ others ≡ (m, g) ∷ more → (n ≡ m) × (f ≡ g)
same_first n m f g others more e = let p : (n, f) ≡ (m, g) = cc in (ap (λ (x : ℕ × FormulaFault). x.0) p, ap (λ (x : ℕ × FormulaFault). x.1) p)

one_tree_fault : (text : List ℕ) (f g : FormulaFault) (p q : ℕ) → First text f p → First text g q → (f ≡ g) × (p ≡ q)
one_tree_fault text f g p q a b =
    let s = one_writing text a.pieces b.pieces a.syntax b.syntax a.written b.written in
    let same = same_first a.number b.number f g a.others b.others (sym a.first ∙ ap faults s ∙ b.first) in
    let offsets = same_offsets a.pieces b.pieces a.written.cut b.written.cut (sym a.written.joined ∙ b.written.joined) in
    (same.1, some_once p q (sym a.there ∙ (λ i. slice_get (offsets i) (same.0 i)) ∙ b.there))

-- the fault of a text that is not too long
abbrev Later : List ℕ → FormulaFault → ℕ → Type 0
Later text f place = TokenFault text f place ⊎ (GrammarFault text f place ⊎ TreeFault text f place)

token_alone : (text : List ℕ) (f g : FormulaFault) (p q : ℕ) → TokenFault text f p → Later text g q → (f ≡ g) × (p ≡ q)
token_alone text f g p q a (inl b) = one_token_fault text f g p q a b
token_alone text f g p q a (inr (inl b)) = let t = grammar_tokens text g q b in absurd (no_token_fault text t.0 f p t.1 a)
token_alone text f g p q a (inr (inr b)) = let t = first text g q b
    in absurd (no_token_fault text t.pieces f p (written_tokens text t.pieces t.syntax t.written) a)

both_back : (f g : FormulaFault) (p q : ℕ) → (g ≡ f) × (q ≡ p) → (f ≡ g) × (p ≡ q)
both_back f g p q e = (sym e.0, sym e.1)

grammar_or_tree : (text : List ℕ) (f g : FormulaFault) (p q : ℕ) → GrammarFault text f p ⊎ TreeFault text f p → GrammarFault text g q ⊎ TreeFault text g q
    → (f ≡ g) × (p ≡ q)
grammar_or_tree text f g p q (inl a) (inl b) = one_grammar_fault text f g p q a b
grammar_or_tree text f g p q (inr a) (inr b) = one_tree_fault text f g p q (first text f p a) (first text g q b)
grammar_or_tree text f g p q (inl a) (inr b) = let t = first text g q b in absurd (no_grammar_fault text t.pieces t.syntax f p t.written t.within a)
grammar_or_tree text f g p q (inr a) (inl b) = let t = first text f p a in absurd (no_grammar_fault text t.pieces t.syntax g q t.written t.within b)

later : (text : List ℕ) (f g : FormulaFault) (p q : ℕ) → Later text f p → Later text g q → (f ≡ g) × (p ≡ q)
later text f g p q (inl a) b = token_alone text f g p q a b
later text f g p q (inr a) (inl b) = both_back f g p q (token_alone text g f q p b (inr a))
later text f g p q (inr a) (inr b) = grammar_or_tree text f g p q a b

pub one_fault : (text : List ℕ) (f g : FormulaFault) (p q : ℕ) → HasFormulaFault text f p → HasFormulaFault text g q → (f ≡ g) × (p ≡ q)
one_fault text f g p q (inl a) (inl b) = (a.1 ∙ sym b.1, a.2 ∙ sym b.2)
one_fault text f g p q (inl a) (inr b) = let long = a.0 in let short = b.0 in absurd (omega arith)
one_fault text f g p q (inr a) (inl b) = let short = a.0 in let long = b.0 in absurd (omega arith)
one_fault text f g p q (inr a) (inr b) = later text f g p q a.1 b.1

faultless : (s : Syntax) (f : Formula) → meant s ≡ Some f → IsAdmitted f → faults s ≡ []
faultless s f m h = variable_first _ _ [] (meant_fine s 0 (subst IsSome (sym m) refl)) (admitted_fine s [] 0 f m h)

tree_fine : (text : List ℕ) (f : Formula) (g : FormulaFault) (place : ℕ) → SpellsWithin text f → IsAdmitted f → First text g place → ⊥
tree_fine text f g place s h t =
    let same = one_writing text s.pieces t.pieces s.syntax t.syntax s.written t.written in
    let none : [] ≡ (t.number, g) ∷ t.others = sym (faultless s.syntax f s.stands_for h) ∙ ap faults same ∙ t.first in
    cc

pub no_fault : (text : List ℕ) (f : Formula) (g : FormulaFault) (place : ℕ) → SpellsWithin text f → IsAdmitted f → HasFormulaFault text g place → ⊥
no_fault text f g place s h (inl a) = let long = a.0 in let short = s.short in absurd (omega arith)
no_fault text f g place s h (inr a) = elim a.1 [
  | inl t ↦ no_token_fault text s.pieces g place (written_tokens text s.pieces s.syntax s.written) t
  | inr (inl t) ↦ no_grammar_fault text s.pieces s.syntax g place s.written s.within t
  | inr (inr t) ↦ tree_fine text f g place s h (first text g place t)
]
