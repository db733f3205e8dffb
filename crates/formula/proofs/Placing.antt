-- Each fault of a written formula stands at one of its tokens, and each token has a place.
use Rattle.std.specs.Prelude.{◌≡◌, ℕ, ◌+◌, ◌<◌, ◌≤◌, Bool, true, false, List, [], ◌∷◌, ◌++◌, length, Some, slice_get, IsTrue, refl, if◌then◌else◌}
use Rattle.std.specs.List.{AllByRecursion}
use Rattle.std.specs.Str.{bytes_eq}
use Rattle.std.proofs.Common.{arith, get_or}
use Rattle.std.proofs.lemmas.List.{length-append}
use Rattle.std.proofs.lemmas.Option.{slice_get-get_or}
use Rattle.lts.proofs.Gathering.{all_append}
use Rattle.grammar.specs.Token.{Token, Close, Greater, CloseBox, AndSign, OrSign, ImpliesSign, StarSign, PlusSign, Dot, ChoiceSign, spelling, Segment, Blank}
use Rattle.grammar.specs.Token.{Comment, Word, tokens_of, offsets_from}
use Rattle.grammar.specs.Syntax.{RegSyntax, Parens', Not', And', Or', Implies', Star', Plus', Then', Either', reg_tokens, counts_as_action, Syntax, Var'}
use Rattle.grammar.specs.Syntax.{Group', Neg', Both', OneOf', If', Dia', Box', Mu', Nu', tokens}
use Rattle.calculus.specs.Admitted.{Scope, negated}
use Rattle.formula.specs.Fault.{operand_fault, reg_faults, operand_faults, variable_fault, variable_faults}
use Rattle.formula.specs.Checked.{is_variable_fault}
use Rattle.formula.specs.declared.error.FormulaFault.{FormulaFault}
use Rattle.formula.specs.declared.error.FormulaFault.TheVariants.{OddNegations}
use Rattle.formula.proofs.Faults.{reg-some}

places_of : (ps : List Segment) (at : ℕ) → length (offsets_from at ps) ≡ length (tokens_of ps)
places_of [] at = refl
places_of (Blank byte ∷ ps) at = places_of ps (at + 1)
places_of (Comment bytes ∷ ps) at = places_of ps (at + (1 + length bytes))
places_of (Word t ∷ ps) at = let e = places_of ps (at + length (spelling t)) in omega arith

-- Each token has a place.
pub token_place : (ps : List Segment) (n : ℕ) → n < length (tokens_of ps) → (place : ℕ) × (slice_get (offsets_from 0 ps) n ≡ Some place)
token_place ps n lt = (get_or (offsets_from 0 ps) n 0, slice_get-get_or (offsets_from 0 ps) n 0 (omega (arith, places_of ps 0)))

-- these places are all below the number
abbrev Below : ℕ → List ℕ → Type 0
Below n faults = AllByRecursion (λ place. place < n) faults

-- so are those of these faults, which are of variables
abbrev VariablesBelow : ℕ → List (ℕ × FormulaFault) → Type 0
VariablesBelow n faults = AllByRecursion (λ (fault : ℕ × FormulaFault). (fault.0 < n) × IsTrue (is_variable_fault fault.1)) faults

wider : (n m : ℕ) (faults : List ℕ) → n ≤ m → Below n faults → Below m faults
wider n m [] le h = tt
wider n m (place ∷ faults) le h = let low : place < n = h.0 in (omega arith, wider n m faults le h.1)

variables_wider : (n m : ℕ) (faults : List (ℕ × FormulaFault)) → n ≤ m → VariablesBelow n faults → VariablesBelow m faults
variables_wider n m [] le h = tt
variables_wider n m (fault ∷ faults) le h = let low : fault.0 < n = h.0.0 in ((omega arith, h.0.1), variables_wider n m faults le h.1)

-- the faults on two sides of a sign
two : (at i j n : ℕ) (xs ys : List ℕ) → at + i ≤ n → at + (i + 1) + j ≤ n → Below (at + i) xs → Below (at + (i + 1) + j) ys → Below n (xs ++ ys)
two at i j n xs ys le le' h k = all_append (λ place. place < n) xs ys (wider (at + i) n xs le h) (wider (at + (i + 1) + j) n ys le' k)

two_variables : (at i j n : ℕ) (xs ys : List (ℕ × FormulaFault)) → at + i ≤ n → at + (i + 1) + j ≤ n → VariablesBelow (at + i) xs
    → VariablesBelow (at + (i + 1) + j) ys → VariablesBelow n (xs ++ ys)
two_variables at i j n xs ys le le' h k =
    all_append (λ (fault : ℕ × FormulaFault). (fault.0 < n) × IsTrue (is_variable_fault fault.1)) xs ys (variables_wider (at + i) n xs le h)
    (variables_wider (at + (i + 1) + j) n ys le' k)

with_operand : (n at : ℕ) (faults : List ℕ) (b : Bool) → at < n → Below n faults → Below n (if b then faults else at ∷ faults)
with_operand n at faults true lt h = h
with_operand n at faults false lt h = (lt, h)

operand_below : (r : RegSyntax) (at : ℕ) → Below (at + length (reg_tokens r)) (reg_faults at r)
    → Below (at + length (reg_tokens r)) (operand_fault r at (reg_faults at r))
operand_below r at h = with_operand (at + length (reg_tokens r)) at (reg_faults at r) (counts_as_action r) (omega (arith, reg-some r)) h

joined_length : (xs ys : List Token) (t : Token) → length (xs ++ t ∷ ys) ≡ length xs + 1 + length ys
joined_length xs ys t = omega (arith, length-append xs (t ∷ ys))

last_length : (xs : List Token) (t : Token) → length (xs ++ t ∷ []) ≡ length xs + 1
last_length xs t = omega (arith, length-append xs (t ∷ []))

reg_below : (r : RegSyntax) (at : ℕ) → Below (at + length (reg_tokens r)) (reg_faults at r)
reg_below (Parens' r) at = let l = last_length (reg_tokens r) Close in wider (at + 1 + length (reg_tokens r)) _ _ (omega arith) (reg_below r (at + 1))
reg_below (Not' r) at = wider (at + 1 + length (reg_tokens r)) _ _ (omega arith) (operand_below r (at + 1) (reg_below r (at + 1)))
reg_below (And' r s) at =
    let l = joined_length (reg_tokens r) (reg_tokens s) AndSign in
    two at (length (reg_tokens r)) (length (reg_tokens s)) _ _ _ (omega arith) (omega arith) (operand_below r _ (reg_below r _))
    (operand_below s _ (reg_below s _))
reg_below (Or' r s) at =
    let l = joined_length (reg_tokens r) (reg_tokens s) OrSign in
    two at (length (reg_tokens r)) (length (reg_tokens s)) _ _ _ (omega arith) (omega arith) (operand_below r _ (reg_below r _))
    (operand_below s _ (reg_below s _))
reg_below (Implies' r s) at =
    let l = joined_length (reg_tokens r) (reg_tokens s) ImpliesSign in
    two at (length (reg_tokens r)) (length (reg_tokens s)) _ _ _ (omega arith) (omega arith) (operand_below r _ (reg_below r _))
    (operand_below s _ (reg_below s _))
reg_below (Star' r) at = let l = last_length (reg_tokens r) StarSign in wider (at + length (reg_tokens r)) _ _ (omega arith) (reg_below r at)
reg_below (Plus' r) at = let l = last_length (reg_tokens r) PlusSign in wider (at + length (reg_tokens r)) _ _ (omega arith) (reg_below r at)
reg_below (Then' r s) at =
    let l = joined_length (reg_tokens r) (reg_tokens s) Dot in
    two at (length (reg_tokens r)) (length (reg_tokens s)) _ _ _ (omega arith) (omega arith) (reg_below r _) (reg_below s _)
reg_below (Either' r s) at =
    let l = joined_length (reg_tokens r) (reg_tokens s) ChoiceSign in
    two at (length (reg_tokens r)) (length (reg_tokens s)) _ _ _ (omega arith) (omega arith) (reg_below r _) (reg_below s _)
reg_below _ at = tt

modal_below : (r : RegSyntax) (f : Syntax) (t : Token) (at : ℕ) (ys : List ℕ) → Below (at + (length (reg_tokens r) + 2) + length (tokens f)) ys
    → Below (at + (1 + length (reg_tokens r ++ t ∷ tokens f))) (reg_faults (at + 1) r ++ ys)
modal_below r f t at ys h =
    let l = joined_length (reg_tokens r) (tokens f) t in
    let n = at + (1 + length (reg_tokens r ++ t ∷ tokens f)) in
    all_append (λ place. place < n) (reg_faults (at + 1) r) ys (wider (at + 1 + length (reg_tokens r)) n _ (omega arith) (reg_below r (at + 1)))
    (wider (at + (length (reg_tokens r) + 2) + length (tokens f)) n ys (omega arith) h)

-- Each fault of an operand stands at a token.
pub operands_below : (s : Syntax) (at : ℕ) → Below (at + length (tokens s)) (operand_faults at s)
operands_below (Group' f) at = let l = last_length (tokens f) Close in wider (at + 1 + length (tokens f)) _ _ (omega arith) (operands_below f (at + 1))
operands_below (Neg' f) at = wider (at + 1 + length (tokens f)) _ _ (omega arith) (operands_below f (at + 1))
operands_below (Both' f g) at =
    let l = joined_length (tokens f) (tokens g) AndSign in
    two at (length (tokens f)) (length (tokens g)) _ _ _ (omega arith) (omega arith) (operands_below f _) (operands_below g _)
operands_below (OneOf' f g) at =
    let l = joined_length (tokens f) (tokens g) OrSign in
    two at (length (tokens f)) (length (tokens g)) _ _ _ (omega arith) (omega arith) (operands_below f _) (operands_below g _)
operands_below (If' f g) at =
    let l = joined_length (tokens f) (tokens g) ImpliesSign in
    two at (length (tokens f)) (length (tokens g)) _ _ _ (omega arith) (omega arith) (operands_below f _) (operands_below g _)
operands_below (Dia' r f) at = wider (at + (1 + length (reg_tokens r ++ Greater ∷ tokens f))) _ _ (omega arith)
    (modal_below r f Greater at _ (operands_below f _))
operands_below (Box' r f) at = wider (at + (1 + length (reg_tokens r ++ CloseBox ∷ tokens f))) _ _ (omega arith)
    (modal_below r f CloseBox at _ (operands_below f _))
operands_below (Mu' name f) at = wider (at + 3 + length (tokens f)) _ _ (omega arith) (operands_below f (at + 3))
operands_below (Nu' name f) at = wider (at + 3 + length (tokens f)) _ _ (omega arith) (operands_below f (at + 3))
operands_below _ at = tt

odd_below : (n at : ℕ) (b : Bool) → at < n → VariablesBelow n (if b then [] else (at, OddNegations) ∷ [])
odd_below n at true lt = tt
odd_below n at false lt = ((lt, refl), tt)

variable_below : (n at : ℕ) (name : List ℕ) (scope : Scope) → at < n → VariablesBelow n (variable_fault name scope at)
variable_below n at name [] lt = ((lt, refl), tt)
variable_below n at name (binder ∷ scope) lt =
    elim (bytes_eq name binder.0) as (λ b. VariablesBelow n (if b then (if binder.1 then [] else (at, OddNegations) ∷ []) else variable_fault name scope at)) [
      | true ↦ odd_below n at binder.1 lt
      | false ↦ variable_below n at name scope lt
    ]

modal_variables : (r : RegSyntax) (f : Syntax) (t : Token) (at : ℕ) (faults : List (ℕ × FormulaFault))
    → VariablesBelow (at + (length (reg_tokens r) + 2) + length (tokens f)) faults
    → VariablesBelow (at + (1 + length (reg_tokens r ++ t ∷ tokens f))) faults
modal_variables r f t at faults h = let l = joined_length (reg_tokens r) (tokens f) t
    in variables_wider (at + (length (reg_tokens r) + 2) + length (tokens f)) _ faults (omega arith) h

-- Each fault of a variable stands at a token.
pub variables_below : (s : Syntax) (scope : Scope) (at : ℕ) → VariablesBelow (at + length (tokens s)) (variable_faults scope at s)
variables_below (Var' name) scope at = variable_below (at + 1) at name scope (omega arith)
variables_below (Group' f) scope at = let l = last_length (tokens f) Close
    in variables_wider (at + 1 + length (tokens f)) _ _ (omega arith) (variables_below f scope (at + 1))
variables_below (Neg' f) scope at = variables_wider (at + 1 + length (tokens f)) _ _ (omega arith) (variables_below f (negated scope) (at + 1))
variables_below (Both' f g) scope at =
    let l = joined_length (tokens f) (tokens g) AndSign in
    two_variables at (length (tokens f)) (length (tokens g)) _ _ _ (omega arith) (omega arith) (variables_below f scope _) (variables_below g scope _)
variables_below (OneOf' f g) scope at =
    let l = joined_length (tokens f) (tokens g) OrSign in
    two_variables at (length (tokens f)) (length (tokens g)) _ _ _ (omega arith) (omega arith) (variables_below f scope _) (variables_below g scope _)
variables_below (If' f g) scope at =
    let l = joined_length (tokens f) (tokens g) ImpliesSign in
    two_variables at (length (tokens f)) (length (tokens g)) _ _ _ (omega arith) (omega arith) (variables_below f (negated scope) _) (variables_below g scope _)
variables_below (Dia' r f) scope at = variables_wider (at + (1 + length (reg_tokens r ++ Greater ∷ tokens f))) _ _ (omega arith)
    (modal_variables r f Greater at _ (variables_below f scope _))
variables_below (Box' r f) scope at = variables_wider (at + (1 + length (reg_tokens r ++ CloseBox ∷ tokens f))) _ _ (omega arith)
    (modal_variables r f CloseBox at _ (variables_below f scope _))
variables_below (Mu' name f) scope at = variables_wider (at + 3 + length (tokens f)) _ _ (omega arith) (variables_below f ((name, true) ∷ scope) (at + 3))
variables_below (Nu' name f) scope at = variables_wider (at + 3 + length (tokens f)) _ _ (omega arith) (variables_below f ((name, true) ∷ scope) (at + 3))
variables_below _ scope at = tt
