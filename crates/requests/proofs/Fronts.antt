-- A formula's text of which no more is read than shows that it is too long.
use Rattle.std.specs.Prelude.{IfOk, IfSome, Option, Result, option_map}
use Rattle.std.specs.Io.Take.{take_limit, take_inner, take_remaining}
use Rattle.std.specs.declared.io.traits.Take.{Take}
use Rattle.std.proofs.Common.{◌≡◌, ◌<◌, ℕ, List, [], ◌++◌, length, take, Some, None, Ok, Err, inl, inr, sym, ap, ◌∙◌, subst, arith}
use Rattle.std.proofs.lemmas.List.{take_all, length-take}
use Rattle.calculus.specs.Tree.{Formula}
use Rattle.formula.specs.Spells.{Spells, SpellsWithin}
use Rattle.calculus.specs.Admitted.{IsAdmitted}
use Rattle.formula.specs.Fault.{HasFormulaFault}
use Rattle.formula.specs.declared.error.FormulaFault.{FormulaFault}
use Rattle.formula.specs.declared.error.FormulaError.{FormulaError}
use Rattle.formula.specs.declared.error.FormulaError.TheVariants.{Fault, Memory}
use Rattle.formula.specs.Checked.{IsTold}
use Rattle.requests.specs.Texts.{IsFormulaOf}

-- a front that is shorter than asked for is the whole
pub whole_front : (n : ℕ) (xs : List ℕ) → length (take n xs) < n → take n xs ≡ xs
whole_front n xs h = take_all n xs (omega (arith, length-take n xs))

-- what a text's front spells within the limits, the text spells
pub spells_front : (n : ℕ) (text : List ℕ) (f : Formula) → 1048576 < n → SpellsWithin (take n text) f → SpellsWithin text f
spells_front n text f m h = subst (λ t. SpellsWithin t f) (whole_front n text (omega (arith, h.short))) h

-- the fault that decides a text's front decides the text
pub fault_front : (n : ℕ) (text : List ℕ) (fault : FormulaFault) (place : ℕ) → 1048576 < n → HasFormulaFault (take n text) fault place → HasFormulaFault text fault place
fault_front n text fault place m (inl (long, is, at)) = inl (omega (arith, long, length-take n text), is, at)
fault_front n text fault place m (inr (short, rest)) = subst (λ t. HasFormulaFault t fault place) (whole_front n text (omega (arith, short))) (inr (short, rest))

-- what is read to the end of a reader that was cut at a limit
pub read_all : {S : Type 0} → (remaining : S → Option (List ℕ)) (t : Take S) (reader : S) (old new : List ℕ) → take_limit t ≡ 1048577 → take_inner t ≡ reader
    → old ≡ []
    → IfSome (take_remaining remaining t) (λ xs. new ≡ old ++ xs) → IfSome (remaining reader) (λ all. new ≡ take 1048577 all)
read_all remaining t reader old new limit inner none h = go (remaining t.inner) (remaining reader) (ap remaining inner) h
  where
    go : (a b : Option (List ℕ)) → a ≡ b → IfSome (option_map (take t.limit) a) (λ xs. new ≡ old ++ xs) → IfSome b (λ all. new ≡ take 1048577 all)
    go a b e k = subst (λ o. IfSome o (λ all. new ≡ take 1048577 all)) e (at a k)
      where
        at : (a : Option (List ℕ)) → IfSome (option_map (take t.limit) a) (λ xs. new ≡ old ++ xs) → IfSome a (λ all. new ≡ take 1048577 all)
        at None k = tt
        at (Some all) k = k ∙ (ap (λ o. o ++ take t.limit all) none ∙ ap (λ n. take n all) limit)

-- What the front alone spells is spelled by the whole text, alone.
pub formula_of_front : (known : Option (List ℕ)) (front text : List ℕ) (f : Formula) → IfSome known (λ all. front ≡ take 1048577 all) → text ≡ front
    → SpellsWithin text f → IsAdmitted f
    → ((other : Formula) → Spells text other → other ≡ f) → IfSome known (λ all. IsFormulaOf all f)
formula_of_front None front text f h e s admitted only = tt
formula_of_front (Some all) front text f h e s admitted only =
    let whole = whole_front 1048577 all (subst (λ t. length t < 1048577) (e ∙ h) (omega (arith, s.short))) in
    record {
      spelled = spells_front 1048577 all f (omega arith) (subst (λ t. SpellsWithin t f) (e ∙ h) s);
      only = λ other k. only other (subst (λ t. Spells t other) (sym (e ∙ (h ∙ whole))) k);
      admitted = admitted;
    }

-- The refusal of what was read is that of the text.
pub refused_of : (all front text : List ℕ) (error : FormulaError) → front ≡ take 1048577 all → text ≡ front → IsTold text error → IsTold all error
refused_of all front text (Fault fault offset) h e f = fault_front 1048577 all fault offset (omega arith) (subst (λ t. HasFormulaFault t fault offset) (e ∙ h) f)
refused_of all front text Memory h e f = tt

-- What spells a formula is its front.
pub whole_spelled : (front text : List ℕ) (f : Formula) → front ≡ take 1048577 text → IsFormulaOf text f → front ≡ text
whole_spelled front text f h is = h ∙ take_all 1048577 text (omega (arith, is.spelled.short))

-- What is read of each text with this front is read of the reader's text.
pub spelled_of_front : {T E : Type 0} → (P : T → List ℕ → Type 0) (known : Option (List ℕ)) (front read : List ℕ) (r : Result T E)
    → IfSome known (λ all. front ≡ take 1048577 all) → read ≡ front → ((text : List ℕ) → read ≡ take 1048577 text → IfOk r (λ f. P f text))
    → IfOk r (λ f. IfSome known (P f))
spelled_of_front P None front read (Ok f) h e k = tt
spelled_of_front P None front read (Err x) h e k = tt
spelled_of_front P (Some text) front read r h e k = k text (e ∙ h)
