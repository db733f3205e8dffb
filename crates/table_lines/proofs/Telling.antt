-- The line that tells what a table finds of a formula.
use Rattle.std.proofs.Common.{◌≡◌, ◌∙◌, ℕ, List, Bool, Result, Ok, Err, refl, arith, subst, sym, take}
use Rattle.std.proofs.lemmas.List.{take_all}
use Rattle.std.specs.Prelude.{MatchResult}
use Rattle.text.specs.Taken.{Taken}
use Rattle.text.specs.Wrote.{Wrote}
use Rattle.text.specs.declared.write_loop.WriteFault.{WriteFault}
use Rattle.systems.specs.System.{System}
use Rattle.calculus.specs.Tree.{Formula}
use Rattle.requests.specs.declared.error.MuError.{MuError}
use Rattle.requests.specs.declared.error.MuError.TheVariants as error
use Rattle.requests.specs.Check.{Way}
use Rattle.requests.specs.Texts.{IsFormulaOf, IsReadRefusal}
use Rattle.table_lines.specs.Table.{HasTold, IsRefused, IsTableLine}

-- A text within the limits is its front.
pub whole_of : (front text : List ℕ) (f : Formula) → front ≡ take 1048577 text → IsFormulaOf text f → front ≡ text
whole_of front text f h is = h ∙ take_all 1048577 text (omega (arith, is.spelled.short))

-- The refusal of a read is one of the line.
pub unread : (strict : Bool) (way : Way) (l : System) (text : List ℕ) (e : MuError) → IsReadRefusal text e → IsRefused strict way l text e
unread strict way l text (error.Formula e) h = h
unread strict way l text error.Read h = tt
unread strict way l text error.Memory h = tt
unread strict way l text e h = absurd h

-- A line was told or begun.
pub told_by : (strict : Bool) (way : Way) (l : System) (can_fail : Bool) (name text : List ℕ) (old new : Taken) (line : List ℕ) (status : ℕ) (wrote : Result Unit WriteFault)
    (r : Result ℕ WriteFault) → IsTableLine strict way l can_fail name text line status → Wrote old new wrote line
    → MatchResult wrote (λ _. r ≡ Ok status) (λ fault. r ≡ Err fault) → HasTold strict way l can_fail name text old new r
told_by strict way l can_fail name text old new line status (Ok u) r is h e = subst (HasTold strict way l can_fail name text old new) (sym e)
    (record { line = line; status = status; is = is; written = h; answered = refl })
told_by strict way l can_fail name text old new line status (Err fault) r is h e = subst (HasTold strict way l can_fail name text old new) (sym e)
    (record { line = line; status = status; is = is; written = h; answered = tt })
