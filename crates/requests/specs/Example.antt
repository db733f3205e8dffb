-- A worked example of a report.
use Rattle.std.specs.Prelude.{◌≡◌, true, false, None, Some, [], ◌∷◌, ◌++◌, codes, refl}
use Rattle.std.specs.Fmt.{digits}
use Rattle.systems.specs.System.{System}
use Rattle.calculus.specs.Tree.{Names, Dia, Step, True}
use Rattle.requests.specs.declared.request.ReportForm.TheVariants.{Summary, States}
use Rattle.text.specs.Pieces.{line_end}
use Rattle.requests.specs.Report.{report, report_in}

-- 0 -a-> 1 -b-> 0
abbrev two_states : System
two_states = record {
  states = 2;
  initial = 0;
  arrows = record { source = 0; label = codes "a"; target = 1 } ∷ record { source = 1; label = codes "b"; target = 0 } ∷ [];
}

-- on `<a>true`
report_one_step : report two_states (Dia (Step (Names (codes "a" ∷ []))) True) (true ∷ false ∷ [])
    ≡ codes "system 2 states 2 transitions initial 0" ++ line_end ++ codes "formula <a>true" ++ line_end ++ codes "yes 1 of 2" ++ line_end
    ++ codes "initial yes" ++ line_end
    ++ codes "0 yes" ++ line_end ++ codes "1 no" ++ line_end
unfolding digits
report_one_step = refl

-- the same without its lines for each state, and the numbers of the states that satisfy `<a>true` or don't
summary_one_step : report_in Summary two_states (Dia (Step (Names (codes "a" ∷ []))) True) (true ∷ false ∷ [])
    ≡ codes "system 2 states 2 transitions initial 0" ++ line_end ++ codes "formula <a>true" ++ line_end ++ codes "yes 1 of 2" ++ line_end
    ++ codes "initial yes" ++ line_end
unfolding digits
summary_one_step = refl

numbers_of_no : report_in (States false None) two_states (Dia (Step (Names (codes "a" ∷ []))) True) (true ∷ false ∷ []) ≡ codes "1" ++ line_end
unfolding digits
numbers_of_no = refl

first_number_of_yes : report_in (States true (Some 1)) two_states True (true ∷ true ∷ []) ≡ codes "0" ++ line_end
unfolding digits
first_number_of_yes = refl
