use Rattle.std.proofs.Common.{◌≡◌, List, [], map, fold, subst}
use Rattle.calculus.specs.View.{formula_of}
use Rattle.formula.specs.declared.strange.Word.{Word}
use Rattle.formula.specs.Strange.{formula_terms, name_or_atom}
use Rattle.formula.specs.Noted.{knows, with_term}
use Rattle.formula.proofs.Firsts.{noted_strange}
use Rattle.formula.proofs.strange.strange_in.Goals as goal

pub returns : goal.returns
returns c =
    let none : c.new-found.result.items ≡ [] = c.new-found.ensures.items in
    let f = formula_of c.args.formula.now in
    let noted = subst (λ (l : List Word). map name_or_atom c.note_formula.new.found.items
    ≡ fold (with_term (knows c.in_ok-known.known)) (map name_or_atom l) (formula_terms f)) none c.in_ok-note_formula.ensures in
    noted_strange (knows c.in_ok-known.known) c.args.system.now f (map name_or_atom c.note_formula.new.found.items) c.in_ok-known.ensures noted
