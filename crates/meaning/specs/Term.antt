-- What a formula that is evaluated stands for, and what is known of it.
use Rattle.std.specs.Prelude.{◌≡◌, [], IsTrue}
use Rattle.systems.specs.System.{System}
use Rattle.calculus.specs.Tree.{Formula, True, False, Var, Not, And, Or, Implies, Dia, Box, Mu, Nu}
use Rattle.calculus.specs.View.{formula_of, regular_of}
use Rattle.calculus.specs.Meaning.{MarksOf, Satisfies}
use Rattle.meaning.specs.Free.{is_free_in, are_among}
use Rattle.meaning.specs.declared.term.Term.{Term}
use Rattle.meaning.specs.declared.term.Term.TheVariants as term

abbrev pub formula_in : Term → Formula
formula_in (term.Known f marks) = formula_of f.now
formula_in term.True = True
formula_in term.False = False
formula_in (term.Var name) = Var name.now.items
formula_in (term.Not' p f) = Not (formula_in f)
formula_in (term.And' p f q g) = And (formula_in f) (formula_in g)
formula_in (term.Or' p f q g) = Or (formula_in f) (formula_in g)
formula_in (term.Implies' p f q g) = Implies (formula_in f) (formula_in g)
formula_in (term.Dia' r p f) = Dia (regular_of r.now) (formula_in f)
formula_in (term.Box' r p f) = Box (regular_of r.now) (formula_in f)
formula_in (term.Mu' name used p f) = Mu name.now.items (formula_in f)
formula_in (term.Nu' name used p f) = Nu name.now.items (formula_in f)

-- A part that is known is closed, with its states; and each binder says whether its variable is free in its formula.
abbrev pub IsRight : System → Term → Type 0
IsRight l (term.Known f marks) = IsTrue (are_among [] (formula_of f.now)) × MarksOf l.states marks.items (Satisfies l (formula_of f.now))
IsRight l term.True = Unit {0}
IsRight l term.False = Unit {0}
IsRight l (term.Var name) = Unit {0}
IsRight l (term.Not' p f) = IsRight l f
IsRight l (term.And' p f q g) = IsRight l f × IsRight l g
IsRight l (term.Or' p f q g) = IsRight l f × IsRight l g
IsRight l (term.Implies' p f q g) = IsRight l f × IsRight l g
IsRight l (term.Dia' r p f) = IsRight l f
IsRight l (term.Box' r p f) = IsRight l f
IsRight l (term.Mu' name used p f) = (used ≡ is_free_in name.now.items (formula_in f)) × IsRight l f
IsRight l (term.Nu' name used p f) = (used ≡ is_free_in name.now.items (formula_in f)) × IsRight l f
