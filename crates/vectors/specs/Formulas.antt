-- Worked examples of formulas, canonical texts and satisfaction of action formulas.
use Rattle.std.specs.Prelude.{◌≡◌, true, false, List, [], ◌∷◌, None, IsTrue, codes, refl}
use Rattle.std.proofs.Common.{arith}
use Rattle.calculus.specs.Tree.{Action, Anything, Names, Quoted, NotAct, AndAct, Step, Either, Plus, Formula, True, False, Var, Not, Or, Implies, Dia, Mu, Nu}
use Rattle.calculus.specs.Holds.{holds}
use Rattle.calculus.specs.Admitted.{IsAdmitted, is_admitted_in}
use Rattle.calculus.specs.Canon.{canon}
use Rattle.grammar.specs.Token.{Name, Less, Greater, ChoiceSign, PlusSign, TrueWord, Segment, Blank, Word, Cuts, text_of, tokens_of, is_decided}
use Rattle.grammar.specs.Syntax.{Names', Parens', And', Then', Plus', Either', OneOf', Group', Dia', Mu', Var', True', Syntax, fits, tokens, meant}
use Rattle.formula.specs.Spells.{IsWritten, Spells, SpellsWithin}
use Rattle.formula.proofs.Refusals.{without_limits}

abbrev pub name_a : Action
name_a = Names (codes "a" ∷ [])

abbrev pub name_b : Action
name_b = Names (codes "b" ∷ [])

-- nu X. mu Y. (<a>X || <b>Y)
abbrev pub often_a : Formula
often_a = Nu (codes "X") (Mu (codes "Y") (Or (Dia (Step name_a) (Var (codes "X"))) (Dia (Step name_b) (Var (codes "Y")))))

admitted_often_a : (canon often_a ≡ codes "(nu X. (mu Y. (<a>X || <b>Y)))") × IsAdmitted often_a
admitted_often_a = (refl, refl)

-- <a + + b>true
abbrev pub plus_or_b : Formula
plus_or_b = Dia (Either (Plus (Step name_a)) (Step name_b)) True

canon_plus_or_b : canon plus_or_b ≡ codes "<(a+ + b)>true"
canon_plus_or_b = refl

-- a text of these pieces, whose tokens are this formula
pub written : (pieces : List Segment) (s : Syntax) → Cuts pieces [] → IsTrue (is_decided (tokens_of pieces)) → tokens_of pieces ≡ tokens s → IsTrue (fits s)
    → IsWritten (text_of pieces) pieces s
written pieces s cut decided spelled fit = record { joined = refl; cut = cut; decided = decided; spelled = spelled; grammatical = fit }

spells_within_plus_or_b : SpellsWithin (codes "<a + + b>true") plus_or_b
spells_within_plus_or_b =
    let pieces : List Segment = Word Less ∷ Word (Name (codes "a")) ∷ Blank 32 ∷ Word PlusSign ∷ Blank 32 ∷ Word ChoiceSign ∷ Blank 32
    ∷ Word (Name (codes "b")) ∷ Word Greater ∷ Word TrueWord ∷ [] in
    let s = Dia' (Either' (Plus' (Names' (codes "a") [])) (Names' (codes "b") [])) True' in
    let text = written pieces s
    (tt, refl, (refl, refl, (refl, refl, (tt, refl, (refl, refl, (tt, refl, (refl, refl, (refl, refl, (tt, refl, (tt, refl, tt)))))))))) refl refl refl in
    record { pieces = pieces; syntax = s; written = text; stands_for = refl; within = refl; short = omega arith }

pub spells_plus_or_b : Spells (codes "<a + + b>true") plus_or_b
spells_plus_or_b = without_limits (codes "<a + + b>true") plus_or_b spells_within_plus_or_b

-- of `+ +` before `b` the first is the postfix sign
signs : (is_decided (PlusSign ∷ ChoiceSign ∷ Name (codes "b") ∷ []) ≡ true) × (is_decided (ChoiceSign ∷ ChoiceSign ∷ Name (codes "b") ∷ []) ≡ false)
    × (is_decided (PlusSign ∷ PlusSign ∷ Name (codes "b") ∷ []) ≡ false)
signs = (refl, refl, refl)

-- mu X. X || true is read as mu X. (X || true): a binder's formula is no left operand, unless in parentheses
reach : (fits (OneOf' (Mu' (codes "X") (Var' (codes "X"))) True') ≡ false) × (fits (Mu' (codes "X") (OneOf' (Var' (codes "X")) True')) ≡ true)
    × (fits (OneOf' (Group' (Mu' (codes "X") (Var' (codes "X")))) True') ≡ true)
reach = (refl, refl, refl)

-- <(a.b) && c>true is a text of the grammar and stands for no formula
no_action : (fits (Dia' (And' (Parens' (Then' (Names' (codes "a") []) (Names' (codes "b") []))) (Names' (codes "c") [])) True') ≡ true)
    × (meant (Dia' (And' (Parens' (Then' (Names' (codes "a") []) (Names' (codes "b") []))) (Names' (codes "c") [])) True') ≡ None)
no_action = (refl, refl)

-- mu X. !(X => false)
abbrev pub twice_negated : Formula
twice_negated = Mu (codes "X") (Not (Implies (Var (codes "X")) False))

admitted_twice_negated : (canon twice_negated ≡ codes "(mu X. !(X => false))") × IsAdmitted twice_negated
admitted_twice_negated = (refl, refl)

-- mu X. !X; mu X. Y
not_admitted : (is_admitted_in [] (Mu (codes "X") (Not (Var (codes "X")))) ≡ false) × (is_admitted_in [] (Mu (codes "X") (Var (codes "Y"))) ≡ false)
not_admitted = (refl, refl)

-- the order of names doesn't count, how often each stands does
multi : (holds (Names (codes "a" ∷ codes "b" ∷ [])) (codes "b|a") ≡ true) × (holds (Names (codes "b" ∷ codes "a" ∷ [])) (codes "a|b") ≡ true)
    × (holds (Names (codes "b" ∷ codes "a" ∷ codes "b" ∷ [])) (codes "b|b|a") ≡ true)
    × (holds (Names (codes "a" ∷ codes "a" ∷ codes "b" ∷ [])) (codes "b|b|a") ≡ false)
multi = (refl, refl, refl, refl)

-- neither one of two names holds, nor a label in another order
only_part : (holds name_a (codes "b|a") ≡ false) × (holds (Quoted (codes "a|b")) (codes "b|a") ≡ false)
only_part = (refl, refl)

opaque : (holds (Quoted (codes "r(1)")) (codes "r(1)") ≡ true) × (holds (Names (codes "r" ∷ [])) (codes "r(1)") ≡ false)
opaque = (refl, refl)

silent : (holds (Names []) (codes "tau") ≡ true) × (holds (AndAct Anything (NotAct (Names []))) (codes "tau") ≡ false)
silent = (refl, refl)
