-- What was read where each word of the formula has to be on a transition.
use Rattle.std.proofs.Common.{◌≡◌, ◌⊎◌, ℕ, List, Bool, false, Some, None, inl, inr, refl, subst, sym, true≢false}
use Rattle.std.specs.Prelude.{IsTrue}
use Rattle.formula.specs.Absent.{IsFirstAbsent}
use Rattle.requests.specs.declared.error.MuError.{MuError}
use Rattle.requests.specs.declared.error.MuError.TheVariants as error
use Rattle.systems.specs.System.{System}
use Rattle.calculus.specs.Tree.{Formula}
use Rattle.requests.specs.Check.{Way, BySets, AreSpelled, IsErrorOf, RefusesCheck, SpellsSystem}
use Rattle.requests.specs.Known.{AreKnown}
use Rattle.requests.specs.Strict.{HasRefusedBy, IsLookRefusal, KnowsWords}
use Rattle.requests.specs.Texts.{IsReadFault, IsReadRefusal}
use Rattle.requests.specs.Writers.{Lent, AreKept}

-- what a look at the words of what was read finds
pub known_of : (first second : List ℕ) (strict : Bool) (l : System) (f : Formula) (text : List ℕ) → AreSpelled first second l f → text ≡ second
    → AreKnown strict l text → IsTrue strict → KnowsWords first second
known_of first second strict l f text spelled whole known asked =
    record { l = l; system = spelled.system.spelled; absent = subst (λ t. IsFirstAbsent l t None) whole (known asked) }

-- and what it refuses
pub refused_word : (first second : List ℕ) (strict : Bool) (way : Way) (writers : List Lent) (l : System) (f : Formula) (text : List ℕ) (e : MuError)
    → AreSpelled first second l f → text ≡ second → IsTrue strict → AreKept writers → IsLookRefusal l text e → HasRefusedBy strict way first second writers e
refused_word first second strict way writers l f text (error.NoLabel place) spelled whole asked kept h = inr (record {
  place = place;
  f = f;
  asked = asked;
  spelled = spelled.formula;
  absent = record { l = l; system = spelled.system.spelled; absent = subst (λ t. IsFirstAbsent l t (Some place)) whole h };
  is = refl;
  kept = kept;
})
refused_word first second strict way writers l f text error.Memory spelled whole asked kept h = inl (((l, spelled.system.spelled), kept), λ _. inl tt)
refused_word first second strict way writers l f text e spelled whole asked kept h = absurd h

-- The refusal of a formula's text comes where the first text spells a system, and before its words are looked at.
pub unread_by : (strict : Bool) (way : Way) (first second : List ℕ) (writers : List Lent) (e : MuError) → SpellsSystem first → IsReadRefusal second e
    → AreKept writers → HasRefusedBy strict way first second writers e
unread_by strict way first second writers (error.Formula e) spelled h kept = inl ((spelled, h, kept), λ asked. inl tt)
unread_by strict way first second writers error.Read spelled h kept = inl ((spelled, kept), λ asked. inl tt)
unread_by strict way first second writers error.Memory spelled h kept = inl ((spelled, kept), λ asked. inl tt)
unread_by strict way first second writers e spelled h kept = absurd h

pub fault_read : (text : List ℕ) (e : MuError) → IsReadFault e → IsReadRefusal text e
fault_read text (error.Formula e) h = absurd h
fault_read text e h = h

-- Where nothing is asked of the words, none is refused.
pub unasked : (way : Way) (first second : List ℕ) (writers : List Lent) (e : MuError) → HasRefusedBy false way first second writers e
    → RefusesCheck way first second writers e
unasked way first second writers e (inl h) = h.0
unasked way first second writers e (inr h) = absurd (true≢false (sym h.asked))

pub plainly : (e : MuError) → IsTrue false ⊎ IsErrorOf BySets e → IsErrorOf BySets e
plainly e (inl h) = absurd (true≢false (sym h))
plainly e (inr h) = h
