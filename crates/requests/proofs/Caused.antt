-- That a read failed isn't told where nothing is read.
use Rattle.std.proofs.Common.{◌≢◌, ◌||◌, Bool, true, false, Some, None, Ok, Err, refl, subst, sym, true≢false}
use Rattle.std.specs.Prelude.{IfErr, IsTrue, Option, Result}
use Rattle.text.specs.Cause.{HasCause}
use Rattle.systems.specs.System.{System}
use Rattle.calculus.specs.Tree.{Formula}
use Rattle.game.specs.Game.{Game}
use Rattle.lts.specs.declared.error.AutError.TheVariants as system
use Rattle.workers.specs.declared.team.BoardKind.{BoardKind}
use Rattle.requests.specs.declared.error.MuError.{MuError}
use Rattle.requests.specs.declared.error.MuError.TheVariants as error
use Rattle.requests.specs.Causes.{HaveCauses}
use Rattle.requests.specs.Check.{Way, BySets, ByGame, IsBeyond}
use Rattle.requests.specs.Solver.{IsUnsolved}

-- what never is told has every cause
pub never_caused : {E : Type 0} → (can_fail : Bool) (failed e : E) → e ≢ failed → HasCause can_fail failed e
never_caused can_fail failed e never is = absurd (never is)

-- what is told of nothing that can fail never is
pub never_told : {E : Type 0} → (failed e : E) → HasCause false failed e → e ≢ failed
never_told failed e h is = true≢false (sym (h is))

-- the same of a call's refusal
pub past_read : {T E : Type 0} → (can_fail : Bool) (failed : E) (r : Result T E) → IfErr r (HasCause false failed) → IfErr r (HasCause can_fail failed)
past_read can_fail failed (Ok x) h = tt
past_read can_fail failed (Err e) h = never_caused can_fail failed e (never_told failed e h)

pub past_reading : {T : Type 0} → (aut formula : Bool) (r : Result T MuError) → IfErr r (HaveCauses false false) → IfErr r (HaveCauses aut formula)
past_reading aut formula (Ok x) h = tt
past_reading aut formula (Err e) h = (
  never_caused aut (error.System system.Read) e (never_told (error.System system.Read) e h.0),
  never_caused formula error.Read e (never_told error.Read e h.1),
)

-- what holds of no failed read
pub no_read : (P : MuError → Type 0) (aut formula : Bool) (e : MuError) → (P (error.System system.Read) → ⊥) → (P error.Read → ⊥) → P e
    → HaveCauses aut formula e
no_read P aut formula e no_system no_formula h = (λ is. absurd (no_system (subst P is h)), λ is. absurd (no_formula (subst P is h)))

pub no_reads : {T : Type 0} → (P : MuError → Type 0) (aut formula : Bool) (r : Result T MuError) → (P (error.System system.Read) → ⊥) → (P error.Read → ⊥)
    → IfErr r P → IfErr r (HaveCauses aut formula)
no_reads P aut formula (Ok x) no_system no_formula h = tt
no_reads P aut formula (Err e) no_system no_formula h = no_read P aut formula e no_system no_formula h

pub beyond_caused : (way : Way) (l : System) (f : Formula) (aut formula : Bool) (e : MuError) → IsBeyond way l f e → HaveCauses aut formula e
beyond_caused BySets l f aut formula e h = no_read (IsBeyond BySets l f) aut formula e (λ x. x) (λ x. x) h
beyond_caused (ByGame rule board) l f aut formula e h = no_read (IsBeyond (ByGame rule board) l f) aut formula e (λ x. x) (λ x. x) h

pub unsolved_caused : {T : Type 0} → (board : Option BoardKind) (g : Game) (aut formula : Bool) (r : Result T MuError) → IfErr r (IsUnsolved board g)
    → IfErr r (HaveCauses aut formula)
unsolved_caused None g aut formula r h = no_reads (IsUnsolved None g) aut formula r (λ x. x) (λ x. x) h
unsolved_caused (Some board) g aut formula r h = no_reads (IsUnsolved (Some board) g) aut formula r (λ x. x) (λ x. x) h

-- where more can fail
pub more_reads : {T : Type 0} → (a b c d : Bool) (r : Result T MuError) → (IsTrue a → IsTrue c) → (IsTrue b → IsTrue d) → IfErr r (HaveCauses a b)
    → IfErr r (HaveCauses c d)
more_reads a b c d (Ok x) f g h = tt
more_reads a b c d (Err e) f g h = (λ is. f (h.0 is), λ is. g (h.1 is))

pub or_left : (a b : Bool) → IsTrue a → IsTrue (a || b)
or_left true b h = refl
or_left false b h = absurd (true≢false (sym h))

pub or_right : (a b : Bool) → IsTrue b → IsTrue (a || b)
or_right true b h = refl
or_right false b h = h

pub none_true : (b : Bool) → IsTrue false → IsTrue b
none_true b h = absurd (true≢false (sym h))
