-- That a read failed isn't told of what was read.
use Rattle.std.proofs.Common.{◌≡◌, Bool, Some, Ok, Err, inl, inr, refl, subst, sym}
use Rattle.std.specs.Prelude.{IfErr, MatchResult, Result}
use Rattle.text.specs.declared.write_loop.WriteFault.{WriteFault}
use Rattle.evidence.specs.declared.error.EvidenceError.TheVariants as evidence
use Rattle.requests.specs.declared.error.MuError.{MuError}
use Rattle.requests.specs.declared.error.MuError.TheVariants as error
use Rattle.requests.specs.declared.request.Wanted.{Wanted}
use Rattle.requests.specs.Causes.{HaveCauses}
use Rattle.requests.specs.Check.{ByGame}
use Rattle.requests.proofs.Caused.{beyond_caused, no_read}
use Rattle.systems.specs.System.{System}
use Rattle.calculus.specs.Tree.{Formula}
use Rattle.calculus.specs.declared.priorities.Priorities.{Priorities}
use Rattle.workers.specs.declared.team.BoardKind.{BoardKind}
use Rattle.verdicts.proofs.Beyond.{memory_caused}
use Rattle.engines.specs.Play.{HasNoPlay, IsUnshown}
use Rattle.engines.specs.Prepared.{IsUnprepared}

unevidenced_caused : (aut formula : Bool) (e : MuError) → e ≡ error.Evidence evidence.Memory → HaveCauses aut formula e
unevidenced_caused aut formula e h = no_read (λ d. d ≡ error.Evidence evidence.Memory) aut formula e (λ no. absurd cc) (λ no. absurd cc) h

pub unshown_caused : (aut formula : Bool) (e : MuError) → IsUnshown e → HaveCauses aut formula e
unshown_caused aut formula e (inl h) = memory_caused aut formula e h
unshown_caused aut formula e (inr h) = unevidenced_caused aut formula e h

-- nor where no play was found
pub unplayed_caused : (rule : Priorities) (board : BoardKind) (l : System) (f : Formula) (aut formula : Bool) (e : MuError) → HasNoPlay rule board l f e
    → HaveCauses aut formula e
unplayed_caused rule board l f aut formula e (inl h) = beyond_caused (ByGame rule (Some board)) l f aut formula e h
unplayed_caused rule board l f aut formula e (inr h) = unshown_caused aut formula e h.1

pub unprepared_caused : (wanted : Wanted) (aut formula : Bool) (e : MuError) → IsUnprepared wanted e → HaveCauses aut formula e
unprepared_caused wanted aut formula e (inl h) = unevidenced_caused aut formula e h.1
unprepared_caused wanted aut formula e (inr h) = unshown_caused aut formula e h.1

-- what is answered of what was written
pub written_caused : {T : Type 0} → (wrote : Result Unit WriteFault) (r : Result T MuError) (answer : T) (aut formula : Bool)
    → MatchResult wrote (λ _. r ≡ Ok answer) (λ fault. r ≡ Err (error.Write fault)) → IfErr r (HaveCauses aut formula)
written_caused (Ok x) r answer aut formula h = subst (λ s. IfErr s (HaveCauses aut formula)) (sym h) tt
written_caused (Err fault) r answer aut formula h = subst (λ s. IfErr s (HaveCauses aut formula)) (sym h)
    (no_read (λ d. d ≡ error.Write fault) aut formula (error.Write fault) (λ no. absurd cc) (λ no. absurd cc) refl)
