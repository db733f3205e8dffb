-- An error that `?` hands on.
use Rattle.std.proofs.Common.{◌≡◌, Result, Ok, Err, IsErrAnd, subst, sym}
use Rattle.std.specs.Prelude.{MatchResult}

pub refused_on : {T E : Type 0} (r : Result T E) (e : E) (P : T → Type 0) (Q : E → Type 0) → IsErrAnd r (λ x. x ≡ e) → Q e → MatchResult r P Q
refused_on (Ok x) e P Q h q = absurd h
refused_on (Err x) e P Q h q = subst Q (sym h) q
