-- An error that `?` hands on.
use Rattle.std.proofs.Common.{◌≡◌, Result, Ok, Err, IfErr, IsErrAnd, subst, sym}

pub passed_on : {T E : Type 0} → (r : Result T E) (e : E) (P : E → Type 0) → IsErrAnd r (λ x. x ≡ e) → P e → IfErr r P
passed_on (Ok x) e P h p = tt
passed_on (Err x) e P h p = subst P (sym h) p
