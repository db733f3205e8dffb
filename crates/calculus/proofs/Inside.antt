-- From a state one comes to states alone.
use Rattle.std.proofs.Common.{ℕ, zero, suc, ◌<◌, List, [], ◌∷◌, subst, inl, inr, arith}
use Rattle.std.specs.Prelude.{Contains}
use Rattle.std.specs.List.{AllByRecursion}
use Rattle.systems.specs.Path.{IsPath}
use Rattle.systems.specs.System.{Arrow, System, IsArrow, IsSystem}
use Rattle.calculus.specs.Tree.{Regular, Step, Then, Either, Star, Plus}
use Rattle.calculus.specs.Meaning.{Leads}

-- an arrow of the set has what each has
each_arrow : (P : Arrow → Type 0) (arrows : List Arrow) → AllByRecursion P arrows → (a : Arrow) → Contains arrows a → P a
each_arrow P [] all a (k, h, e) = absurd (omega arith)
each_arrow P (x ∷ xs) all a (zero, h, e) = subst P e all.0
each_arrow P (x ∷ xs) all a (suc k, h, e) = each_arrow P xs all.1 a (k, omega arith, e)

path_inside : (R : ℕ → ℕ → Type 0) (n : ℕ) → ((s t : ℕ) → s < n → R s t → t < n) → (s : ℕ) (states : List ℕ) (t : ℕ) → s < n → IsPath R s states t → t < n
path_inside R n step s [] t h p = subst (λ x. x < n) p h
path_inside R n step s (m ∷ states) t h p = path_inside R n step m states t (step s m h p.0) p.1

-- from a state one comes to states alone
pub leads_inside : (l : System) → IsSystem l → (r : Regular) (s t : ℕ) → s < l.states → Leads l r s t → t < l.states
leads_inside l ok (Step a) s t h (label, arrow, it) = (each_arrow (IsArrow l.states) l.arrows ok.arrows
    (record { source = s; label = label; target = t }) arrow).target
leads_inside l ok (Then r q) s t h (m, first, second) = leads_inside l ok q m t (leads_inside l ok r s m h first) second
leads_inside l ok (Either r q) s t h (inl one) = leads_inside l ok r s t h one
leads_inside l ok (Either r q) s t h (inr one) = leads_inside l ok q s t h one
leads_inside l ok (Star r) s t h (states, path) = path_inside (Leads l r) l.states (leads_inside l ok r) s states t h path
leads_inside l ok (Plus r) s t h (m, states, first, path) = path_inside (Leads l r) l.states (leads_inside l ok r) m states t
    (leads_inside l ok r s m h first) path
