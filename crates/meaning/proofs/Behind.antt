-- What the signs behind a regular formula come to.
use Rattle.std.proofs.Common.{◌≡◌, ℕ, ◌+◌, ◌≤◌, ◌↔◌, Bool, true, false, List, [], ◌∷◌, ◌++◌, max, subst, sym, arith}
use Rattle.std.specs.Prelude.{MatchBool}
use Rattle.systems.specs.Path.{IsPath}
use Rattle.systems.specs.System.{System}
use Rattle.calculus.specs.Tree.{Regular, Step, Then, Either, Star, Plus}
use Rattle.calculus.specs.Meaning.{Leads}
use Rattle.meaning.specs.Into.{Into}
use Rattle.meaning.specs.Signs.{without_signs, has_star}

-- any number of steps, and at least one
abbrev Any : (ℕ → ℕ → Type 0) → ℕ → ℕ → Type 0
Any R s t = (states : List ℕ) × IsPath R s states t

abbrev Some : (ℕ → ℕ → Type 0) → ℕ → ℕ → Type 0
Some R s t = (m : ℕ) × (states : List ℕ) × R s m × IsPath R m states t

joined : (R : ℕ → ℕ → Type 0) (s : ℕ) (xs : List ℕ) (m : ℕ) (ys : List ℕ) (t : ℕ) → IsPath R s xs m → IsPath R m ys t → IsPath R s (xs ++ ys) t
joined R s [] m ys t p q = subst (λ x. IsPath R x ys t) (sym p) q
joined R s (x ∷ xs) m ys t p q = (p.0, joined R x xs m ys t p.1 q)

along : (R Q : ℕ → ℕ → Type 0) → ((s t : ℕ) → R s t → Q s t) → (s : ℕ) (xs : List ℕ) (t : ℕ) → IsPath R s xs t → IsPath Q s xs t
along R Q f s [] t p = p
along R Q f s (x ∷ xs) t p = (f s x p.0, along R Q f x xs t p.1)

-- paths of paths are paths
flat : (R : ℕ → ℕ → Type 0) (s : ℕ) (xs : List ℕ) (t : ℕ) → IsPath (Any R) s xs t → Any R s t
flat R s [] t p = ([], p)
flat R s (x ∷ xs) t p = let rest = flat R x xs t p.1 in ((p.0).0 ++ rest.0, joined R s (p.0).0 x rest.0 t (p.0).1 rest.1)

some_any : (R : ℕ → ℕ → Type 0) (s t : ℕ) → Some R s t → Any R s t
some_any R s t (m, states, first, path) = (m ∷ states, (first, path))

one_any : (R : ℕ → ℕ → Type 0) (s t : ℕ) → R s t → Any R s t
one_any R s t h = (t ∷ [], (h, λ _. t))

one_some : (R : ℕ → ℕ → Type 0) (s t : ℕ) → R s t → Some R s t
one_some R s t h = (t, [], h, λ _. t)

any_map : (R Q : ℕ → ℕ → Type 0) → ((s t : ℕ) → R s t → Q s t) → (s t : ℕ) → Any R s t → Any Q s t
any_map R Q f s t (xs, p) = (xs, along R Q f s xs t p)

any_any : (R : ℕ → ℕ → Type 0) (s t : ℕ) → Any (Any R) s t → Any R s t
any_any R s t (xs, p) = flat R s xs t p

some_some : (R : ℕ → ℕ → Type 0) (s t : ℕ) → Some (Some R) s t → Some R s t
some_some R s t (m, xs, (k, ys, first, near), p) =
    let rest = flat R m xs t (along (Some R) (Any R) (some_any R) m xs t p) in
    (k, ys ++ rest.0, first, joined R k ys m rest.0 t near rest.1)

-- any number of steps of the formula is any number of what stands before its signs
pub any_behind : (l : System) (r : Regular) (s t : ℕ) → Leads l (Star r) s t ↔ Leads l (Star (without_signs r)) s t
any_behind l (Step a) s t = (λ h. h, λ h. h)
any_behind l (Then r q) s t = (λ h. h, λ h. h)
any_behind l (Either r q) s t = (λ h. h, λ h. h)
any_behind l (Star r) s t = (
  λ h. (any_behind l r s t).0 (any_any (Leads l r) s t h),
  λ h. one_any (Any (Leads l r)) s t ((any_behind l r s t).1 h),
)
any_behind l (Plus r) s t = (
  λ h. (any_behind l r s t).0 (any_any (Leads l r) s t (any_map (Some (Leads l r)) (Any (Leads l r)) (some_any (Leads l r)) s t h)),
  λ h. any_map (Leads l r) (Some (Leads l r)) (one_some (Leads l r)) s t ((any_behind l r s t).1 h),
)

-- at least one step of it is any number where a sign is `*`, else at least one
abbrev pub Behind : System → Regular → ℕ → ℕ → Type 0
Behind l r s t = MatchBool (has_star r) (Leads l (Star (without_signs r)) s t) (Leads l (Plus (without_signs r)) s t)

pub some_behind : (l : System) (r : Regular) (s t : ℕ) → Leads l (Plus r) s t ↔ Behind l r s t
some_behind l (Step a) s t = (λ h. h, λ h. h)
some_behind l (Then r q) s t = (λ h. h, λ h. h)
some_behind l (Either r q) s t = (λ h. h, λ h. h)
some_behind l (Star r) s t = (
  λ h. (any_behind l r s t).0 (any_any (Leads l r) s t (some_any (Any (Leads l r)) s t h)),
  λ h. one_some (Any (Leads l r)) s t ((any_behind l r s t).1 h),
)
some_behind l (Plus r) s t = (
  λ h. (some_behind l r s t).0 (some_some (Leads l r) s t h),
  λ h. one_some (Some (Leads l r)) s t ((some_behind l r s t).1 h),
)

-- how high a regular formula is
abbrev pub height : Regular → ℕ
height (Step a) = 0
height (Then r q) = 1 + max (height r) (height q)
height (Either r q) = 1 + max (height r) (height q)
height (Star r) = 1 + height r
height (Plus r) = 1 + height r

pub no_higher : (r : Regular) → height (without_signs r) ≤ height r
no_higher (Step a) = omega arith
no_higher (Then r q) = omega arith
no_higher (Either r q) = omega arith
no_higher (Star r) = omega (arith, no_higher r)
no_higher (Plus r) = omega (arith, no_higher r)

-- where they lead into a set
pub into_any : (l : System) (r : Regular) (marks : List Bool) (s : ℕ) → Into l (Star (without_signs r)) marks s ↔ Into l (Star r) marks s
into_any l r marks s = (λ w. (w.0, (any_behind l r s w.0).1 w.1, w.2), λ w. (w.0, (any_behind l r s w.0).0 w.1, w.2))

module _ (l : System) (r : Regular) (marks : List Bool) (s : ℕ) where
  behind : (b : Bool) → has_star r ≡ b → (t : ℕ) → Leads l (Plus r) s t
      ↔ MatchBool b (Leads l (Star (without_signs r)) s t) (Leads l (Plus (without_signs r)) s t)
  behind b e t = subst (λ c. Leads l (Plus r) s t ↔ MatchBool c (Leads l (Star (without_signs r)) s t) (Leads l (Plus (without_signs r)) s t)) e
      (some_behind l r s t)

  pub into_starred : has_star r ≡ true → Into l (Star (without_signs r)) marks s ↔ Into l (Plus r) marks s
  into_starred e = (λ w. (w.0, (behind true e w.0).1 w.1, w.2), λ w. (w.0, (behind true e w.0).0 w.1, w.2))

  pub into_unstarred : has_star r ≡ false → Into l (Plus (without_signs r)) marks s ↔ Into l (Plus r) marks s
  into_unstarred e = (λ w. (w.0, (behind false e w.0).1 w.1, w.2), λ w. (w.0, (behind false e w.0).0 w.1, w.2))
