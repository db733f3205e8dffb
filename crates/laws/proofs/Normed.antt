-- The normal form means what the formula means, or its negation where the flag is false.
use Rattle.std.proofs.Common.{◌≡◌, ℕ, ◌+◌, ◌<◌, ◌≤◌, ◌↔◌, Bool, true, false, not, List, [], ◌∷◌, refl, sym, ◌∙◌, subst, inl, inr, arith, true≢false}
use Rattle.std.specs.Prelude.{IsTrue, MatchBool, if◌then◌else◌}
use Rattle.std.specs.Str.{bytes_eq}
use Rattle.systems.specs.System.{System, IsSystem}
use Rattle.calculus.specs.Tree.{Regular, Formula, True, False, Var, Not, And, Or, Implies, Dia, Box, Mu, Nu}
use Rattle.calculus.specs.Admitted.{Scope, negated, is_free_to_stand, is_admitted_in}
use Rattle.calculus.specs.Meaning.{Leads, Env, no_sets, with_set, mean}
use Rattle.calculus.specs.NormalTree.{size, two, modal, with_binder, norm, normal_form}
use Rattle.laws.specs.Laws.{NormalFormMeans}
use Rattle.laws.proofs.Flags.{both, not_flag, not_not, either_flag, opposite, same_test, both_of, all_of}
use Rattle.calculus.proofs.Inside.{leads_inside}
use Rattle.laws.proofs.Sat.{put, sat, from, nothing, put_here, put_other}
use Rattle.laws.proofs.Modal.{at_most_itself, Agree, Makes, two_tells, turns_are, modal_means}
use Rattle.laws.proofs.Spelled.{nothing_like, meant}

-- ---- scopes

-- Each name that may stand here has a binder below this number, whose test is the flag where the state is in the name's set.
abbrev pub Half : ℕ → Scope → Bool → (List ℕ → ℕ) → ℕ → (ℕ → ℕ → Bool) → Env → Type 0
Half n scope flag binders at u d = (name : List ℕ) → is_free_to_stand name scope ≡ true → (binders name < at)
    × ((s : ℕ) → s < n → (u (binders name) s ≡ flag) ↔ d name s)

-- the same for those that may stand below one more negation, with the other flag
abbrev pub Fits : ℕ → Scope → Bool → (List ℕ → ℕ) → ℕ → (ℕ → ℕ → Bool) → Env → Type 0
Fits n scope flag binders at u d = Half n scope flag binders at u d × Half n (negated scope) (not flag) binders at u d

chosen : {X : Type 0} (c : Bool) (a b x y : X) → a ≡ b → x ≡ y → (if c then a else x) ≡ (if c then b else y)
chosen true a b x y e d = e
chosen false a b x y e d = d

-- a scope negated twice
pub twice : (name : List ℕ) (scope : Scope) → is_free_to_stand name (negated (negated scope)) ≡ is_free_to_stand name scope
twice name [] = refl
twice name (binder ∷ scope) =
    chosen (bytes_eq name binder.0) (not (not binder.1)) binder.1 (is_free_to_stand name (negated (negated scope))) (is_free_to_stand name scope)
    (not_not binder.1) (twice name scope)

turned : (n : ℕ) (scope : Scope) (flag : Bool) (binders : List ℕ → ℕ) (at : ℕ) (u : ℕ → ℕ → Bool) (d : Env) → Fits n scope flag binders at u d
    → Fits n (negated scope) (not flag) binders at u d
turned n scope flag binders at u d fits = (
  fits.1,
  λ name stands.
      let w = fits.0 name (sym (twice name scope) ∙ stands) in
      (w.0, λ s lt. subst (λ x. (u (binders name) s ≡ x) ↔ d name s) (sym (not_not flag)) (w.1 s lt)),
)

wider_half : (n : ℕ) (scope : Scope) (flag : Bool) (binders : List ℕ → ℕ) (at : ℕ) (u : ℕ → ℕ → Bool) (d : Env) (place : ℕ) (v : ℕ → ℕ → Bool) → at ≤ place
    → Agree at u v → Half n scope flag binders at u d → Half n scope flag binders place v d
wider_half n scope flag binders at u d place v low agree half name stands =
    let w = half name stands in
    (omega (arith, w.0), λ s lt. subst (λ g. (g s ≡ flag) ↔ d name s) (sym (agree (binders name) w.0)) (w.1 s lt))

wider : (n : ℕ) (scope : Scope) (flag : Bool) (binders : List ℕ → ℕ) (at : ℕ) (u : ℕ → ℕ → Bool) (d : Env) (place : ℕ) (v : ℕ → ℕ → Bool) → at ≤ place
    → Agree at u v → Fits n scope flag binders at u d → Fits n scope flag binders place v d
wider n scope flag binders at u d place v low agree fits = (
  wider_half n scope flag binders at u d place v low agree fits.0,
  wider_half n (negated scope) (not flag) binders at u d place v low agree fits.1,
)

-- below a binder
inner_at : (n : ℕ) (scope : Scope) (flag : Bool) (binders : List ℕ → ℕ) (at : ℕ) (u : ℕ → ℕ → Bool) (d : Env) (b : Bool) (x : ℕ → Bool) (U : ℕ → Type 0) →
    (b ≡ true → (s : ℕ) → s < n → (x s ≡ flag) ↔ U s) → Half n scope flag binders at u d → (other : List ℕ) (c : Bool)
    → (if c then b else is_free_to_stand other scope) ≡ true →
    ((if c then at else binders other) < at + 1) × ((s : ℕ) → s < n → (put u at x (if c then at else binders other) s ≡ flag) ↔ MatchBool c (U s) (d other s))
inner_at n scope flag binders at u d b x U own half other true stands =
    (omega arith, λ s lt. subst (λ g. (g s ≡ flag) ↔ U s) (sym (put_here u at x at refl)) (own stands s lt))
inner_at n scope flag binders at u d b x U own half other false stands =
    let w = half other stands in
    (omega (arith, w.0), λ s lt. subst (λ g. (g s ≡ flag) ↔ d other s) (sym (put_other u at x (binders other) (λ e. omega (arith, w.0)))) (w.1 s lt))

-- the environment below a binder
pub inner : (n : ℕ) (scope : Scope) (flag : Bool) (binders : List ℕ → ℕ) (at : ℕ) (u : ℕ → ℕ → Bool) (d : Env) (name : List ℕ) (x : ℕ → Bool) (U : ℕ → Type 0) →
    ((s : ℕ) → s < n → (x s ≡ flag) ↔ U s) → Fits n scope flag binders at u d
    → Fits n ((name, true) ∷ scope) flag (with_binder binders name at) (at + 1) (put u at x)
    (with_set d name U)
inner n scope flag binders at u d name x U own fits = (
  λ other stands. inner_at n scope flag binders at u d true x U (λ yes. own) fits.0 other (bytes_eq other name) stands,
  λ other stands. inner_at n (negated scope) (not flag) binders at u d false x U (λ no. absurd (true≢false (sym no))) fits.1 other (bytes_eq other name) stands,
)

-- the test of the tree is the flag where the formula holds
abbrev pub Normed : System → Formula → Type 1
Normed l f =
    (flag : Bool) (scope : Scope) (binders : List ℕ → ℕ) (at : ℕ) (u : ℕ → ℕ → Bool) (d : Env) → IsTrue (is_admitted_in scope f)
    → Fits l.states scope flag binders at u d
    → (s : ℕ) → s < l.states → (sat l at (norm flag binders f at) u s ≡ flag) ↔ mean l f d s

module _ (l : System) (ok : IsSystem l) where
  -- both operands, with flags of their own
  operands : (f g : Formula) (own flag : Bool) (scope under : Scope) (binders : List ℕ → ℕ) (at : ℕ) (u : ℕ → ℕ → Bool) (d : Env) → Normed l f → Normed l g →
      IsTrue (is_admitted_in under f) → IsTrue (is_admitted_in scope g) → Fits l.states under own binders at u d → Fits l.states scope flag binders at u d
      → (s : ℕ) → s < l.states →
      ((sat l (at + 1) (norm own binders f (at + 1)) u s ≡ own) ↔ mean l f d s)
      × ((sat l (at + 1 + size (norm own binders f (at + 1))) (norm flag binders g (at + 1 + size (norm own binders f (at + 1)))) u s ≡ flag) ↔ mean l g d s)
  operands f g own flag scope under binders at u d first second p q fits more s lt = (
    first own under binders (at + 1) u d p (wider l.states under own binders at u d (at + 1) u (omega arith) (λ b h. refl) fits) s lt,
    second flag scope binders (at + 1 + size (norm own binders f (at + 1))) u d q
        (wider l.states scope flag binders at u d (at + 1 + size (norm own binders f (at + 1))) u (omega arith) (λ b h. refl) more) s lt,
  )

  makes_norm : (f : Formula) → Normed l f → (flag : Bool) (scope : Scope) (binders : List ℕ → ℕ) (at : ℕ) (u : ℕ → ℕ → Bool) (d : Env)
      → IsTrue (is_admitted_in scope f) → Fits l.states scope flag binders at u d →
      Makes l at u (norm flag binders f) (sat l at (norm flag binders f at) u)
  makes_norm f ih flag scope binders at u d p fits place low v agree s lt =
      same_test flag (sat l place (norm flag binders f place) v s) (sat l at (norm flag binders f at) u s) (mean l f d s)
      (ih flag scope binders place v d p (wider l.states scope flag binders at u d place v low agree fits) s lt) (ih flag scope binders at u d p fits s lt)

  dia_normed : (r : Regular) (f : Formula) → Normed l f → Normed l (Dia r f)
  dia_normed r f ih flag scope binders at u d p fits s lt =
      let i = modal_means l ok r flag at u (norm flag binders f) (sat l at (norm flag binders f at) u) (makes_norm f ih flag scope binders at u d p fits) at
      (at_most_itself at) u (λ b h. refl) s lt in (
        λ h. let w = i.0 h in (w.0, w.1, (ih flag scope binders at u d p fits w.0 (leads_inside l ok r s w.0 lt w.1)).0 w.2),
        λ h. i.1 (h.0, h.1, (ih flag scope binders at u d p fits h.0 (leads_inside l ok r s h.0 lt h.1)).1 h.2),
      )

  box_normed : (r : Regular) (f : Formula) → Normed l f → Normed l (Box r f)
  box_normed r f ih flag scope binders at u d p fits s lt =
      let i = modal_means l ok r (not flag) at u (norm flag binders f) (sat l at (norm flag binders f at) u)
      (makes_norm f ih flag scope binders at u d p fits) at
      (at_most_itself at) u (λ b h. refl) s lt in
      let j = all_of flag (sat l at (modal (not flag) r (norm flag binders f) at) u s) (Leads l r s) (sat l at (norm flag binders f at) u) i in (
        λ h t go. (ih flag scope binders at u d p fits t (leads_inside l ok r s t lt go)).0 (j.0 h t go),
        λ h. j.1 (λ t go. (ih flag scope binders at u d p fits t (leads_inside l ok r s t lt go)).1 (h t go)),
      )

  -- by recursion on the formula: the test of its tree is the flag where it holds
  pub normed : (f : Formula) → Normed l f
  normed True flag scope binders at u d p fits s lt = (λ h. tt, λ h. refl)
  normed False flag scope binders at u d p fits s lt = (λ h. not_flag flag h, λ h. absurd h)
  normed (Var name) flag scope binders at u d p fits s lt = (fits.0 name p).1 s lt
  normed (Not f) flag scope binders at u d p fits s lt =
      let i = normed f (not flag) (negated scope) binders at u d p (turned l.states scope flag binders at u d fits) s lt in (
        λ h m. opposite flag (sat l at (norm (not flag) binders f at) u s) (i.1 m) h,
        λ no. elim (either_flag flag (sat l at (norm (not flag) binders f at) u s)) [ inl e ↦ e | inr e ↦ absurd (no (i.0 e)) ],
      )
  normed (And f g) flag scope binders at u d p fits s lt =
      let w = both (is_admitted_in scope f) (is_admitted_in scope g) p in
      let o = operands f g flag flag scope scope binders at u d (normed f) (normed g) w.0 w.1 fits fits s lt in
      let i = both_of flag (sat l at (two (not flag) (norm flag binders f) (norm flag binders g) at) u s) _ _
      (two_tells l (not flag) (norm flag binders f) (norm flag binders g) at u s) in (
        λ h. let k = i.0 h in (o.0.0 k.0, o.1.0 k.1),
        λ h. i.1 (o.0.1 h.0, o.1.1 h.1),
      )
  normed (Or f g) flag scope binders at u d p fits s lt =
      let w = both (is_admitted_in scope f) (is_admitted_in scope g) p in
      let o = operands f g flag flag scope scope binders at u d (normed f) (normed g) w.0 w.1 fits fits s lt in
      let i = two_tells l flag (norm flag binders f) (norm flag binders g) at u s in (
        λ h. elim (i.0 h) [ inl k ↦ inl (o.0.0 k) | inr k ↦ inr (o.1.0 k) ],
        λ h. i.1 (elim h [ inl k ↦ inl (o.0.1 k) | inr k ↦ inr (o.1.1 k) ]),
      )
  normed (Implies f g) flag scope binders at u d p fits s lt =
      let w = both (is_admitted_in (negated scope) f) (is_admitted_in scope g) p in
      let o = operands f g (not flag) flag scope (negated scope) binders at u d (normed f) (normed g) w.0 w.1
      (turned l.states scope flag binders at u d fits) fits s lt in
      let i = two_tells l flag (norm (not flag) binders f) (norm flag binders g) at u s in (
        λ h m. elim (i.0 h) [ inl k ↦ absurd (opposite flag (sat l (at + 1) (norm (not flag) binders f (at + 1)) u s) (o.0.1 m) k) | inr k ↦ o.1.0 k ],
        λ h. i.1 (elim (either_flag flag (sat l (at + 1) (norm (not flag) binders f (at + 1)) u s)) [ inl k ↦ inl k | inr k ↦ inr (o.1.1 (h (o.0.0 k))) ]),
      )
  normed (Dia r f) flag scope binders at u d p fits s lt = dia_normed r f (normed f) flag scope binders at u d p fits s lt
  normed (Box r f) flag scope binders at u d p fits s lt = box_normed r f (normed f) flag scope binders at u d p fits s lt
  normed (Mu name f) flag scope binders at u d p fits s lt =
      turns_are l.states l.states flag (λ set. sat l (at + 1) (norm flag (with_binder binders name at) f (at + 1)) (put u at set))
      (λ set. mean l f (with_set d name set)) (from flag) (λ t. ⊥)
      (λ x U same. normed f flag ((name, true) ∷ scope) (with_binder binders name at) (at + 1) (put u at x) (with_set d name U) p
      (inner l.states scope flag binders at u d name x U same fits))
      (λ t tl. (λ h. not_flag flag h, λ h. absurd h)) s lt
  normed (Nu name f) flag scope binders at u d p fits s lt =
      turns_are l.states l.states flag (λ set. sat l (at + 1) (norm flag (with_binder binders name at) f (at + 1)) (put u at set))
      (λ set. mean l f (with_set d name set)) (from (not flag)) (λ t. Unit {0})
      (λ x U same. normed f flag ((name, true) ∷ scope) (with_binder binders name at) (at + 1) (put u at x) (with_set d name U) p
      (inner l.states scope flag binders at u d name x U same fits))
      (λ t tl. (λ h. tt, λ h. not_not flag)) s lt

-- at the root no name may stand
no_fits : (n : ℕ) → Fits n [] true (λ name. 0) 0 nothing no_sets
no_fits n = (λ name stands. absurd (true≢false (sym stands)), λ name stands. absurd (true≢false (sym stands)))

-- at the root, with the flag true
pub normal_form_means : NormalFormMeans
normal_form_means l f ok admitted s lt =
    let tree = meant l ok 0 (normal_form f) no_sets nothing (nothing_like l.states) s lt in
    let formula = normed l ok f true [] (λ name. 0) 0 nothing no_sets admitted (no_fits l.states) s lt in
    (λ h. formula.0 (tree.0 h), λ h. tree.1 (formula.1 h))
