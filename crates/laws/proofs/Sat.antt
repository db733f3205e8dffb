-- The meaning of a normal form by tests, and the sets of all its nodes.
use Rattle.std.specs.Prelude.{◌≡◌, ℕ, zero, suc, ◌+◌, ◌⊎◌, ◌↔◌, Bool, true, false, not, ◌&&◌, ◌||◌, List, [], ◌∷◌, Contains, if◌then◌else◌, nat_lt, ◌==◌}
use Rattle.std.proofs.Common.{refl, ◌∙◌, ap, inl, inr, true≢false, ◌<◌, ◌≤◌}
use Rattle.std.specs.List.{list_any, list_all}
use Rattle.systems.specs.System.{System}
use Rattle.calculus.specs.NormalTree.{Norm, Constant, Junction, Modality, Fixpoint, Variable, size}
use Rattle.game.specs.Arena.{targets}
use Rattle.measures.proofs.Lists.{contains_cases, contains_first, contains_later, contains_none}
use Rattle.laws.proofs.Flags.{both, and_true, either, or_left, or_right, if_true, if_false, same_true, other_false, below_true, above_false}
use Rattle.laws.proofs.Lists.{any_gives, gives_any, all_gives, gives_all}

-- a set of states for each number
abbrev pub Sets : Type 0
Sets = ℕ → ℕ → Bool

-- another value at one number
abbrev pub put : {A : Type 0} → (ℕ → A) → ℕ → A → ℕ → A
put e b x k = if k == b then x else e k

-- the first values below n, and the others from n on
abbrev pub join : {A : Type 0} → ℕ → (ℕ → A) → (ℕ → A) → ℕ → A
join n x y k = if nat_lt k n then x k else y k

-- the nth iterate of a map of tests
abbrev pub turns : ℕ → ((ℕ → Bool) → ℕ → Bool) → (ℕ → Bool) → ℕ → Bool
turns zero next from = from
turns (suc n) next from = next (turns n next from)

-- or, and
abbrev pub junction : Bool → Bool → Bool → Bool
junction true b c = b || c
junction false b c = b && c

-- some, all
abbrev pub modality : Bool → (ℕ → Bool) → List ℕ → Bool
modality true p ts = list_any p ts
modality false p ts = list_all p ts

-- the set that a fixpoint's iterates begin with: none for mu, all for nu
abbrev pub from : Bool → ℕ → Bool
from flag s = not flag

-- whether the tree holds at a state, its first node having this number, where each variable's set is given
abbrev pub sat : System → ℕ → Norm → Sets → ℕ → Bool
sat l at (Constant flag) e s = flag
sat l at (Junction flag f g) e s = junction flag (sat l (at + 1) f e s) (sat l (at + 1 + size f) g e s)
sat l at (Modality flag a f) e s = modality flag (sat l (at + 1) f e) (targets l a s)
sat l at (Fixpoint flag f) e s = turns l.states (λ set. sat l (at + 1) f (put e at set)) (from flag) s
sat l at (Variable b) e s = e b s

-- one turn of a fixpoint's body, and its iterates
abbrev pub body : System → ℕ → Norm → Sets → (ℕ → Bool) → ℕ → Bool
body l at f e set = sat l (at + 1) f (put e at set)

abbrev pub iterates : Bool → System → ℕ → Norm → Sets → ℕ → ℕ → Bool
iterates flag l at f e i = turns i (body l at f e) (from flag)

-- the set of each node: where it holds, each variable standing for its binder's set; the given ones elsewhere
abbrev pub sets : System → ℕ → Norm → Sets → Sets
sets l at (Constant flag) e = put e at (λ s. flag)
sets l at (Junction flag f g) e = put (join (at + 1 + size f) (sets l (at + 1) f e) (sets l (at + 1 + size f) g e)) at (sat l at (Junction flag f g) e)
sets l at (Modality flag a f) e = put (sets l (at + 1) f e) at (sat l at (Modality flag a f) e)
sets l at (Fixpoint flag f) e = sets l (at + 1) f (put e at (sat l at (Fixpoint flag f) e))
sets l at (Variable b) e = put e at (e b)

-- no variable stands for a set
abbrev pub nothing : Sets
nothing b s = false

-- ---- environments

-- at the number itself
pub put_here : {A : Type 0} (e : ℕ → A) (b : ℕ) (x : A) (k : ℕ) → k ≡ b → put e b x k ≡ x
put_here e b x k h = if_true (k == b) x (e k) (same_true k b h)

-- at all others
pub put_other : {A : Type 0} (e : ℕ → A) (b : ℕ) (x : A) (k : ℕ) → (k ≡ b → ⊥) → put e b x k ≡ e k
put_other e b x k h = if_false (k == b) x (e k) (other_false k b h)

-- below the bound
pub join_left : {A : Type 0} (n : ℕ) (x y : ℕ → A) (k : ℕ) → k < n → join n x y k ≡ x k
join_left n x y k h = if_true (nat_lt k n) (x k) (y k) (below_true k n h)

-- from the bound on
pub join_right : {A : Type 0} (n : ℕ) (x y : ℕ → A) (k : ℕ) → n ≤ k → join n x y k ≡ y k
join_right n x y k h = if_false (nat_lt k n) (x k) (y k) (above_false k n h)

-- ---- junctions

-- one of them, both
abbrev pub Joined : Bool → Type 0 → Type 0 → Type 0
Joined true A B = A ⊎ B
Joined false A B = A × B

-- operand by operand
pub joined_map : (flag : Bool) {A B C D : Type 0} → (A → C) → (B → D) → Joined flag A B → Joined flag C D
joined_map true p q h = elim h [ inl a ↦ inl (p a) | inr b ↦ inr (q b) ]
joined_map false p q h = (p h.0, q h.1)

-- a junction holds as its flag says
pub junction_is : (flag b c : Bool) → (junction flag b c ≡ true) ↔ Joined flag (b ≡ true) (c ≡ true)
junction_is true b c = (either b c, λ h. elim h [ inl e ↦ or_left b c e | inr e ↦ or_right b c e ])
junction_is false b c = (both b c, λ h. and_true b c h.0 h.1)

-- a junction is the flag where one operand is
pub junction_tells : (flag b c : Bool) → (junction flag b c ≡ flag) ↔ ((b ≡ flag) ⊎ (c ≡ flag))
junction_tells true b c = junction_is true b c
junction_tells false true c = (λ h. inr h, λ h. elim h [ inl e ↦ absurd (true≢false e) | inr e ↦ e ])
junction_tells false false c = (λ h. inl refl, λ h. refl)

-- ---- modalities

-- at some, at all
abbrev pub Reached : Bool → (ℕ → Type 0) → (ℕ → Type 0) → Type 0
Reached true T P = (t : ℕ) × T t × P t
Reached false T P = (t : ℕ) → T t → P t

-- state by state
pub reached_map : (flag : Bool) (T P Q : ℕ → Type 0) → ((t : ℕ) → T t → P t → Q t) → Reached flag T P → Reached flag T Q
reached_map true T P Q h w = (w.0, w.1, h w.0 w.1 w.2)
reached_map false T P Q h w = λ t k. h t k (w t k)

pub modality_is : (flag : Bool) (p : ℕ → Bool) (ts : List ℕ) → (modality flag p ts ≡ true) ↔ Reached flag (λ t. Contains ts t) (λ t. p t ≡ true)
modality_is true p ts = (any_gives p ts, λ w. gives_any p ts w.0 w.1 w.2)
modality_is false p ts = (λ h t k. all_gives p ts t h k, λ h. gives_all p ts h)

some_fails : (p : ℕ → Bool) (xs : List ℕ) → list_all p xs ≡ false → (x : ℕ) × Contains xs x × (p x ≡ false)
some_fails p [] h = absurd (true≢false h)
some_fails p (x ∷ xs) h = elim ((junction_tells false (p x) (list_all p xs)).0 h) [
  | inl e ↦ (x, contains_first x xs, e)
  | inr k ↦ (let w = some_fails p xs k in (w.0, contains_later x w.0 xs w.1, w.2))
]

fails_some : (p : ℕ → Bool) (xs : List ℕ) (x : ℕ) → Contains xs x → p x ≡ false → list_all p xs ≡ false
fails_some p [] x h k = absurd (contains_none x h)
fails_some p (y ∷ xs) x h k = elim (contains_cases y x xs h) [
  | inl e ↦ (junction_tells false (p y) (list_all p xs)).1 (inl (ap p e ∙ k))
  | inr m ↦ (junction_tells false (p y) (list_all p xs)).1 (inr (fails_some p xs x m k))
]

-- a modality is the flag where its test is the flag somewhere
pub modality_tells : (flag : Bool) (p : ℕ → Bool) (ts : List ℕ) → (modality flag p ts ≡ flag) ↔ ((t : ℕ) × Contains ts t × (p t ≡ flag))
modality_tells true p ts = modality_is true p ts
modality_tells false p ts = (some_fails p ts, λ w. fails_some p ts w.0 w.1 w.2)
