-- The tests say what the formula means that the tree spells, and the sets of the nodes are their meanings.
use Rattle.std.proofs.Common.{◌≡◌, ℕ, zero, suc, ◌+◌, ◌<◌, ◌↔◌, Bool, true, false, List, length, replicate, refl, sym, ap, ◌∙◌, subst, inl, inr, true≢false}
use Rattle.std.proofs.Common.{arith}
use Rattle.std.specs.Prelude.{Contains, MatchBool, ◌==◌, if◌then◌else◌}
use Rattle.std.specs.Str.{bytes_eq}
use Rattle.std.proofs.lemmas.Bool.Decides.{eqb_tells}
use Rattle.std.proofs.lemmas.Slice.Eq.{bytes_eq-Decides}
use Rattle.systems.specs.System.{System, IsSystem}
use Rattle.calculus.specs.Tree.{Action, Step, Formula}
use Rattle.calculus.specs.Meaning.{Leads, Env, no_sets, with_set, iterate, mean}
use Rattle.calculus.specs.NormalTree.{Norm, Constant, Junction, Modality, Fixpoint, Variable, size, binder_name, constant_formula, junction_formula, modality_formula}
use Rattle.calculus.specs.NormalTree.{fixpoint_formula, formula_from}
use Rattle.game.specs.Arena.{targets}
use Rattle.calculus.proofs.Sizes.{size_some}
use Rattle.laws.specs.NodeMeaning.{tree_mean, node_mean}
use Rattle.laws.proofs.Flags.{cases, same_or_not, below_or_not}
use Rattle.calculus.proofs.Inside.{leads_inside}
use Rattle.laws.proofs.Targets.{target_below, target_leads, leads_target}
use Rattle.laws.proofs.Sat.{Sets, put, turns, sat, body, from, sets, nothing, Joined, joined_map, junction_is, Reached, modality_is}
use Rattle.laws.proofs.Trees.{IsWithin}
use Rattle.laws.proofs.NodeSets.{set_at, at_set, root_true, true_root, left_sets, right_sets, one_sets}

-- ---- names of binders

length_name : (n : ℕ) → length {A = ℕ} (replicate n 95) ≡ n
length_name zero = refl
length_name (suc n) = ap suc (length_name n)

same_name : (b c : ℕ) → binder_name b ≡ binder_name c → b ≡ c
same_name b c e = let q = ap length e in let x = length_name b in let y = length_name c in omega arith

names_test : (b c : ℕ) → bytes_eq (binder_name b) (binder_name c) ≡ (b == c)
names_test b c =
    elim (eqb_tells b c) [
      | inl e ↦ (bytes_eq-Decides (binder_name b) (binder_name c)).1 (ap binder_name e.1) ∙ sym e.0
      | inr e ↦ elim (cases (bytes_eq (binder_name b) (binder_name c))) [
        | inl y ↦ absurd (e.1 (same_name b c ((bytes_eq-Decides (binder_name b) (binder_name c)).0 y)))
        | inr y ↦ y ∙ sym e.0
      ]
    ]

-- ---- environments

-- the same states below n
abbrev pub IsLikeSet : ℕ → (ℕ → Type 0) → (ℕ → Bool) → Type 0
IsLikeSet n U u = (s : ℕ) → s < n → U s ↔ (u s ≡ true)

-- the same for each binder
abbrev pub AreLike : ℕ → Env → Sets → Type 0
AreLike n E e = (b : ℕ) → IsLikeSet n (E (binder_name b)) (e b)

with_like : (n : ℕ) (E : Env) (e : Sets) (at : ℕ) (U : ℕ → Type 0) (u : ℕ → Bool) → AreLike n E e → IsLikeSet n U u
    → AreLike n (with_set E (binder_name at) U) (put e at u)
with_like n E e at U u Ee Uu b s h =
    subst (λ t. MatchBool t (U s) (E (binder_name b) s) ↔ ((if b == at then u else e b) s ≡ true)) (sym (names_test b at))
    (elim (b == at) as (λ t. MatchBool t (U s) (E (binder_name b) s) ↔ ((if t then u else e b) s ≡ true)) [ true ↦ Uu s h | false ↦ Ee b s h ])

iterate_like : (n i : ℕ) (F : (ℕ → Type 0) → ℕ → Type 0) (G : (ℕ → Bool) → ℕ → Bool) (P : ℕ → Type 0) (p : ℕ → Bool)
    → ((U : ℕ → Type 0) (u : ℕ → Bool) → IsLikeSet n U u → IsLikeSet n (F U) (G u)) → IsLikeSet n P p → IsLikeSet n (iterate i F P) (turns i G p)
iterate_like n zero F G P p step h = h
iterate_like n (suc i) F G P p step h = step (iterate i F P) (turns i G p) (iterate_like n i F G P p step h)

-- where no variable stands for a set
pub nothing_like : (n : ℕ) → AreLike n no_sets nothing
nothing_like n b s h = (λ x. absurd x, λ x. true≢false (sym x))

-- ---- formulas by their flags

constant_means : (l : System) (flag : Bool) (E : Env) (s : ℕ) → mean l (constant_formula flag) E s ↔ (flag ≡ true)
constant_means l true E s = (λ x. refl, λ x. tt)
constant_means l false E s = (λ x. absurd x, λ x. true≢false (sym x))

junction_means : (l : System) (flag : Bool) (f g : Formula) (E : Env) (s : ℕ) → mean l (junction_formula flag f g) E s
    ↔ Joined flag (mean l f E s) (mean l g E s)
junction_means l true f g E s = (λ x. x, λ x. x)
junction_means l false f g E s = (λ x. x, λ x. x)

modality_means : (l : System) (flag : Bool) (a : Action) (f : Formula) (E : Env) (s : ℕ) → mean l (modality_formula flag a f) E s
    ↔ Reached flag (Leads l (Step a) s) (mean l f E)
modality_means l true a f E s = (λ x. x, λ x. x)
modality_means l false a f E s = (λ x. x, λ x. x)

module _ (l : System) (ok : IsSystem l) where
  reached_like : (flag : Bool) (a : Action) (s : ℕ) → s < l.states → (P : ℕ → Type 0) (p : ℕ → Bool) → IsLikeSet l.states P p
      → Reached flag (Leads l (Step a) s) P ↔ Reached flag (λ t. Contains (targets l a s) t) (λ t. p t ≡ true)
  reached_like true a s h P p like = (
    λ x. (x.0, leads_target l ok a s x.0 h x.1, (like x.0 (leads_inside l ok (Step a) s x.0 h x.1)).0 x.2),
    λ x. (x.0, target_leads l a s x.0 x.1, (like x.0 (target_below l a s x.0 x.1)).1 x.2),
  )
  reached_like false a s h P p like = (
    λ x t k. (like t (target_below l a s t k)).0 (x t (target_leads l a s t k)),
    λ x t k. (like t (leads_inside l ok (Step a) s t h k)).1 (x t (leads_target l ok a s t h k)),
  )

  bound_like : (flag : Bool) (name : List ℕ) (f : Formula) (E : Env) (G : (ℕ → Bool) → ℕ → Bool)
      → ((U : ℕ → Type 0) (u : ℕ → Bool) → IsLikeSet l.states U u → IsLikeSet l.states (mean l f (with_set E name U)) (G u))
      → IsLikeSet l.states (mean l (fixpoint_formula flag name f) E) (turns l.states G (from flag))
  bound_like true name f E G step = iterate_like l.states l.states (λ set. mean l f (with_set E name set)) G (λ t. ⊥) (from true) step
      (λ s h. (λ x. absurd x, λ x. true≢false (sym x)))
  bound_like false name f E G step = iterate_like l.states l.states (λ set. mean l f (with_set E name set)) G (λ t. Unit {0}) (from false) step
      (λ s h. (λ x. refl, λ x. tt))

  -- the test is the meaning
  pub meant : (at : ℕ) (f : Norm) (E : Env) (e : Sets) → AreLike l.states E e → IsLikeSet l.states (tree_mean l at f E) (sat l at f e)
  meant at (Constant flag) E e like s h = constant_means l flag E s
  meant at (Junction flag f g) E e like s h =
      let m = junction_means l flag (formula_from (at + 1) f) (formula_from (at + 1 + size f) g) E s in
      let t = junction_is flag (sat l (at + 1) f e s) (sat l (at + 1 + size f) g e s) in
      let i = meant (at + 1) f E e like s h in let j = meant (at + 1 + size f) g E e like s h in
      (λ x. t.1 (joined_map flag i.0 j.0 (m.0 x)), λ x. m.1 (joined_map flag i.1 j.1 (t.0 x)))
  meant at (Modality flag a f) E e like s h =
      let m = modality_means l flag a (formula_from (at + 1) f) E s in
      let t = modality_is flag (sat l (at + 1) f e) (targets l a s) in
      let i = reached_like flag a s h (tree_mean l (at + 1) f E) (sat l (at + 1) f e) (meant (at + 1) f E e like) in
      (λ x. t.1 (i.0 (m.0 x)), λ x. m.1 (i.1 (t.0 x)))
  meant at (Fixpoint flag f) E e like s h =
      bound_like flag (binder_name at) (formula_from (at + 1) f) E (body l at f e)
      (λ U u w. meant (at + 1) f (with_set E (binder_name at) U) (put e at u) (with_like l.states E e at U u like w)) s h
  meant at (Variable b) E e like s h = like b s h

-- a node of the tree
pub node_within : (l : System) (at : ℕ) (f : Norm) (E : Env) (k s : ℕ) → node_mean l at f E k s → IsWithin at f k
node_within l at (Constant flag) E k s x = let e = x.0 in record { from = omega arith; to = omega arith }
node_within l at (Junction flag f g) E k s (inl x) = let e = x.0 in record { from = omega arith; to = omega arith }
node_within l at (Junction flag f g) E k s (inr (inl x)) = let w = node_within l (at + 1) f E k s x
    in record { from = omega (arith, w.from); to = omega (arith, w.to) }
node_within l at (Junction flag f g) E k s (inr (inr x)) = let w = node_within l (at + 1 + size f) g E k s x
    in record { from = omega (arith, w.from); to = omega (arith, w.to) }
node_within l at (Modality flag a f) E k s (inl x) = let e = x.0 in record { from = omega arith; to = omega arith }
node_within l at (Modality flag a f) E k s (inr x) = let w = node_within l (at + 1) f E k s x
    in record { from = omega (arith, w.from); to = omega (arith, w.to) }
node_within l at (Fixpoint flag f) E k s (inl x) = let e = x.0 in record { from = omega arith; to = omega arith }
node_within l at (Fixpoint flag f) E k s (inr x) =
    let w = node_within l (at + 1) f (with_set E (binder_name at) (tree_mean l at (Fixpoint flag f) E)) k s x
    in record { from = omega (arith, w.from); to = omega (arith, w.to) }
node_within l at (Variable b) E k s x = let e = x.0 in record { from = omega arith; to = omega arith }

module _ (l : System) (ok : IsSystem l) where
  root_to : (at : ℕ) (f : Norm) (E : Env) (e : Sets) → AreLike l.states E e → (k s : ℕ) → s < l.states → (k ≡ at) × tree_mean l at f E s
      → sets l at f e k s ≡ true
  root_to at f E e like k s h x = true_root l at f e k s x.0 ((meant l ok at f E e like s h).0 x.1)

  to_root : (at : ℕ) (f : Norm) (E : Env) (e : Sets) → AreLike l.states E e → (k s : ℕ) → s < l.states → k ≡ at → sets l at f e k s ≡ true → (k ≡ at)
      × tree_mean l at f E s
  to_root at f E e like k s h i x = (i, (meant l ok at f E e like s h).1 (root_true l at f e k s i x))

  inside_like : (at : ℕ) (f : Norm) (E : Env) (e : Sets) → AreLike l.states E e
      → AreLike l.states (with_set E (binder_name at) (tree_mean l at f E)) (put e at (sat l at f e))
  inside_like at f E e like = with_like l.states E e at (tree_mean l at f E) (sat l at f e) like (meant l ok at f E e like)

  to_sets : (at : ℕ) (f : Norm) (E : Env) (e : Sets) → AreLike l.states E e → (k s : ℕ) → s < l.states → node_mean l at f E k s → sets l at f e k s ≡ true
  to_sets at (Constant flag) E e like k s h x = root_to at (Constant flag) E e like k s h x
  to_sets at (Junction flag f g) E e like k s h (inl x) = root_to at (Junction flag f g) E e like k s h x
  to_sets at (Junction flag f g) E e like k s h (inr (inl x)) =
      let w = node_within l (at + 1) f E k s x in
      at_set (sets l at (Junction flag f g) e) (sets l (at + 1) f e) k s
      (left_sets l at f g e (sat l at (Junction flag f g) e) k (λ q. omega (arith, w.from)) (omega (arith, w.to)))
      (to_sets (at + 1) f E e like k s h x)
  to_sets at (Junction flag f g) E e like k s h (inr (inr x)) =
      let w = node_within l (at + 1 + size f) g E k s x in
      at_set (sets l at (Junction flag f g) e) (sets l (at + 1 + size f) g e) k s (right_sets l at f g e (sat l at (Junction flag f g) e) k w.from)
      (to_sets (at + 1 + size f) g E e like k s h x)
  to_sets at (Modality flag a f) E e like k s h (inl x) = root_to at (Modality flag a f) E e like k s h x
  to_sets at (Modality flag a f) E e like k s h (inr x) =
      let w = node_within l (at + 1) f E k s x in
      at_set (sets l at (Modality flag a f) e) (sets l (at + 1) f e) k s (one_sets l at f e (sat l at (Modality flag a f) e) k (λ q. omega (arith, w.from)))
      (to_sets (at + 1) f E e like k s h x)
  to_sets at (Fixpoint flag f) E e like k s h (inl x) = root_to at (Fixpoint flag f) E e like k s h x
  to_sets at (Fixpoint flag f) E e like k s h (inr x) =
      to_sets (at + 1) f (with_set E (binder_name at) (tree_mean l at (Fixpoint flag f) E)) (put e at (sat l at (Fixpoint flag f) e))
      (inside_like at (Fixpoint flag f) E e like) k s h x
  to_sets at (Variable b) E e like k s h x = root_to at (Variable b) E e like k s h x

  from_sets : (at : ℕ) (f : Norm) (E : Env) (e : Sets) → AreLike l.states E e → (k s : ℕ) → s < l.states → IsWithin at f k → sets l at f e k s ≡ true
      → node_mean l at f E k s
  from_sets at (Constant flag) E e like k s h w x = to_root at (Constant flag) E e like k s h (omega (arith, w.from, w.to)) x
  from_sets at (Junction flag f g) E e like k s h w x =
      elim (same_or_not k at) as (λ _. node_mean l at (Junction flag f g) E k s) [
        | inl i ↦ inl (to_root at (Junction flag f g) E e like k s h i x)
        | inr i ↦ elim (below_or_not k (at + 1 + size f)) as (λ _. node_mean l at (Junction flag f g) E k s) [
          | inl b ↦ inr (inl (from_sets (at + 1) f E e like k s h (record { from = omega (arith, w.from); to = b })
              (set_at (sets l at (Junction flag f g) e) (sets l (at + 1) f e) k s (left_sets l at f g e (sat l at (Junction flag f g) e) k i b) x)))
          | inr b ↦ inr (inr (from_sets (at + 1 + size f) g E e like k s h (record { from = b; to = omega (arith, w.to) })
              (set_at (sets l at (Junction flag f g) e) (sets l (at + 1 + size f) g e) k s (right_sets l at f g e (sat l at (Junction flag f g) e) k b) x)))
        ]
      ]
  from_sets at (Modality flag a f) E e like k s h w x =
      elim (same_or_not k at) as (λ _. node_mean l at (Modality flag a f) E k s) [
        | inl i ↦ inl (to_root at (Modality flag a f) E e like k s h i x)
        | inr i ↦ inr (from_sets (at + 1) f E e like k s h (record { from = omega (arith, w.from); to = omega (arith, w.to) })
            (set_at (sets l at (Modality flag a f) e) (sets l (at + 1) f e) k s (one_sets l at f e (sat l at (Modality flag a f) e) k i) x))
      ]
  from_sets at (Fixpoint flag f) E e like k s h w x =
      elim (same_or_not k at) as (λ _. node_mean l at (Fixpoint flag f) E k s) [
        | inl i ↦ inl (to_root at (Fixpoint flag f) E e like k s h i x)
        | inr i ↦ inr (from_sets (at + 1) f (with_set E (binder_name at) (tree_mean l at (Fixpoint flag f) E)) (put e at (sat l at (Fixpoint flag f) e))
            (inside_like at (Fixpoint flag f) E e like) k s h
            (record { from = omega (arith, w.from); to = omega (arith, w.to) }) x)
      ]
  from_sets at (Variable b) E e like k s h w x = to_root at (Variable b) E e like k s h (omega (arith, w.from, w.to)) x

-- the sets of the nodes are their meanings
pub sets_mean : (l : System) (f : Norm) → IsSystem l → (s k : ℕ) → s < l.states → k < size f → node_mean l 0 f no_sets k s ↔ (sets l 0 f nothing k s ≡ true)
sets_mean l f ok s k h w = (
  λ x. to_sets l ok 0 f no_sets nothing (nothing_like l.states) k s h x,
  λ x. from_sets l ok 0 f no_sets nothing (nothing_like l.states) k s h (record { from = omega arith; to = omega arith }) x,
)

-- at the root
pub root_means : (l : System) (f : Norm) → IsSystem l → (s : ℕ) → s < l.states → node_mean l 0 f no_sets 0 s ↔ tree_mean l 0 f no_sets s
root_means l f ok s h =
    let some = size_some f in
    let i = sets_mean l f ok s 0 h (omega arith) in
    let j = meant l ok 0 f no_sets nothing (nothing_like l.states) s h in
    (λ x. j.1 (root_true l 0 f nothing 0 s refl (i.0 x)), λ x. i.1 (true_root l 0 f nothing 0 s refl (j.0 x)))
