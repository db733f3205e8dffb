-- Trees, their parts by number, and their free variables.
use Rattle.std.proofs.Common.{◌≡◌, ℕ, ◌+◌, ◌<◌, ◌≤◌, ◌⊎◌, List, [], ◌∷◌, ◌++◌, length, map, refl, sym, ap, ap₂, ◌∙◌, subst, inl, inr, append_assoc}
use Rattle.std.proofs.Common.{append-nil, length-append, arith}
use Rattle.std.specs.Prelude.{Some, slice_get}
use Rattle.calculus.specs.NormalTree.{Norm, Constant, Junction, Modality, Fixpoint, Variable, size, preorder}
use Rattle.calculus.proofs.Sizes.{preorder_length}
use Rattle.laws.specs.Admissible.{IsEach, IsFree}
use Rattle.laws.proofs.Flags.{same_or_not, below_or_not}
use Rattle.laws.proofs.Lists.{get_right}

-- the numbers of a tree's parts
pub record IsWithin (at : ℕ) (f : Norm) (k : ℕ) : Type 0 where
  pub from : at ≤ k
  pub to : k < at + size f

-- part by part
pub each_map : (P Q : ℕ → Norm → Type 0) (at : ℕ) (f : Norm) → ((k : ℕ) (g : Norm) → P k g → Q k g) → IsEach P at f → IsEach Q at f
each_map P Q at (Constant flag) step h = step at (Constant flag) h
each_map P Q at (Junction flag f g) step h = (step at (Junction flag f g) h.0, each_map P Q (at + 1) f step h.1, each_map P Q (at + 1 + size f) g step h.2)
each_map P Q at (Modality flag a f) step h = (step at (Modality flag a f) h.0, each_map P Q (at + 1) f step h.1)
each_map P Q at (Fixpoint flag f) step h = (step at (Fixpoint flag f) h.0, each_map P Q (at + 1) f step h.1)
each_map P Q at (Variable b) step h = step at (Variable b) h

-- part by part from two facts
pub each_both : (P Q R : ℕ → Norm → Type 0) (at : ℕ) (f : Norm) → ((k : ℕ) (g : Norm) → P k g → Q k g → R k g) → IsEach P at f → IsEach Q at f → IsEach R at f
each_both P Q R at (Constant flag) step h i = step at (Constant flag) h i
each_both P Q R at (Junction flag f g) step h i =
    (step at (Junction flag f g) h.0 i.0, each_both P Q R (at + 1) f step h.1 i.1, each_both P Q R (at + 1 + size f) g step h.2 i.2)
each_both P Q R at (Modality flag a f) step h i = (step at (Modality flag a f) h.0 i.0, each_both P Q R (at + 1) f step h.1 i.1)
each_both P Q R at (Fixpoint flag f) step h i = (step at (Fixpoint flag f) h.0 i.0, each_both P Q R (at + 1) f step h.1 i.1)
each_both P Q R at (Variable b) step h i = step at (Variable b) h i

-- what holds of each part holds of each part of each part
pub each_each : (P : ℕ → Norm → Type 0) (at : ℕ) (f : Norm) → IsEach P at f → IsEach (λ k g. IsEach P k g) at f
each_each P at (Constant flag) h = h
each_each P at (Junction flag f g) h = (h, each_each P (at + 1) f h.1, each_each P (at + 1 + size f) g h.2)
each_each P at (Modality flag a f) h = (h, each_each P (at + 1) f h.1)
each_each P at (Fixpoint flag f) h = (h, each_each P (at + 1) f h.1)
each_each P at (Variable b) h = h

-- at each number of the tree stands a part
pub each_at : (P : ℕ → Norm → Type 0) (Q : ℕ → Type 0) → ((k : ℕ) (g : Norm) → P k g → Q k) → (at : ℕ) (f : Norm) → IsEach P at f → (c : ℕ) → IsWithin at f c
    → Q c
each_at P Q step at (Constant flag) h c w = subst Q (omega (arith, w.from, w.to)) (step at (Constant flag) h)
each_at P Q step at (Junction flag f g) h c w = elim (same_or_not c at) [
  | inl i ↦ subst Q (sym i) (step at (Junction flag f g) h.0)
  | inr i ↦ elim (below_or_not c (at + 1 + size f)) [
    | inl b ↦ each_at P Q step (at + 1) f h.1 c (record { from = omega (arith, w.from); to = b })
    | inr b ↦ each_at P Q step (at + 1 + size f) g h.2 c (record { from = b; to = omega (arith, w.to) })
  ]
]
each_at P Q step at (Modality flag a f) h c w = elim (same_or_not c at) [
  | inl i ↦ subst Q (sym i) (step at (Modality flag a f) h.0)
  | inr i ↦ each_at P Q step (at + 1) f h.1 c (record { from = omega (arith, w.from); to = omega (arith, w.to) })
]
each_at P Q step at (Fixpoint flag f) h c w = elim (same_or_not c at) [
  | inl i ↦ subst Q (sym i) (step at (Fixpoint flag f) h.0)
  | inr i ↦ each_at P Q step (at + 1) f h.1 c (record { from = omega (arith, w.from); to = omega (arith, w.to) })
]
each_at P Q step at (Variable b) h c w = subst Q (omega (arith, w.from, w.to)) (step at (Variable b) h)

-- ---- free variables

-- Each variable names a binder around it inside the tree, or a number that P holds of.
abbrev pub Binds : (ℕ → Type 0) → ℕ → Norm → Type 0
Binds P at (Constant flag) = Unit {0}
Binds P at (Junction flag f g) = Binds P (at + 1) f × Binds P (at + 1 + size f) g
Binds P at (Modality flag a f) = Binds P (at + 1) f
Binds P at (Fixpoint flag f) = Binds (λ b. (b ≡ at) ⊎ P b) (at + 1) f
Binds P at (Variable b) = P b

-- of each free variable
pub to_free : (P : ℕ → Type 0) (at : ℕ) (f : Norm) → Binds P at f → (b : ℕ) → IsFree b at f → P b
to_free P at (Constant flag) x b h = absurd h
to_free P at (Junction flag f g) x b (inl h) = to_free P (at + 1) f x.0 b h
to_free P at (Junction flag f g) x b (inr h) = to_free P (at + 1 + size f) g x.1 b h
to_free P at (Modality flag a f) x b h = to_free P (at + 1) f x b h
to_free P at (Fixpoint flag f) x b h = elim (to_free (λ c. (c ≡ at) ⊎ P c) (at + 1) f x b h.1) [ inl e ↦ absurd (h.0 e) | inr p ↦ p ]
to_free P at (Variable c) x b h = subst P h x

-- from each free variable
pub from_free : (P : ℕ → Type 0) (at : ℕ) (f : Norm) → ((b : ℕ) → IsFree b at f → P b) → Binds P at f
from_free P at (Constant flag) x = tt
from_free P at (Junction flag f g) x = (from_free P (at + 1) f (λ b h. x b (inl h)), from_free P (at + 1 + size f) g (λ b h. x b (inr h)))
from_free P at (Modality flag a f) x = from_free P (at + 1) f x
from_free P at (Fixpoint flag f) x = from_free (λ c. (c ≡ at) ⊎ P c) (at + 1) f (λ b h. elim (same_or_not b at) [ inl e ↦ inl e | inr e ↦ inr (x b (e, h)) ])
from_free P at (Variable c) x = x c refl

-- a weaker condition
pub binds_map : (P Q : ℕ → Type 0) (at : ℕ) (f : Norm) → ((b : ℕ) → P b → Q b) → Binds P at f → Binds Q at f
binds_map P Q at f h x = from_free Q at f (λ b free. h b (to_free P at f x b free))

-- ---- lists of the parts

map_append : {A B : Type 0} (h : A → B) (xs ys : List A) → map h (xs ++ ys) ≡ map h xs ++ map h ys
map_append h [] ys = refl
map_append h (x ∷ xs) ys = ap (λ zs. h x ∷ zs) (map_append h xs ys)

-- a function of what is said
pub map_preorder : {A B : Type 0} (h : A → B) (say : ℕ → Norm → A) (at : ℕ) (f : Norm) → map h (preorder say at f) ≡ preorder (λ k g. h (say k g)) at f
map_preorder h say at (Constant flag) = refl
map_preorder h say at (Junction flag f g) =
    ap (λ zs. h (say at (Junction flag f g)) ∷ zs)
    (map_append h (preorder say (at + 1) f) (preorder say (at + 1 + size f) g)
    ∙ ap₂ (λ xs ys. xs ++ ys) (map_preorder h say (at + 1) f) (map_preorder h say (at + 1 + size f) g))
map_preorder h say at (Modality flag a f) = ap (λ zs. h (say at (Modality flag a f)) ∷ zs) (map_preorder h say (at + 1) f)
map_preorder h say at (Fixpoint flag f) = ap (λ zs. h (say at (Fixpoint flag f)) ∷ zs) (map_preorder h say (at + 1) f)
map_preorder h say at (Variable b) = refl

module _ {A : Type 0} (say : ℕ → Norm → A) (all : List A) where
  -- at each part's number stands what is said of it
  abbrev pub IsSaid : ℕ → Norm → Type 0
  IsSaid k g = slice_get all k ≡ Some (say k g)

  first_said : (pre : List A) (x : A) (post : List A) (at : ℕ) → all ≡ pre ++ (x ∷ post) → length pre ≡ at → slice_get all at ≡ Some x
  first_said pre x post at e h = ap (λ xs. slice_get xs at) e ∙ get_right pre (x ∷ post) at 0 (omega arith)

  one_on : (pre : List A) (x : A) (xs post : List A) → pre ++ (x ∷ (xs ++ post)) ≡ (pre ++ (x ∷ [])) ++ (xs ++ post)
  one_on pre x xs post = simp append_assoc

  left_on : (pre : List A) (x : A) (xs ys post : List A) → pre ++ (x ∷ ((xs ++ ys) ++ post)) ≡ (pre ++ (x ∷ [])) ++ (xs ++ (ys ++ post))
  left_on pre x xs ys post = simp append_assoc

  right_on : (pre : List A) (x : A) (xs ys post : List A) → pre ++ (x ∷ ((xs ++ ys) ++ post)) ≡ (pre ++ (x ∷ xs)) ++ (ys ++ post)
  right_on pre x xs ys post = simp append_assoc

  length_more : (pre : List A) (x : A) (xs : List A) (k n : ℕ) → length pre ≡ k → length xs ≡ n → length (pre ++ (x ∷ xs)) ≡ k + 1 + n
  length_more pre x xs k n h i = let c = length-append pre (x ∷ xs) in omega arith

  length_one : (pre : List A) (x : A) (k : ℕ) → length pre ≡ k → length (pre ++ (x ∷ [])) ≡ k + 1
  length_one pre x k h = let c = length-append pre (x ∷ []) in omega arith

  one_said : (at : ℕ) (f : Norm) (x : A) (pre post : List A) → all ≡ pre ++ (x ∷ (preorder say (at + 1) f ++ post)) → length pre ≡ at
      → ((pre post : List A) → all ≡ pre ++ (preorder say (at + 1) f ++ post) → length pre ≡ at + 1 → IsEach IsSaid (at + 1) f) → IsEach IsSaid (at + 1) f
  one_said at f x pre post e h rest = rest (pre ++ (x ∷ [])) post (e ∙ one_on pre x (preorder say (at + 1) f) post) (length_one pre x at h)

  said_on : (at : ℕ) (f : Norm) (pre post : List A) → all ≡ pre ++ (preorder say at f ++ post) → length pre ≡ at → IsEach IsSaid at f
  said_on at (Constant flag) pre post e h = first_said pre (say at (Constant flag)) post at e h
  said_on at (Junction flag f g) pre post e h =
      let xs : List A = preorder say (at + 1) f in
      let ys : List A = preorder say (at + 1 + size f) g in
      let x : A = say at (Junction flag f g) in (
        first_said pre x ((xs ++ ys) ++ post) at e h,
        said_on (at + 1) f (pre ++ (x ∷ [])) (ys ++ post) (e ∙ left_on pre x xs ys post) (length_one pre x at h),
        said_on (at + 1 + size f) g (pre ++ (x ∷ xs)) post (e ∙ right_on pre x xs ys post)
            (length_more pre x xs at (size f) h (preorder_length say (at + 1) f)),
      )
  said_on at (Modality flag a f) pre post e h = (
    first_said pre (say at (Modality flag a f)) (preorder say (at + 1) f ++ post) at e h,
    one_said at f (say at (Modality flag a f)) pre post e h (said_on (at + 1) f),
  )
  said_on at (Fixpoint flag f) pre post e h = (
    first_said pre (say at (Fixpoint flag f)) (preorder say (at + 1) f ++ post) at e h,
    one_said at f (say at (Fixpoint flag f)) pre post e h (said_on (at + 1) f),
  )
  said_on at (Variable b) pre post e h = first_said pre (say at (Variable b)) post at e h

  -- what is said of a part stands at its number
  pub said : (f : Norm) → all ≡ preorder say 0 f → IsEach IsSaid 0 f
  said f e = said_on 0 f [] [] (e ∙ sym (append-nil (preorder say 0 f))) refl
