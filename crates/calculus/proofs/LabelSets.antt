-- Sets of labels, one by one.
use Rattle.std.proofs.Common.{◌≡◌, ◌<◌, ◌+◌, ℕ, Bool, List, [], ◌∷◌, ◌++◌, Option, Some, length, map, get_or, cond, inl, inr, refl, sym, ap, ◌∙◌, subst, arith, slice_index_or}
use Rattle.std.specs.Prelude.{slice_get, option_map}
use Rattle.std.proofs.lemmas.Bool.Decides.{eqb_tells}
use Rattle.std.proofs.lemmas.Option.{slice_get-map, slice_get_read}
use Rattle.std.proofs.Math.Seq.{get_or-append_seam}
use Rattle.std.proofs.Math.ListN.{get_or-append}
use Rattle.calculus.specs.declared.node as declared
use Rattle.calculus.specs.Nodes.{Node}
use Rattle.calculus.specs.NodeView.{node_of, nodes_of}
use Rattle.calculus.specs.Taken.{IsSetFor}

-- One set more.
pub sets_more : (labels : List (List ℕ)) (nodes : List Node) (xs : List (List Bool)) (y : List Bool) (i : ℕ) → length xs ≡ i
    → ((k : ℕ) (node : Node) → k < i → slice_get nodes k ≡ Some node → IsSetFor labels node.shape (slice_index_or xs k []))
    → ((node : Node) → slice_get nodes i ≡ Some node → IsSetFor labels node.shape y)
    → (k : ℕ) (node : Node) → k < i + 1 → slice_get nodes k ≡ Some node → IsSetFor labels node.shape (slice_index_or (xs ++ y ∷ []) k [])
sets_more labels nodes xs y i count before here k node below is =
    elim (eqb_tells k i) [
      | inl w ↦
          let at : k ≡ length xs = w.1 ∙ sym count in
          let same : slice_index_or (xs ++ y ∷ []) k [] ≡ y = ap (λ j. get_or (xs ++ y ∷ []) j []) at ∙ get_or-append_seam xs y [] [] in
          subst (IsSetFor labels node.shape) (sym same) (here node (ap (slice_get nodes) (sym w.1) ∙ is))
      | inr w ↦
          let short : k < i = omega (arith, w.1, below) in
          let same : slice_index_or (xs ++ y ∷ []) k [] ≡ slice_index_or xs k [] = get_or-append xs (y ∷ []) [] k (omega (arith, short, count)) in
          subst (IsSetFor labels node.shape) (sym same) (before k node short is)
    ]

-- The node of a number is what stands there.
pub read_node : (xs : List declared.Node.Node) (nodes : List Node) (i : ℕ) (x : declared.Node.Node) (node : Node) → nodes_of xs ≡ nodes → i < length xs
    → x ≡ get_or xs i x → slice_get nodes i ≡ Some node → node ≡ node_of x
read_node xs nodes i x node same below read is =
    let there : slice_get xs i ≡ Some x = slice_get_read xs (length xs) i x refl below read in
    let e : Some node ≡ Some (node_of x) = sym is ∙ (ap (λ ys. slice_get ys i) (sym same) ∙ (slice_get-map node_of xs i ∙ ap (option_map node_of) there)) in
    cc
