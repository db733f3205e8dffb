-- The nodes of a part, when its first node is mended after its operands are written.
use Rattle.std.proofs.Common.{◌≡◌, ◌+◌, ◌<◌, ℕ, Bool, List, [], ◌∷◌, ◌++◌, length, set, get_or, refl, sym, ap, ◌∙◌, subst, arith, append_assoc, length-append}
use Rattle.std.specs.Prelude.{slice_index, vec_len}
use Rattle.std.specs.Vec.{with_item}
use Rattle.std.proofs.lemmas.List.{map-set, get_or-map, length-map}
use Rattle.std.proofs.Math.Seq.{set-append_seam, get_or-append_seam}
use Rattle.calculus.specs.NormalTree.{Norm, Constant, Junction, Modality, Fixpoint, Variable, Shape, JunctionNode, size, two, preorder}
use Rattle.calculus.specs.Nodes.{Node, nodes_by, node_at}
use Rattle.normal.specs.Surveys.{noted_rule}
use Rattle.calculus.specs.NodeView.{shape_of, node_of, nodes_of}
use Rattle.normal.specs.Writes.{Writes}
use Rattle.calculus.specs.declared.node as declared
use Rattle.normal.specs.declared.write.Preorder.{Preorder}
use Rattle.calculus.proofs.Sizes.{preorder_length}

-- these nodes follow the old ones
abbrev Follows : List ℕ → (at : ℕ) (old new : List Node) → Norm → Type 0
Follows priorities at old new f = new ≡ old ++ nodes_by (noted_rule priorities) at f

-- Writing a part makes as many nodes as its tree has.
pub writes_length : (old new : Preorder) (f : Norm) → Writes old new f → vec_len new.nodes ≡ vec_len old.nodes + size f
writes_length old new f w =
    let at = vec_len old.nodes in
    let table = noted_rule old.priorities.now in
    omega (
      arith,
      old.nodes.ok.0,
      new.nodes.ok.0,
      length-map old.nodes.items node_of,
      length-map new.nodes.items node_of,
      ap length w.nodes,
      length-append (nodes_of old.nodes.items) (nodes_by table at f),
      preorder_length (node_at table) at f,
    )

-- the node that stands between these
node_there : (xs : List declared.Node.Node) (old rest : List Node) (p : Node) (i : ℕ) (x : declared.Node.Node) → nodes_of xs ≡ old ++ p ∷ rest
    → i ≡ length old → i < length xs → x ≡ get_or xs i x → node_of x ≡ p
node_there xs old rest p i x is at short read =
    ap node_of read ∙ (sym (get_or-map node_of xs i x p short)
    ∙ (ap (λ ys. get_or ys i p) is ∙ (ap (λ k. get_or (old ++ p ∷ rest) k p) at ∙ get_or-append_seam old p rest p)))

-- .. and another in its place
node_set : (xs : List declared.Node.Node) (old rest : List Node) (p : Node) (i : ℕ) (y : declared.Node.Node) → nodes_of xs ≡ old ++ p ∷ rest → i ≡ length old
    → nodes_of (set xs i y) ≡ old ++ node_of y ∷ rest
node_set xs old rest p i y is at =
    map-set node_of xs i y ∙ (ap (λ ys. set ys i (node_of y)) is ∙ (ap (λ k. set (old ++ p ∷ rest) k (node_of y)) at ∙ set-append_seam old p rest (node_of y)))

between : (xs : List declared.Node.Node) (old rest : List Node) (p : Node) → nodes_of xs ≡ old ++ p ∷ rest → length old < length xs
between xs old rest p is = omega (arith, length-map xs node_of, ap length is, length-append old (p ∷ rest))

-- two operands follow a node that is put right when their numbers are known
junction_nodes : (priorities : List ℕ) (i at m n : ℕ) (old mid : List Node) (ys : List Node) (xs : List declared.Node.Node) (x : declared.Node.Node)
    (k : declared.Kind.Kind) (slot : Shape) (flag : Bool) (f g : ℕ → Norm)
    → i ≡ length old → mid ≡ old ++ record { shape = slot; priority = slice_index priorities at } ∷ [] → at ≡ length old → m ≡ at + 1
    → Follows priorities m mid ys (f m) → n ≡ length ys → Follows priorities n ys (nodes_of xs) (g n)
    → x ≡ get_or xs i x → shape_of k ≡ JunctionNode flag (at + 1) n
    → Follows priorities at old (nodes_of (set xs i (record { kind = k; priority = x.priority }))) (two flag f g at)
junction_nodes priorities i at m n old mid ys xs x k shape flag f g start reserved at_is next w count v read kind =
    let table = noted_rule priorities in
    let left : Follows priorities (at + 1) mid ys (f (at + 1)) = subst (λ n. Follows priorities n mid ys (f n)) next w in
    let front = nodes_by table (at + 1) (f (at + 1)) in
    let slot : Node = record { shape = shape; priority = slice_index priorities at } in
    let middle : n ≡ at + 1 + size (f (at + 1)) =
    omega (
      arith,
      ap length left,
      length-append mid front,
      ap length reserved,
      length-append old (slot ∷ []),
      preorder_length (node_at table) (at + 1) (f (at + 1)),
    )
    in
    let right : Follows priorities (at + 1 + size (f (at + 1))) ys (nodes_of xs) (g (at + 1 + size (f (at + 1)))) = subst
    (λ n. Follows priorities n ys (nodes_of xs) (g n)) middle v in
    let back = nodes_by table (at + 1 + size (f (at + 1))) (g (at + 1 + size (f (at + 1)))) in
    let is : nodes_of xs ≡ old ++ slot ∷ (front ++ back) =
    right ∙ (ap (λ zs. zs ++ back) (left ∙ (ap (λ zs. zs ++ front) reserved ∙ append_assoc old (slot ∷ []) front)) ∙ append_assoc old (slot ∷ front) back)
    in
    let there : node_of x ≡ slot = node_there xs old (front ++ back) slot i x is start
    (subst (λ n. n < length xs) (sym start) (between xs old (front ++ back) slot is)) read in
    let same : x.priority ≡ slice_index priorities at = ap (λ (n : Node). n.priority) there in
    let named : shape_of k ≡ JunctionNode flag (at + 1) (at + 1 + size (f (at + 1))) = kind ∙ ap (JunctionNode flag (at + 1)) middle in
    node_set xs old (front ++ back) slot i (record { kind = k; priority = x.priority }) is start
    ∙ (λ j. old ++ record { shape = named j; priority = same j } ∷ (front ++ back))

-- Two operands are written: a node first, which is put right when the numbers are known, and then the one and the other.
pub junction_writes : (old first left right : Preorder) (i : ℕ) (x : declared.Node.Node) (k : declared.Kind.Kind) (slot : Shape) (flag : Bool) (f g : ℕ → Norm)
    → i ≡ vec_len old.nodes → nodes_of first.nodes.items ≡ nodes_of old.nodes.items
    ++ record { shape = slot; priority = slice_index old.priorities.now (vec_len old.nodes) } ∷ [] → vec_len first.nodes ≡ vec_len old.nodes + 1
    → first.priorities ≡ old.priorities
    → Writes first left (f (vec_len first.nodes)) → Writes left right (g (vec_len left.nodes)) → x ≡ get_or right.nodes.items i x
    → shape_of k ≡ JunctionNode flag (vec_len old.nodes + 1) (vec_len left.nodes)
    → Writes old (record right { nodes = with_item right.nodes i (record { kind = k; priority = x.priority }) }) (two flag f g (vec_len old.nodes))
junction_writes old first left right i x k slot flag f g start reserved next same w v read kind =
    let at_is : vec_len old.nodes ≡ length (nodes_of old.nodes.items) = omega (arith, old.nodes.ok.0, length-map old.nodes.items node_of) in
    let count : vec_len left.nodes ≡ length (nodes_of left.nodes.items) = omega (arith, left.nodes.ok.0, length-map left.nodes.items node_of) in
    let a : Follows old.priorities.now (vec_len first.nodes) (nodes_of first.nodes.items) (nodes_of left.nodes.items) (f (vec_len first.nodes)) = rw
    (← same) w.nodes in
    let b : Follows old.priorities.now (vec_len left.nodes) (nodes_of left.nodes.items) (nodes_of right.nodes.items) (g (vec_len left.nodes)) = rw
    (← same, ← w.priorities) v.nodes in
    record {
      nodes = junction_nodes old.priorities.now i (vec_len old.nodes) (vec_len first.nodes) (vec_len left.nodes) (nodes_of old.nodes.items)
          (nodes_of first.nodes.items) (nodes_of left.nodes.items) right.nodes.items x k slot flag f g
          (start ∙ at_is) reserved at_is next a count b read kind;
      priorities = v.priorities ∙ (w.priorities ∙ same);
    }
