use Rattle.std.proofs.Common.{◌≡◌, ◌+◌, ◌≤◌, ℕ, true, vec_len, arith, rules, ap, ◌∙◌}
use Rattle.calculus.specs.NormalTree.{Norm, size, two, JunctionNode}
use Rattle.calculus.specs.NodeView.{shape_of}
use Rattle.normal.specs.Part.{tree_of}
use Rattle.normal.proofs.Writing.{junction_writes, writes_length}
use Rattle.normal.proofs.write.Preorder.+part.Goals as goal

pub formula-returns-in-Dia : goal.formula-returns-in-Dia
formula-returns-in-Dia t c = rw (c.in-Dia.is, ← c.deref-in-Dia.ensures) c.modal.ensures

pub formula-returns-in-Box : goal.formula-returns-in-Box
formula-returns-in-Box t c = rw (c.in-Box.is, ← c.deref-in-Box.ensures) c.modal-in-Box.ensures

pub formula-returns-in-Mu : goal.formula-returns-in-Mu
formula-returns-in-Mu t c =
    let count : c.len-at.result ≡ vec_len c.args.self.now.nodes = search rules in
    rw (c.in-Mu.is, ← c.deref-in-Mu-2.ensures, ← c.deref-in-Mu.ensures.value) (rw count at c.fixpoint.ensures)

pub formula-returns-in-Nu : goal.formula-returns-in-Nu
formula-returns-in-Nu t c =
    let count : c.len-at.result ≡ vec_len c.args.self.now.nodes = search rules in
    rw (c.in-Nu.is, ← c.deref-in-Nu-2.ensures, ← c.deref-in-Nu.ensures.value) (rw count at c.fixpoint-in-Nu.ensures)

-- the number of the right operand's first node
right_begins : (a b c : ℕ) (f : ℕ → Norm) → b ≡ a + 1 → c ≡ b + size (f b) → c ≡ a + 1 + size (f (a + 1))
right_begins a b c f e k = k ∙ ap (λ n. n + size (f n)) e

-- .. for whose nodes there is room
right_fits : (a c : ℕ) (f g : ℕ → Norm) → c ≡ a + 1 + size (f (a + 1)) → a + size (two true f g a) ≤ 4096 → c + size (g c) ≤ 4096
right_fits a c f g e h = rw e (omega (arith, h))

pub junction-overflow_cast-middle : goal.junction-overflow_cast-middle
junction-overflow_cast-middle t c =
    let count : c.len-middle.result ≡ vec_len c.part.new.self.nodes = search rules in
    let left = tree_of c.args.left.now in
    let begins = right_begins (vec_len c.args.self.now.nodes) _ _ left c.in_ok-leaf.ensures.count
    (writes_length c.leaf.new.self c.part.new.self _ c.in_ok-part.ensures) in
    omega (arith, count, begins, c.requires)

pub junction-part-requires-2 : goal.junction-part-requires-2
junction-part-requires-2 t c =
    let at = vec_len c.args.self.now.nodes in
    let left = tree_of c.args.left.now in
    let begins = right_begins at _ _ left c.in_ok-leaf.ensures.count (writes_length c.leaf.new.self c.part.new.self _ c.in_ok-part.ensures) in
    (search rules, right_fits at _ left (tree_of c.args.right.now) begins c.requires)

pub junction-index_mut-requires : goal.junction-index_mut-requires
junction-index_mut-requires t c =
    let count : c.len-at.result ≡ vec_len c.args.self.now.nodes = search rules in
    omega (
      arith,
      count,
      c.in_ok-leaf.ensures.count,
      writes_length c.leaf.new.self c.part.new.self _ c.in_ok-part.ensures,
      writes_length c.part.new.self c.part-2.new.self _ c.in_ok-part-2.ensures,
    )

pub junction-returns : goal.junction-returns
junction-returns t c =
    let a = c.args.self.now in
    let count : c.len-at.result ≡ vec_len a.nodes = search rules in
    let second : c.len-middle.result ≡ vec_len c.part.new.self.nodes = search rules in
    let kind : shape_of c.junction_of.result ≡ JunctionNode c.args.flag (vec_len a.nodes + 1) (vec_len c.part.new.self.nodes) = c.junction_of.ensures
    ∙ (λ j. JunctionNode c.args.flag (count j + 1) (second j)) in
    junction_writes a c.leaf.new.self c.part.new.self c.part-2.new.self c.len-at.result c.index_mut.result.now c.junction_of.result _ c.args.flag
    (tree_of c.args.left.now) (tree_of c.args.right.now)
    count c.in_ok-leaf.ensures.nodes c.in_ok-leaf.ensures.count c.leaf.ensures.priorities c.in_ok-part.ensures c.in_ok-part-2.ensures
    c.index_mut.ensures.value kind
