-- What a normal form of the program shows.
use Rattle.std.specs.Prelude.{ℕ, List}
use Rattle.calculus.specs.Nodes.{Node}
use Rattle.calculus.specs.NodeView.{nodes_of}
use Rattle.calculus.specs.declared.form.Normal.{Normal}

abbrev pub normal_nodes : Normal → List Node
normal_nodes n = nodes_of n.nodes.items

abbrev pub normal_depth : Normal → ℕ
normal_depth n = n.depth
