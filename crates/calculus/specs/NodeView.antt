-- What the nodes of the program stand for.
use Rattle.std.specs.Prelude.{true, false, List, map}
use Rattle.calculus.specs.View.{action_of}
use Rattle.calculus.specs.NormalTree.{Shape, ConstantNode, JunctionNode, ModalityNode, FixpointNode, VariableNode}
use Rattle.calculus.specs.Nodes as model
use Rattle.calculus.specs.declared.node.Kind.{Kind}
use Rattle.calculus.specs.declared.node.Kind.TheVariants as kind
use Rattle.calculus.specs.declared.node.Node.{Node}

abbrev pub shape_of : Kind → Shape
shape_of kind.True = ConstantNode true
shape_of kind.False = ConstantNode false
shape_of (kind.And l r) = JunctionNode false l r
shape_of (kind.Or l r) = JunctionNode true l r
shape_of (kind.Dia a f) = ModalityNode true (action_of a) f
shape_of (kind.Box a f) = ModalityNode false (action_of a) f
shape_of (kind.Mu f) = FixpointNode true f
shape_of (kind.Nu f) = FixpointNode false f
shape_of (kind.Var b) = VariableNode b

abbrev pub node_of : Node → model.Node
node_of x = record { shape = shape_of x.kind; priority = x.priority }

abbrev pub nodes_of : List Node → List model.Node
nodes_of nodes = map node_of nodes
