-- What writing the nodes of a part does.
use Rattle.std.specs.Prelude.{◌≡◌, vec_len, ◌++◌}
use Rattle.calculus.specs.NormalTree.{Norm}
use Rattle.calculus.specs.Nodes.{nodes_by}
use Rattle.normal.specs.Surveys.{noted_rule}
use Rattle.calculus.specs.NodeView.{nodes_of}
use Rattle.normal.specs.declared.write.Preorder.{Preorder}

-- The nodes of the tree follow the old ones, each with the priority of its number, and the priorities stay.
pub record Writes (old new : Preorder) (f : Norm) : Type 0 where
  pub nodes : nodes_of new.nodes.items ≡ nodes_of old.nodes.items ++ nodes_by (noted_rule old.priorities.now) (vec_len old.nodes) f
  pub priorities : new.priorities ≡ old.priorities
