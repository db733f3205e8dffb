-- The nodes of a normal form.
use Rattle.std.proofs.Common.{◌≤◌, ℕ, length, arith}
use Rattle.calculus.specs.Tree.{Formula}
use Rattle.calculus.specs.NormalTree.{Norm, Constant, Junction, Modality, Fixpoint, Variable, normal_form}
use Rattle.calculus.specs.Nodes.{Rule, nodes_by}
use Rattle.calculus.specs.Rules.{nodes_with, rule_of}
use Rattle.calculus.specs.declared.priorities.Priorities.{Priorities}

nodes_some_by : (rule : Rule) (at : ℕ) (f : Norm) → 1 ≤ length (nodes_by rule at f)
nodes_some_by rule at (Constant flag) = omega arith
nodes_some_by rule at (Junction flag f g) = omega arith
nodes_some_by rule at (Modality flag a f) = omega arith
nodes_some_by rule at (Fixpoint flag f) = omega arith
nodes_some_by rule at (Variable binder) = omega arith

-- a normal form has a node
pub nodes_some : (priorities : Priorities) (f : Formula) → 1 ≤ length (nodes_with priorities f)
nodes_some priorities f = nodes_some_by (rule_of priorities) 0 (normal_form f)
