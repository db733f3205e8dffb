-- The names of other libraries that most proofs here use.
pub use Rattle.std.proofs.Common.{Bool, Global, List, MatchOption, None, Option, Some, Vec, [], ap, append_assoc, arith, cond, drop, eq-eqb, false, filter}
pub use Rattle.std.proofs.Common.{get_or, inl, inr, length, length-append, length-drop, length-take, map, refl, rules, slice_index, slice_index_or, subst}
pub use Rattle.std.proofs.Common.{suc, sym, take, true, true≢false, vec_len, zero, ℕ, ◌&&◌, ◌*◌, ◌++◌, ◌+◌, ◌-◌, ◌<◌, ◌==◌, ◌||◌, ◌∙◌, ◌∷◌, ◌≡◌, ◌≤◌}
pub use Rattle.std.proofs.lemmas.List.{append-nil, drop-append-le, drop_more, get_or-map, get_or-replicate, get_or_past, length-map, map-append}
pub use Rattle.std.proofs.lemmas.List.{take-append-le, take_all, take_more}
pub use Rattle.std.specs.List.{AllByRecursion, list_all, list_any, range_with_len, sum_by}
pub use Rattle.game.specs.Arena.{arena, is_step, or_else, owner_of, place, rows, sink, successors_of, targets, vertex_of}
pub use Rattle.game.specs.Steps.{IsRowOf, picks, successors_by, vertex_by}
pub use Rattle.calculus.specs.Taken.{IsSetFor, IsSetOf, is_in}
pub use Rattle.game.specs.Game.{Game, IsAscending, IsGame, IsVertex, Vertex, count, vertex}
pub use Rattle.std.specs.Prelude.{count_by, if◌then◌else◌, nat_le, nat_lt, not, option_map, slice_get}
pub use Rattle.calculus.specs.Normal.{normal_nodes}
pub use Rattle.calculus.specs.Nodes.{Node}
pub use Rattle.game.specs.View.{AreStored, game_of, moved, vertex_of_row, vertices_of}
pub use Rattle.std.proofs.lemmas.Option.{get_or_from_slice_get, slice_get-map, slice_get_read, slice_get_within}
pub use Rattle.systems.specs.declared.system.Transition.{Transition}
pub use Rattle.std.proofs.lemmas.Nat.{mul-add-lt}
pub use Rattle.game.specs.declared.graph.VertexRow.{VertexRow}
pub use Rattle.std.proofs.lemmas.Grind.{common_steps}
pub use Rattle.calculus.specs.NodeView.{node_of, nodes_of}
pub use Rattle.systems.specs.Numbered.{IsInside, Numbered, arrow_of, arrows_from, label_at}
pub use Rattle.std.proofs.lemmas.Bool.{and_cases, and_from, and_left, and_parts, and_right, eqb-false, le-leb, leb-false, leb-true, lt-leb, lt-ltb, ltb-true}
pub use Rattle.std.proofs.lemmas.Bool.{ne_eqb}
pub use Rattle.systems.specs.System.{Arrow, System}
pub use Rattle.std.proofs.lemmas.Bool.Decides.{eqb_tells, leb_tells}
pub use Rattle.game.specs.Rises.{rises}
pub use Rattle.game.specs.declared.player.Player.TheVariants.{Even}
pub use Rattle.std.proofs.lemmas.List.Elements.{All-from_recursion, recursion_from_All}
pub use Rattle.std.proofs.Math.Seq.{drop-append-add, drop-append_seam, get_or-append_seam}
pub use Rattle.std.proofs.lemmas.List.Sorted.{All-permutation, IsNonDecreasingBy-from_sort_by_key, list_any-IsPermutation}
pub use Rattle.calculus.specs.Form.{IsForm, IsNode, IsShape}
pub use Rattle.calculus.specs.Holds.{holds}
pub use Rattle.calculus.specs.NormalTree.{ConstantNode, FixpointNode, JunctionNode, ModalityNode, Shape, VariableNode}
