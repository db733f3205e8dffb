-- The names of other libraries that most proofs here use.
pub use Rattle.std.proofs.Common.{AllPairs, Bool, Contains, IsSome, IsTrue, List, MatchBool, None, Option, Some, [], add-one, ap, append_assoc, ap₂, arith}
pub use Rattle.std.proofs.Common.{below_more, cond, count_by, drop, eq-eqb, eqb-true, false, get_or, if◌then◌else◌, inl, inr, le-leb, le_trans, length}
pub use Rattle.std.proofs.Common.{length-append, length-drop, length-take-le, lt-ltb, lt_of_le_of_lt, lt_of_lt_of_le, lt_trans, ltb-true, map, max}
pub use Rattle.std.proofs.Common.{mul-le-mul_right, nat_eq, nat_le, nat_lt, not, option_map, refl, replicate, rules, slice_get, slice_index, slice_index_or}
pub use Rattle.std.proofs.Common.{slice_set, subst, suc, sym, take, true, true≢false, zero, ℕ, ◌%◌, ◌&&◌, ◌*◌, ◌++◌, ◌+◌, ◌-◌, ◌/◌, ◌<◌, ◌==◌, ◌||◌, ◌↔◌, ◌∙◌}
pub use Rattle.std.proofs.Common.{◌∷◌, ◌≡◌, ◌≢◌, ◌≤◌, ◌⊎◌}
pub use Rattle.game.specs.Game.{Game, IsGame, IsVertex, Vertex, count, dual, greatest, greatest_of, opponent, vertex}
pub use Rattle.measures.specs.Measure.{Counts, IsAtMost, IsBelow, IsMeasure, IsProg, IsRank, Measure, Reaches, Top, components, is_odd, kept, measure_cmp}
pub use Rattle.measures.specs.Measure.{odd_down}
pub use Rattle.measures.specs.Progress.{IsBestFor, IsLeastTable, IsLiftAt, IsProgress, IsTable, greater_of, opening, opening_from, opening_value, value_at}
pub use Rattle.measures.specs.Progress.{zeros}
pub use Rattle.std.proofs.lemmas.List.{drop_all, ext_get_or, get_or-map, get_or-replicate, get_or-set_other, get_or-set_same, get_or_default, get_or_past}
pub use Rattle.std.proofs.lemmas.List.{length-map, length-replicate, length-set, replicate-append-replicate, take_all, with_items_is}
pub use Rattle.std.proofs.lemmas.Bool.Decides.{eqb_tells, leb_tells}
pub use Rattle.std.specs.List.{AllByRecursion, AllZip, range_with_len}
pub use Rattle.game.specs.declared.player.Player.TheVariants.{Even, Odd}
pub use Rattle.game.specs.declared.player.Player.{Player}
pub use Rattle.measures.specs.View.{HasWidth, ReachesAt, Rows, counts_of, is_top_of, measure_of, rows_of}
pub use Rattle.std.proofs.lemmas.Option.{get_or_from_slice_get, slice_get-get_or, slice_get-map, slice_get_cases, slice_get_within}
pub use Rattle.game.specs.Wins.{Edge, IsOf, IsStrategy, OddWins, Wins, WinsBy, greatest_met, priority_at}
pub use Rattle.measures.specs.Tables.{IsOpening, IsPlain, IsSettled, IsTableStored, LiesBelow, GameTable}
pub use Rattle.measures.specs.Lifting.{AreLifts, AreRises, IsLifted, code, decode, height, rank, lists_up_to, sum_of, total}
pub use Rattle.std.proofs.lemmas.Slice.Zip.{AllZip-long}
pub use Rattle.measures.specs.Progs.{AreAtBounds, IsBetter, IsDemandOf, IsLiftOf, IsProgAt, IsProgUnder, bounds}
pub use Rattle.std.specs.Ordering.{is_gt, is_le, is_lt, nat_cmp}
pub use Rattle.std.proofs.lemmas.List.Elements.{All-from_recursion, AllZip-get_or, Contains-append_left, Contains-append_right}
pub use Rattle.systems.specs.Path.{IsPath}
pub use Rattle.std.proofs.lemmas.List.FromFn.{get_or-map-range_with_len, length-map-range_with_len, length-range_with_len}
pub use Rattle.measures.specs.Settling.{IsStill, Sweeps}
pub use Rattle.std.specs.declared.cmp.Ordering.{Ordering}
pub use Rattle.std.specs.Cmp.Lexicographic.{same_text, slice_cmp}
pub use Rattle.std.proofs.lemmas.Bool.{and_from, and_parts}
pub use Rattle.std.proofs.lemmas.List.Sums.{count_by-le-length, sum_by-cons}
pub use Rattle.std.proofs.Math.Seq.{drop-append_seam, take-add, take-append_seam, take-suc}
pub use Rattle.std.specs.declared.cmp.Ordering.TheVariants.{Equal, Greater, Less}
pub use Rattle.measures.specs.Laws.{IsLeastSuccessor}
