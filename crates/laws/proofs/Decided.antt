-- Both halves joined: Even wins, and the least progress table isn't top, exactly where the state is in the meaning.
use Rattle.std.proofs.Common.{◌≢◌, ℕ, ◌<◌, ◌↔◌, List, length, subst, arith}
use Rattle.systems.specs.System.{System, IsSystem}
use Rattle.calculus.specs.Tree.{Formula}
use Rattle.calculus.specs.Admitted.{IsAdmitted}
use Rattle.calculus.specs.Meaning.{no_sets, Satisfies}
use Rattle.calculus.specs.NormalTree.{Norm, normal_form}
use Rattle.calculus.specs.Nodes.{Node, nodes}
use Rattle.game.specs.Game.{Game}
use Rattle.game.specs.Wins.{Wins}
use Rattle.game.specs.Arena.{arena, place}
use Rattle.measures.specs.Measure.{Measure, Top, IsAtMost}
use Rattle.measures.specs.Progress.{IsProgress, IsLeastTable, value_at}
use Rattle.measures.proofs.Measures.{top_last}
use Rattle.measures.proofs.StrategyTable.{wins_table}
use Rattle.calculus.proofs.Sizes.{size_some}
use Rattle.laws.specs.Admissible.{IsNodes}
use Rattle.laws.specs.NodeMeaning.{node_mean}
use Rattle.laws.specs.Laws.{EvenWinsWhereMeant, LeastTableDecides, EvenWinsFormula, LeastTableFormula, NestedWins, NestedTableDecides}
use Rattle.laws.proofs.Vertices.{count_nodes}
use Rattle.laws.proofs.Spelled.{root_means}
use Rattle.laws.proofs.Sound.{tables_are_sound}
use Rattle.laws.proofs.Wins.{meaning_wins}
use Rattle.laws.proofs.Normed.{normal_form_means}
use Rattle.laws.proofs.Nested.{nested_is_admissible}

-- the least table isn't top where another progress table isn't
under_least : (g : Game) (table : List Measure) (v : ℕ) → IsLeastTable g table → v < length g.vertices → (t : List Measure) × IsProgress g t
    × (value_at t v ≢ Top) → value_at table v ≢ Top
under_least g table v least lt w e = w.2 (top_last (value_at w.0 v) (subst (λ m. IsAtMost m (value_at w.0 v)) e (least.under v lt w.0 w.1)))

wins_inside : (g : Game) (v : ℕ) → Wins g v → v < length g.vertices
wins_inside g v w = w.strategy.inside v w.has

-- from a strategy a table, from the table the meaning; from the meaning a strategy
pub even_wins_where_meant : EvenWinsWhereMeant
even_wins_where_meant l f ns ok are s k lt within = (
  λ w. let t = wins_table (arena l ns) (place (length ns) s k) w in tables_are_sound l f ns t.0 ok are t.1 s k lt within t.2,
  λ h. let w = meaning_wins l f ns ok are in record { set = w.set; choice = w.choice; has = w.has s k lt h; strategy = w.strategy },
)

-- the least table is one that is sound, and not above the strategy's
pub least_table_decides : LeastTableDecides
least_table_decides l f ns table ok are least s k lt within = (
  λ finite. tables_are_sound l f ns table ok are least.progress s k lt within finite,
  λ h.
      let v : ℕ = place (length ns) s k in
      let w = (even_wins_where_meant l f ns ok are s k lt within).1 h in
      under_least (arena l ns) table v least (wins_inside (arena l ns) v w) (wins_table (arena l ns) v w),
)

-- the meaning of the root is the formula's
root_satisfies : (l : System) (f : Formula) (ns : List Node) → IsSystem l → IsAdmitted f → IsNodes (normal_form f) ns → (s : ℕ) → s < l.states
    → node_mean l 0 (normal_form f) no_sets 0 s ↔ Satisfies l f s
root_satisfies l f ns ok admitted are s lt =
    let i = root_means l (normal_form f) ok s lt in
    let j = normal_form_means l f ok admitted s lt in
    (λ h. j.0 (i.0 h), λ h. i.1 (j.1 h))

some_node : (f : Norm) (ns : List Node) → IsNodes f ns → 0 < length ns
some_node f ns are = let e = count_nodes f ns are in let h = size_some f in omega arith

-- at the root the meaning is that of the formula that went in
pub even_wins_formula : EvenWinsFormula
even_wins_formula l f ns ok admitted are s lt =
    let i = even_wins_where_meant l (normal_form f) ns ok are s 0 lt (some_node (normal_form f) ns are) in
    let j = root_satisfies l f ns ok admitted are s lt in
    (λ w. j.0 (i.0 w), λ h. i.1 (j.1 h))

-- the same of the least table
pub least_table_formula : LeastTableFormula
least_table_formula l f ns table ok admitted are least s lt =
    let i = least_table_decides l (normal_form f) ns table ok are least s 0 lt (some_node (normal_form f) ns are) in
    let j = root_satisfies l f ns ok admitted are s lt in
    (λ w. j.0 (i.0 w), λ h. i.1 (j.1 h))

-- at the nested priorities
pub nested_wins : NestedWins
nested_wins l f ok admitted s lt = even_wins_formula l f (nodes f) ok admitted (nested_is_admissible f admitted) s lt

-- the same of the least table
pub nested_table_decides : NestedTableDecides
nested_table_decides l f table ok admitted least s lt = least_table_formula l f (nodes f) table ok admitted (nested_is_admissible f admitted) least s lt
