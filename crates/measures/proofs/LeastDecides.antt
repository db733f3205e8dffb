-- The least progress table tells who wins.
use Rattle.measures.proofs.Common.{◌≢◌, ◌↔◌, ℕ, List, subst, Game, IsGame, Wins, Measure, Top, IsAtMost, IsLeastTable, value_at}
use Rattle.measures.proofs.Measures.{top_last}
use Rattle.measures.proofs.TableWins.{table_wins}
use Rattle.measures.proofs.StrategyTable.{wins_table}

pub least_decides : (g : Game) → IsGame g → (table : List Measure) → IsLeastTable g table → (v : ℕ) → (value_at table v ≢ Top) ↔ Wins g v
least_decides g game table is v = ((λ n. (table_wins g table game is.progress v n).0), back)
  where
    back : Wins g v → value_at table v ≢ Top
    back w e =
        let other = wins_table g v w in
        other.2 (top_last (value_at other.0 v) (subst (λ m. IsAtMost m (value_at other.0 v)) e (is.under v (w.strategy.inside v w.has) other.0 other.1)))
