-- Where Even doesn't win, top is at most the value of every progress table.
use Rattle.measures.proofs.Common.{◌≢◌, ℕ, List, Game, IsGame, Wins, Measure, Top, Counts, IsAtMost, IsProgress, value_at, LiesBelow}
use Rattle.measures.proofs.Measures.{at_most_top}
use Rattle.measures.proofs.TableWins.{table_wins}

pub lost_below : (g : Game) (v : ℕ) → IsGame g → (Wins g v → ⊥) → LiesBelow g v Top
lost_below g v game lost = record { measure = tt; under = under }
  where
    under : (other : List Measure) → IsProgress g other → IsAtMost Top (value_at other v)
    under other is = by (value_at other v) (λ low. lost (table_wins g other game is v low).0)
      where
        by : (m : Measure) → (m ≢ Top → ⊥) → IsAtMost Top m
        by Top f = at_most_top Top
        by (Counts c) f = absurd (f (λ e. absurd cc))
