-- One of the two least tables tells of each vertex, the game's or its dual's.
use Rattle.measures.proofs.Common.{◌≡◌, ◌≢◌, ◌↔◌, ℕ, ◌<◌, ◌≤◌, ◌⊎◌, List, length, refl, inl, inr, Odd, Game, IsGame, dual, greatest, Measure, Top, Counts}
use Rattle.measures.proofs.Common.{IsLeastTable, value_at}
use Rattle.measures.proofs.LeastDecides.{least_decides}
use Rattle.measures.proofs.NotBoth.{not_both_win}
use Rattle.laws.proofs.OneWins.{one_wins}
use Rattle.game.proofs.Duals.{dual_game}
use Rattle.measures.proofs.Dual.{wins_dual, dual_wins}

top_or : (m : Measure) → (m ≡ Top) ⊎ (m ≢ Top)
top_or Top = inl refl
top_or (Counts c) = inr (λ e. cc)

pub top_exactly : (g : Game) → IsGame g → greatest g ≤ 31 → (table other : List Measure) → IsLeastTable g table → IsLeastTable (dual g) other
    → (v : ℕ) → v < length g.vertices → (value_at table v ≡ Top) ↔ (value_at other v ≢ Top)
top_exactly g game l table other is others v h = (there, back)
  where
    there : value_at table v ≡ Top → value_at other v ≢ Top
    there e = elim (one_wins g game v h) [
      | inl w ↦ absurd ((least_decides g game table is v).1 w e)
      | inr o ↦ (least_decides (dual g) (dual_game g game l) other others v).1 (wins_dual g Odd v o)
    ]

    back : value_at other v ≢ Top → value_at table v ≡ Top
    back n = elim (top_or (value_at table v)) [
      | inl e ↦ e
      | inr m ↦ absurd (not_both_win g v ((least_decides g game table is v).0 m)
          (dual_wins g Odd v ((least_decides (dual g) (dual_game g game l) other others v).0 n)))
    ]
