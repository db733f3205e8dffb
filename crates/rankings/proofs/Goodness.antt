-- From what is tested of each node and state to the ranking of the arena, and to the marks.
use Rattle.std.proofs.Common.{◌≡◌, ℕ, ◌+◌, ◌*◌, ◌<◌, ◌≤◌, Bool, List, [], ◌∷◌, length, refl, sym, ap, subst, ◌∙◌, arith}
use Rattle.std.specs.Prelude.{Some, slice_get, ◌↔◌}
use Rattle.systems.specs.System.{System}
use Rattle.calculus.specs.Meaning.{MarksOf, marked}
use Rattle.calculus.specs.Form.{IsForm}
use Rattle.calculus.specs.Nodes.{Node}
use Rattle.game.specs.declared.player.Player.TheVariants.{Even}
use Rattle.game.specs.Arena.{arena, place, vertex_of}
use Rattle.game.specs.Wins.{Wins}
use Rattle.rankings.specs.Cells.{Cells, cell, number_in, ranking_of}
use Rattle.rankings.specs.Laws.{RankingDecides}
use Rattle.rankings.specs.Ranking.{IsGoodRanking, IsRanked, IsRising, winner_of}
use Rattle.rankings.proofs.Places.{arena_closed, each_vertex, number_at, place_below}
use Rattle.rankings.proofs.Ranked.{ranked_one}

pub good_from : (c : Cells) (l : System) (nodes : List Node) → length c.nodes ≡ length nodes → IsRising (ranking_of c)
    → ((s k : ℕ) (node : Node) → s < l.states → slice_get nodes k ≡ Some node → IsRanked (ranking_of c) (cell c k s) (vertex_of l (length c.nodes) s node))
    → IsGoodRanking (arena l nodes) (ranking_of c)
good_from c l nodes e rising ranked = record {
  rising = rising;
  ranked = each_vertex l nodes (λ u y. IsRanked (ranking_of c) (number_in c u) y)
      (ranked_one (ranking_of c) 0 0 (record { owner = Even; priority = 0; successors = 0 ∷ [] }) refl
      (record { winner = refl; stays = omega arith; falls = λ f. absurd (omega (arith, f)) }))
      (ranked_one (ranking_of c) 1 1 (record { owner = Even; priority = 1; successors = 1 ∷ [] }) refl
      (record { winner = refl; stays = omega arith; falls = λ f. absurd (omega (arith, f)) }))
      (λ s k node below at low.
      subst (λ m. IsRanked (ranking_of c) m (vertex_of l (length nodes) s node)) (sym (number_at c (length nodes) s k e low))
      (subst (λ n. IsRanked (ranking_of c) (cell c k s) (vertex_of l n s node)) e (ranked s k node below at)));
}

pub marks_win : (c : Cells) (l : System) (nodes : List Node) (marks : List Bool) → RankingDecides → IsForm nodes → 2 + l.states * length nodes ≤ 16777216
    → length c.nodes ≡ length nodes → IsGoodRanking (arena l nodes) (ranking_of c) → MarksOf l.states marks (λ s. winner_of (cell c 0 s) ≡ Even)
    → MarksOf l.states marks (λ s. Wins (arena l nodes) (place (length nodes) s 0))
marks_win c l nodes marks decides form few e good m = record { count = m.count; exact = exact }
  where
    some : 0 < length nodes
    some = let h = form.some in omega arith

    exact : (s : ℕ) → s < l.states → marked marks s ↔ Wins (arena l nodes) (place (length nodes) s 0)
    exact s h =
        let d = decides (arena l nodes) (ranking_of c) (arena_closed l nodes form few) good (place (length nodes) s 0) (place_below l nodes s 0 h some) in
        let q : winner_of (number_in c (place (length nodes) s 0)) ≡ winner_of (cell c 0 s) = ap winner_of (number_at c (length nodes) s 0 e some) in
        (λ mark. d.1 (q ∙ (m.exact s h).0 mark), λ w. (m.exact s h).1 (sym q ∙ d.0 w))
