-- From the least measures of an arena to the marks, and to what is found by them.
use Rattle.std.proofs.Common.{◌≡◌, ◌≢◌, ◌+◌, ◌*◌, ◌<◌, ◌≤◌, ℕ, Bool, true, false, not, true≢false, List, length, refl, subst, sym}
use Rattle.std.specs.Prelude.{◌↔◌, IsTrue}
use Rattle.systems.specs.System.{System}
use Rattle.calculus.specs.Form.{IsForm}
use Rattle.calculus.specs.Meaning.{MarksOf, marked}
use Rattle.calculus.specs.Nodes.{Node}
use Rattle.game.specs.declared.player.Player.TheVariants.{Even}
use Rattle.game.specs.Arena.{arena, place}
use Rattle.game.specs.Wins.{Wins}
use Rattle.game.proofs.Arenas.{arena_is_game}
use Rattle.measures.specs.Laws.{LeastDecides}
use Rattle.measures.specs.Measure.{Measure, Top}
use Rattle.measures.specs.Progress.{value_at}
use Rattle.measures.specs.StoredProposal.{values_of}
use Rattle.measures.specs.declared.proposal.Proposals.{Proposals}
use Rattle.verdicts.specs.Findings.{AreLeastOf}

-- Even wins where the least measure isn't top.
pub least_won : (l : System) (ns : List Node) (c : Proposals) (n : ℕ) (marks : List Bool) → LeastDecides → IsForm ns → 2 + l.states * length ns ≤ 16777216
    → AreLeastOf l ns c → n ≡ length ns → MarksOf l.states marks (λ s. value_at (values_of Even c) (place n s 0) ≢ Top)
    → MarksOf l.states marks (λ s. Wins (arena l ns) (place (length ns) s 0))
least_won l ns c n marks decides form few least e m = record { count = m.count; exact = exact }
  where
    exact : (s : ℕ) → s < l.states → marked marks s ↔ Wins (arena l ns) (place (length ns) s 0)
    exact s h =
        let d = decides (arena l ns) (arena_is_game l ns form few) (values_of Even c) least.even (place (length ns) s 0) in
        let a = subst (λ k. marked marks s ↔ (value_at (values_of Even c) (place k s 0) ≢ Top)) e (m.exact s h) in
        (λ mark. d.0 (a.0 mark), λ w. a.1 (d.1 w))

-- What isn't top is marked.
pub won_mark : (lost : Bool) (m own : Measure) → own ≡ m → (IsTrue lost ↔ (own ≡ Top)) → IsTrue (not lost) ↔ (m ≢ Top)
won_mark lost m own e is = subst (λ (n : Measure). IsTrue (not lost) ↔ (n ≢ Top)) e (by lost is)
  where
    by : (b : Bool) → (IsTrue b ↔ (own ≡ Top)) → IsTrue (not b) ↔ (own ≢ Top)
    by true h = ((λ f. absurd (true≢false (sym f))), (λ no. absurd (no (h.0 refl))))
    by false h = ((λ yes top. true≢false (sym (h.1 top))), (λ no. refl))
