-- Evidence that is written from least measures.
use Rattle.std.proofs.Common.{◌≡◌, ◌+◌, ◌*◌, ◌≤◌, Bool, List, Some, length, refl, subst, sym}
use Rattle.systems.specs.System.{System}
use Rattle.calculus.specs.Form.{IsForm}
use Rattle.calculus.specs.Nodes.{Node}
use Rattle.calculus.specs.Normal.{normal_nodes}
use Rattle.calculus.specs.Tree.{Formula}
use Rattle.calculus.specs.declared.priorities.Priorities.{Priorities}
use Rattle.game.specs.declared.limits.TheConstants.{MOST_VERTICES}
use Rattle.game.specs.declared.player.Player.{Player}
use Rattle.game.specs.declared.player.Player.TheVariants.{Even, Odd}
use Rattle.game.specs.Arena.{arena}
use Rattle.game.specs.Game.{dual}
use Rattle.game.proofs.Arenas.{arena_is_game, arena_low}
use Rattle.measures.specs.Progress.{IsLeastTable}
use Rattle.measures.specs.StoredProposal.{game_for, values_of}
use Rattle.evidence.specs.Best.{IsEvenOf, IsOddOf}
use Rattle.evidence.specs.Canon.{evidence_text}
use Rattle.evidence.specs.Evidence.{Evidence}
use Rattle.evidence.specs.Laws.{BestExists}
use Rattle.workers.specs.declared.team.BoardKind.{BoardKind}
use Rattle.requests.specs.Check.{ByGame, IsTextOf}
use Rattle.requests.specs.Writers.{EvenText, OddText}
use Rattle.rankings.specs.Least.{AreWinnersMoves}
use Rattle.verdicts.specs.declared.evidence_text.LeastMeasures.{LeastMeasures}
use Rattle.verdicts.specs.declared.proposing.LeastFound.{LeastFound}
use Rattle.verdicts.specs.EvidenceText.{AreLeastMeasures}
use Rattle.verdicts.specs.Findings.{IsLeastFound}

module _ (rule : Priorities) (board : BoardKind) (l : System) (f : Formula) (x : LeastFound) (is : IsLeastFound rule board l f x) where
  abbrev ns : List Node
  ns = normal_nodes x.form

  few_here : 2 + l.states * length ns ≤ MOST_VERTICES
  few_here = subst (λ (xs : List Node). 2 + l.states * length xs ≤ MOST_VERTICES) (sym is.form) is.within.vertices

  least_for : (p : Player) → IsLeastTable (game_for p (arena l ns)) (values_of p x.proposals)
  least_for Even = subst (λ (xs : List Node). IsLeastTable (arena l xs) (values_of Even x.proposals)) (sym is.form) is.least.even
  least_for Odd = subst (λ (xs : List Node). IsLeastTable (dual (arena l xs)) (values_of Odd x.proposals)) (sym is.form) is.least.odd

  -- what evidence is written from
  pub least_here : (m : LeastMeasures) → m.proposals.now ≡ x.proposals → m.moves.now ≡ x.moves.items → AreLeastMeasures m (arena l ns)
  least_here m proposals moves = record {
    least = subst (λ c. IsLeastTable (game_for m.player (arena l ns)) (values_of m.player c)) (sym proposals) (least_for m.player);
    moves = subst (λ c. AreWinnersMoves c (arena l ns) m.moves.now) (sym proposals) (subst (AreWinnersMoves x.proposals (arena l ns)) (sym moves)
        (subst (λ (xs : List Node). AreWinnersMoves x.proposals (arena l xs) x.moves.items) (sym is.form) is.moves));
  }

  -- both players' evidence
  module _ (best : BestExists) (form : IsForm ns) (marks : List Bool) where
    pub even_found : (e : Evidence) × IsEvenOf (arena l ns) e × IsTextOf (ByGame rule (Some board)) l f marks EvenText (evidence_text e)
    even_found = let w = (best (arena l ns) (arena_is_game l ns form few_here)).0 in
        (w.0, w.1, (w.0, subst (λ (xs : List Node). IsEvenOf (arena l xs) w.0) is.form w.1, refl))

    pub odd_found : (e : Evidence) × IsOddOf (arena l ns) e × IsTextOf (ByGame rule (Some board)) l f marks OddText (evidence_text e)
    odd_found = let w = (best (arena l ns) (arena_is_game l ns form few_here)).1 (arena_low l ns form) in
        (w.0, w.1, (w.0, subst (λ (xs : List Node). IsOddOf (arena l xs) w.0) is.form w.1, refl))
