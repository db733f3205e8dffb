-- From the winners at the root node to the marks of a check.
use Rattle.std.proofs.Common.{◌≡◌, ◌∙◌, ◌+◌, ◌*◌, ◌≤◌, ℕ, Bool, List, length, None, Option, Some, refl, sym, subst}
use Rattle.std.specs.Prelude.{IfSome}
use Rattle.calculus.specs.Admitted.{IsAdmitted}
use Rattle.calculus.specs.Meaning.{MarksOf}
use Rattle.calculus.specs.Tree.{Formula}
use Rattle.systems.specs.System.{IsSystem, System}
use Rattle.calculus.specs.declared.limits.TheConstants.{GREATEST_PRIORITY, MOST_NODES}
use Rattle.calculus.specs.declared.priorities.Priorities.{Priorities}
use Rattle.calculus.specs.Nodes.{Node, greatest_node_priority}
use Rattle.calculus.specs.Normal.{normal_nodes}
use Rattle.calculus.specs.Rules.{nodes_with}
use Rattle.calculus.specs.NormalTree.{node_count}
use Rattle.game.specs.declared.limits.TheConstants.{MOST_VERTICES}
use Rattle.game.specs.Arena.{arena, place}
use Rattle.game.specs.Game.{Game}
use Rattle.game.specs.Wins.{Wins}
use Rattle.laws.specs.Laws.{ChosenIsAdmissible, EvenWinsFormula}
use Rattle.workers.specs.declared.team.BoardKind.{BoardKind}
use Rattle.requests.specs.Check.{AreMarks, ByGame, game_by_rule}
use Rattle.requests.specs.Roots.{WinsRoot}
use Rattle.requests.specs.Solver.{FitsBoard}
use Rattle.verdicts.specs.declared.ranked.RankedFound.{RankedFound}
use Rattle.verdicts.specs.Findings.{IsRankedFound}
use Rattle.verdicts.proofs.Roots.{roots_mean}

some_same : (a b : ℕ) → Some a ≡ Some b → a ≡ b
some_same a b e = cc

won : (l : System) (ns : List Node) (marks : List Bool) → MarksOf l.states marks (λ s. Wins (arena l ns) (place (length ns) s 0))
    → MarksOf l.states marks (WinsRoot (arena l ns))
won l ns marks m = record {
  count = m.count;
  exact = λ s h. (
    λ mark. (place (length ns) s 0, refl, (m.exact s h).0 mark),
    λ w. (m.exact s h).1 (subst (Wins (arena l ns)) (sym (some_same (place (length ns) s 0) w.0 w.1)) w.2),
  );
}

-- What is known of the winners in the arena of these nodes, which are those of the rule.
pub ranked_by : (rule : Priorities) (board : BoardKind) (l : System) (f : Formula) (ns : List Node) (marks : List Bool) → ChosenIsAdmissible
    → EvenWinsFormula → IsSystem l → IsAdmitted f → ((g : Game) → FitsBoard (Some board) g) → node_count f ≤ MOST_NODES
    → greatest_node_priority (nodes_with rule f) ≤ GREATEST_PRIORITY → ns ≡ nodes_with rule f → 2 + l.states * length ns ≤ MOST_VERTICES
    → MarksOf l.states marks (λ s. Wins (arena l ns) (place (length ns) s 0)) → AreMarks (ByGame rule (Some board)) l f marks
ranked_by rule board l f ns marks chosen wins is admitted fits few low same vertices m =
    let w : MarksOf l.states marks (WinsRoot (game_by_rule rule l f)) =
    subst (λ (xs : List Node). MarksOf l.states marks (WinsRoot (arena l xs))) same (won l ns marks m) in
    record {
      within = (
        record {
          form = record { nodes = few; priorities = low };
          vertices = subst (λ (xs : List Node). 2 + l.states * length xs ≤ MOST_VERTICES) same vertices;
        },
        fits (game_by_rule rule l f),
      );
      exact = roots_mean l f (nodes_with rule f) marks wins is admitted (chosen rule f admitted) w;
      won = w;
    }

-- So it is of a ranking that is found.
pub ranking_found : (rule : Priorities) (board : BoardKind) (l : System) (f : Formula) (ns : List Node) (x : Option RankedFound) → ChosenIsAdmissible
    → EvenWinsFormula → IsSystem l → IsAdmitted f → ((g : Game) → FitsBoard (Some board) g) → node_count f ≤ MOST_NODES
    → greatest_node_priority (nodes_with rule f) ≤ GREATEST_PRIORITY → ns ≡ nodes_with rule f → IfSome x (λ y. normal_nodes y.form ≡ ns)
    → IfSome x (λ y. 2 + l.states * length ns ≤ MOST_VERTICES)
    → IfSome x (λ y. MarksOf l.states y.marks.items (λ s. Wins (arena l ns) (place (length ns) s 0))) → IfSome x (IsRankedFound rule board l f)
ranking_found rule board l f ns None chosen wins is admitted fits few low same form vertices m = tt
ranking_found rule board l f ns (Some x) chosen wins is admitted fits few low same form vertices m = record {
  form = form ∙ same;
  marks = ranked_by rule board l f ns x.marks.items chosen wins is admitted fits few low same vertices m;
}
