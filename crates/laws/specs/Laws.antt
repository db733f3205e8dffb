-- The laws that join systems, formulas, games and measures.
use Rattle.std.specs.Prelude.{◌≡◌, ◌≢◌, ℕ, ◌<◌, ◌⊎◌, ◌↔◌, Bool, List, length, IsTrue}
use Rattle.systems.specs.System.{System, IsSystem}
use Rattle.calculus.specs.Tree.{Formula}
use Rattle.calculus.specs.Admitted.{IsAdmitted}
use Rattle.calculus.specs.Meaning.{no_sets, Satisfies}
use Rattle.calculus.specs.NormalTree.{Norm, shape_at, preorder, formula_from, normal_form}
use Rattle.calculus.specs.Nodes.{Node, Rule, nodes_by, nodes}
use Rattle.calculus.specs.Rules.{nodes_with}
use Rattle.calculus.specs.declared.priorities.Priorities.{Priorities}
use Rattle.game.specs.declared.player.Player.TheVariants.{Even}
use Rattle.game.specs.Arena.{place, arena}
use Rattle.game.specs.Wins.{IsStrategy, Wins}
use Rattle.measures.specs.Measure.{Measure, Top}
use Rattle.measures.specs.Progress.{IsProgress, IsLeastTable, value_at}
use Rattle.laws.specs.Admissible.{IsAboveInner, IsAdmissible, IsClosed, IsEach, IsNodes, priority_in, shapes_of}
use Rattle.laws.specs.NodeMeaning.{node_mean}

-- The normal form of an admitted formula holds where the formula does.
abbrev pub NormalFormMeans : Type 0
NormalFormMeans = (l : System) (f : Formula) → IsSystem l → IsAdmitted f → (s : ℕ) → s < l.states → Satisfies l (formula_from 0 (normal_form f)) s
    ↔ Satisfies l f s

-- The nested rule's priorities are admissible, and the normal form of an admitted formula is closed.
abbrev pub NestedIsAdmissible : Type 0
NestedIsAdmissible = (f : Formula) → IsAdmitted f → IsNodes (normal_form f) (nodes f)

-- The same by either rule.
abbrev pub ChosenIsAdmissible : Type 0
ChosenIsAdmissible = (priorities : Priorities) (f : Formula) → IsAdmitted f → IsNodes (normal_form f) (nodes_with priorities f)

-- Of a closed tree priorities are admissible exactly where each binder is above those inside it in which its variable is free.
abbrev pub AdmissibleFromInside : Type 0
AdmissibleFromInside = (f : Norm) (prio : ℕ → ℕ) → IsClosed f → IsAdmissible prio f ↔ IsEach (IsAboveInner prio) 0 f

-- Each node by a rule has its part's shape, and the rule's priority.
abbrev pub NodesFollow : Type 0
NodesFollow = (rule : Rule) (f : Norm) → (shapes_of (nodes_by rule 0 f) ≡ preorder shape_at 0 f)
    × IsEach (λ k g. priority_in (nodes_by rule 0 f) k ≡ rule k g) 0 f

-- Where the value of a progress table isn't top, the state is in the meaning of the node.
abbrev pub TablesAreSound : Type 0
TablesAreSound =
    (l : System) (f : Norm) (nodes : List Node) (table : List Measure) → IsSystem l → IsNodes f nodes → IsProgress (arena l nodes) table
    → (s k : ℕ) → s < l.states → k < length nodes → value_at table (place (length nodes) s k) ≢ Top → node_mean l 0 f no_sets k s

-- One choice by which Even wins at each state with each node in whose meaning the state is, and nowhere else but, it may be, at the true sink.
pub record WinsWhereMeant (l : System) (f : Norm) (nodes : List Node) : Type 0 where
  pub set : ℕ → Bool
  pub choice : ℕ → ℕ
  pub strategy : IsStrategy Even (arena l nodes) set choice
  pub has : (s k : ℕ) → s < l.states → node_mean l 0 f no_sets k s → IsTrue (set (place (length nodes) s k))
  pub only : (u : ℕ) → IsTrue (set u) → (u ≡ 0) ⊎ ((s : ℕ) × (k : ℕ) × (s < l.states) × (u ≡ place (length nodes) s k) × node_mean l 0 f no_sets k s)

abbrev pub MeaningWins : Type 0
MeaningWins = (l : System) (f : Norm) (nodes : List Node) → IsSystem l → IsNodes f nodes → WinsWhereMeant l f nodes

-- At each state with each node, whatever admissible priorities the nodes have, Even wins exactly where the state is in the meaning of the node.
abbrev pub EvenWinsWhereMeant : Type 0
EvenWinsWhereMeant =
    (l : System) (f : Norm) (nodes : List Node) → IsSystem l → IsNodes f nodes
    → (s k : ℕ) → s < l.states → k < length nodes → Wins (arena l nodes) (place (length nodes) s k) ↔ node_mean l 0 f no_sets k s

-- There the least progress table isn't top exactly where the state is in the meaning of the node.
abbrev pub LeastTableDecides : Type 0
LeastTableDecides =
    (l : System) (f : Norm) (nodes : List Node) (table : List Measure) → IsSystem l → IsNodes f nodes → IsLeastTable (arena l nodes) table
    → (s k : ℕ) → s < l.states → k < length nodes → (value_at table (place (length nodes) s k) ≢ Top) ↔ node_mean l 0 f no_sets k s

-- At the root of an admitted formula's normal form, whatever admissible priorities its nodes have, Even wins exactly where the formula holds.
abbrev pub EvenWinsFormula : Type 0
EvenWinsFormula =
    (l : System) (f : Formula) (nodes : List Node) → IsSystem l → IsAdmitted f → IsNodes (normal_form f) nodes
    → (s : ℕ) → s < l.states → Wins (arena l nodes) (place (length nodes) s 0) ↔ Satisfies l f s

-- There the least progress table isn't top exactly where the formula holds.
abbrev pub LeastTableFormula : Type 0
LeastTableFormula =
    (l : System) (f : Formula) (nodes : List Node) (table : List Measure) → IsSystem l → IsAdmitted f → IsNodes (normal_form f) nodes
    → IsLeastTable (arena l nodes) table
    → (s : ℕ) → s < l.states → (value_at table (place (length nodes) s 0) ≢ Top) ↔ Satisfies l f s

-- With the nested priorities Even wins at the root exactly where the formula holds.
abbrev pub NestedWins : Type 0
NestedWins = (l : System) (f : Formula) → IsSystem l → IsAdmitted f → (s : ℕ) → s < l.states → Wins (arena l (nodes f)) (place (length (nodes f)) s 0)
    ↔ Satisfies l f s

-- With the nested priorities the least progress table isn't top at the root exactly where the formula holds.
abbrev pub NestedTableDecides : Type 0
NestedTableDecides =
    (l : System) (f : Formula) (table : List Measure) → IsSystem l → IsAdmitted f → IsLeastTable (arena l (nodes f)) table
    → (s : ℕ) → s < l.states → (value_at table (place (length (nodes f)) s 0) ≢ Top) ↔ Satisfies l f s
