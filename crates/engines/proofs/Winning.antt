-- Evidence that has the initial state's vertex with the root node.
use Rattle.std.proofs.Common.{◌≡◌, ◌<◌, ◌≤◌, ℕ, Bool, false, true, Option, Some, inl, inr, refl, sym, ap, ◌∙◌, subst, true≢false}
use Rattle.std.specs.Bool.{then_some}
use Rattle.std.specs.Prelude.{IfSome, IsTrue, ◌↔◌, ◌⊎◌, IfOk, List, Result, Ok, Err, slice_index_or}
use Rattle.std.specs.Arc.{arc_value}
use Rattle.systems.specs.Numbered.{IsInside, system_with}
use Rattle.systems.specs.System.{System}
use Rattle.systems.specs.declared.system.Transition.{Transition}
use Rattle.calculus.specs.Admitted.{IsAdmitted}
use Rattle.calculus.specs.declared.limits.TheConstants.{GREATEST_PRIORITY}
use Rattle.calculus.specs.Closed.{closed_formula}
use Rattle.calculus.specs.Meaning.{MarksOf}
use Rattle.calculus.specs.Tree.{Formula}
use Rattle.calculus.specs.Nodes.{Node}
use Rattle.calculus.specs.Normal.{normal_nodes}
use Rattle.calculus.specs.Rules.{nodes_with}
use Rattle.calculus.specs.declared.priorities.Priorities.{Priorities}
use Rattle.calculus.specs.NormalTree.{normal_form}
use Rattle.game.specs.declared.player.Player.{Player}
use Rattle.game.specs.declared.player.Player.TheVariants.{Even, Odd}
use Rattle.game.specs.Game.{Game, IsGame, greatest}
use Rattle.game.specs.Wins.{OddWins}
use Rattle.measures.specs.Laws.{OneWins}
use Rattle.laws.specs.Admissible.{IsNodes}
use Rattle.laws.specs.Laws.{ChosenIsAdmissible}
use Rattle.evidence.specs.Best.{IsBestOf, IsEvenOf, IsOddOf}
use Rattle.evidence.specs.Evidence.{IsEvidence, IsGood, has}
use Rattle.evidence.proofs.BestGood.{even_is_good, odd_is_good}
use Rattle.evidence.specs.View.{NamedEvidence}
use Rattle.witness.specs.Witness.{GoesOneWay, HasTaken, IsShown, IsWitness, root_of}
use Rattle.game.specs.Arena.{arena, place_in}
use Rattle.requests.specs.Roots.{WinsRoot}
use Rattle.requests.specs.declared.texts.Texts.{Texts}
use Rattle.engines.specs.Play.{IsPlay}
use Rattle.engines.specs.Prepared.{AreShown, IsWinning}
use Rattle.verdicts.specs.Findings.{AreFindings, formula_found, system_of}
use Rattle.verdicts.specs.declared.findings.Findings.{Findings}
use Rattle.verdicts.proofs.Limits.{nodes_some}
use Rattle.verdicts.proofs.Roots.{arena_roots, root_below}

abbrev game_in : Findings → Game
game_in x = arc_value x.solution.game

abbrev mark_in : Findings → Bool
mark_in x = slice_index_or x.marks.items (system_of x).initial false

some_same : (a b : ℕ) → Some a ≡ Some b → a ≡ b
some_same a b e = cc

won_in : (x : Findings) → AreFindings x → MarksOf (system_of x).states x.marks.items (WinsRoot (game_in x))
won_in x found = subst (λ (g : Game). MarksOf (system_of x).states x.marks.items (WinsRoot g)) (sym found.solution.game.same) found.marks.won

odd_there : (x : Findings) → AreFindings x → (system_of x).initial < (system_of x).states → OneWins → IsGame (game_in x) → mark_in x ≡ false → (v : ℕ)
    → place_in (game_in x) (system_of x).initial 0 ≡ Some v → OddWins (game_in x) v
odd_there x found inside one game mark v at =
    let l = system_of x in
    let rule = x.solution.priorities in
    let roots = arena_roots l (nodes_with rule (formula_found x)) (game_in x) l.states found.solution.game.same refl (nodes_some rule (formula_found x)) in
    elim (one (game_in x) game v (root_below l.states l.initial v (game_in x) game roots inside at)) [
      | inl w ↦ absurd (true≢false (sym (((won_in x found).exact l.initial inside).1 (v, at, w)) ∙ mark))
      | inr o ↦ o
    ]

-- the initial state's vertex with the root node
abbrev root_in : Findings → ℕ
root_in x = root_of (system_of x) (normal_nodes x.solution.form)

arena_in : (x : Findings) → AreFindings x → game_in x ≡ arena (system_of x) (normal_nodes x.solution.form)
arena_in x found = found.solution.game.same ∙ ap (arena (system_of x)) (sym found.solution.form)

root_at : (x : Findings) → AreFindings x → place_in (game_in x) (system_of x).initial 0 ≡ Some (root_in x)
root_at x found = ap (λ (g : Game). place_in g (system_of x).initial 0) (arena_in x found)

-- Good evidence that has this vertex is the winner's.
pub played : (l : System) (nodes : List Node) (g : Game) (e : NamedEvidence) → g ≡ arena l nodes → e.game ≡ g → IsEvidence e.game e.evidence
    → IsGood g e.evidence → IsTrue (has e.evidence (root_of l nodes)) → GoesOneWay g e.evidence ⊎ (IsEvenOf g e.evidence ⊎ IsOddOf g e.evidence)
    → IsPlay l nodes g e
played l nodes g e game same is good root kind = record {
  game = game;
  same = same;
  winners = record {
    evidence = subst (λ (h : Game). IsEvidence h e.evidence) (same ∙ game) is;
    good = subst (λ (h : Game). IsGood h e.evidence) game good;
    root = root;
    kind = subst (λ (h : Game). GoesOneWay h e.evidence ⊎ (IsEvenOf h e.evidence ⊎ IsOddOf h e.evidence)) game kind;
  };
}

-- Odd's, where the initial state doesn't satisfy the formula
pub odd_winning : (x : Findings) (e : NamedEvidence) → AreFindings x → (system_of x).initial < (system_of x).states → OneWins → IsGame (game_in x)
    → mark_in x ≡ false → e.game ≡ game_in x → IsEvidence e.game e.evidence
    → IsOddOf (game_in x) e.evidence → IsGood (game_in x) e.evidence → ((v : ℕ) → IsTrue (has e.evidence v) ↔ OddWins (game_in x) v)
    → IsWinning x e
odd_winning x e found inside one game mark same is odd good exact =
    played (system_of x) (normal_nodes x.solution.form) (game_in x) e (arena_in x found) same is good
    ((exact (root_in x)).1 (odd_there x found inside one game mark (root_in x) (root_at x found))) (inr (inr odd))

-- What such a play takes is shown.
shown_of : (rule : Priorities) (t : Texts) (nodes : List Node) (g : Game) (e : NamedEvidence) (part : List Transition) → ChosenIsAdmissible
    → IsPlay t.system.system nodes g e → IsInside t.system part → HasTaken t.system.system nodes e.evidence (system_with t.system part)
    → ((f : Formula) → IsAdmitted f → IsNodes (normal_form f) nodes → IsWitness t.system.system f (system_with t.system part))
    → nodes ≡ nodes_with rule (closed_formula t.formula) → AreShown rule t part
shown_of rule t nodes g e part chosen play inside taken witness same =
    let l = t.system.system in
    let f = closed_formula t.formula in
    record {
      inside = inside;
      shown = subst (λ (xs : List Node). IsShown l f xs (system_with t.system part)) same (record {
        evidence = e.evidence;
        winners = play.winners;
        taken = taken;
        witness = witness f t.formula.admitted (subst (IsNodes (normal_form f)) (sym same) (chosen rule f t.formula.admitted));
      });
    }

-- What is made of such a play, if it is, is shown.
pub parts_shown : {A E : Type 0} → (items : A → List Transition) (t : Texts) (nodes : List Node) (g : Game) (e : NamedEvidence) (r : Result A E)
    → ChosenIsAdmissible → IsPlay t.system.system nodes g e → IfOk r (λ p. IsInside t.system (items p))
    → IfOk r (λ p. HasTaken t.system.system nodes e.evidence (system_with t.system (items p)))
    → IfOk r (λ p. (f : Formula) → IsAdmitted f → IsNodes (normal_form f) nodes → IsWitness t.system.system f (system_with t.system (items p)))
    → IfOk r (λ p. (rule : Priorities) → nodes ≡ nodes_with rule (closed_formula t.formula) → AreShown rule t (items p))
parts_shown items t nodes g e (Ok p) chosen play inside taken witness = λ rule same.
    shown_of rule t nodes g e (items p) chosen play inside taken witness same
parts_shown items t nodes g e (Err x) chosen play inside taken witness = tt

-- The evidence by a player's least measures that has the initial state's vertex with the root node
pub least_played : (l : System) (nodes : List Node) (g : Game) (p : Player) (e : NamedEvidence) → g ≡ arena l nodes → e.game ≡ g → IsEvidence e.game e.evidence
    → IsGame g → greatest g ≤ GREATEST_PRIORITY → IsBestOf p g e.evidence → IsTrue (has e.evidence (root_of l nodes)) → IsPlay l nodes g e
least_played l nodes g Even e game same is whole few best root =
    played l nodes g e game same is (even_is_good g whole e.evidence best).1 root (inr (inl best))
least_played l nodes g Odd e game same is whole few best root =
    played l nodes g e game same is (odd_is_good g whole few e.evidence best).1 root (inr (inr best))

pub kept_where : {A : Type 0} → (P : A → Type 0) (b : Bool) (x : A) (o : Option A) → o ≡ then_some b x → (IsTrue b → P x) → IfSome o P
kept_where P true x o is here = subst (λ z. IfSome z P) (sym is) (here refl)
kept_where P false x o is here = subst (λ z. IfSome z P) (sym is) tt
