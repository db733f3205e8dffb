-- Where all states that can be reached have one answer.
use Rattle.std.proofs.Common.{◌≡◌, ℕ, ◌<◌, ◌↔◌, Bool, true, false, List, Option, Some, None, MatchOption, Result, Ok, Err, IsTrue, refl, sym, subst, inl, true≢false}
use Rattle.text.specs.Taken.{Adds, Taken}
use Rattle.systems.specs.System.{System}
use Rattle.calculus.specs.Closed.{closed_formula}
use Rattle.calculus.specs.Meaning.{Satisfies}
use Rattle.calculus.specs.Nodes.{Node}
use Rattle.calculus.specs.Normal.{normal_nodes}
use Rattle.calculus.specs.Rules.{nodes_with}
use Rattle.calculus.specs.Tree.{Formula}
use Rattle.calculus.specs.declared.priorities.Priorities.{Priorities}
use Rattle.witness.specs.Walk.{CountsReached, is_marked}
use Rattle.workers.specs.declared.team.BoardKind.{BoardKind}
use Rattle.requests.specs.declared.error.MuError.{MuError}
use Rattle.requests.specs.Check.{AreMarks, AreSpelled, ByGame}
use Rattle.requests.specs.declared.texts.Texts.{Texts}
use Rattle.engines.specs.Play.{IsPlayFound, formula_played, system_played}
use Rattle.engines.specs.declared.play.PlayFound.{PlayFound}
use Rattle.engines.specs.Everywhere.{HaveAnswer, HaveMark, IsToldIn, answer_text}
use Rattle.engines.specs.Reasons.{AreReasons, HasGivenReasons, HasNoReasons, IsApart, TellsReasons}

-- two flags of one fact
same_flags : (a b : Bool) (P : Type 0) → (IsTrue a ↔ P) → (IsTrue b ↔ P) → a ≡ b
same_flags true true P h k = refl
same_flags true false P h k = absurd (true≢false (sym (k.1 (h.0 refl))))
same_flags false true P h k = absurd (true≢false (sym (h.1 (k.0 refl))))
same_flags false false P h k = refl

pub some_of : (o : Option ℕ) (P : Type 0) (Q : ℕ → Type 0) (x : ℕ) → MatchOption o P Q → o ≡ Some x → Q x
some_of None P Q x h e = absurd cc
some_of (Some y) P Q x h e = let q : y ≡ x = cc in subst Q q h

module _ (rule : Priorities) (board : Option BoardKind) (l : System) (f : Formula) (nodes : List Node) (is : nodes ≡ nodes_with rule f) (marks : List Bool)
    (found : AreMarks (ByGame rule board) l f marks) where
  abbrev answer : Bool
  answer = is_marked marks l.initial

  -- What holds of the marks holds in the formula's meaning,
  mark_answers : HaveMark l nodes marks → HaveAnswer l (nodes_with rule f) f answer
  mark_answers h = subst (λ ns. HaveAnswer l ns f answer) is (record {
    asks = h.asks;
    same = λ s lt reached. subst (λ mark. IsTrue mark ↔ Satisfies l f s) (h.same s lt reached) (found.exact.exact s lt);
  })

  -- and the other way round.
  pub apart : (HaveMark l nodes marks → ⊥) → HaveAnswer l (nodes_with rule f) f answer → ⊥
  apart none h =
      let a = subst (λ ns. HaveAnswer l ns f answer) (sym is) h in
      none (record {
        asks = a.asks;
        same = λ s lt reached. same_flags (is_marked marks s) answer (Satisfies l f s) (found.exact.exact s lt) (a.same s lt reached);
      })

  -- What was written is the line of all states.
  told_same : (limit : ℕ) (first second : List ℕ) (old new : Taken) (count : ℕ) (r : Result Bool MuError)
      → l.initial < l.states → AreSpelled first second l f → HaveMark l nodes marks × CountsReached l l.initial count
      → IsToldIn old new (answer_text f answer count) answer r → TellsReasons rule board limit first second old new r
  told_same limit first second old new count r lt spelled alike =
      given r
    where
      why : AreReasons rule limit l f answer (answer_text f answer count)
      why = inl (mark_answers alike.0, record { count = count; reached = alike.1; is = refl })

      given : (r : Result Bool MuError) → IsToldIn old new (answer_text f answer count) answer r → TellsReasons rule board limit first second old new r
      given (Ok v) told = subst (λ a. HasGivenReasons rule board limit first second a (Adds old new)) (sym told.0) (record {
        l = l;
        f = f;
        spelled = spelled;
        within = found.within;
        answered = found.exact.exact l.initial lt;
        text = answer_text f answer count;
        why = why;
        written = told.1;
      })
      given (Err e) told = subst (HasNoReasons rule board limit first second old new) (sym told.1) (
        answer,
        record {
          l = l;
          f = f;
          spelled = spelled;
          within = found.within;
          answered = found.exact.exact l.initial lt;
          text = answer_text f answer count;
          why = why;
          written = told.2;
        },
      )

  -- So it is where the marks were lent twice.
  pub told_alike : (limit : ℕ) (first second : List ℕ) (old new : Taken) (count : ℕ) (r : Result Bool MuError) (seen shown : List Bool)
      → seen ≡ marks → shown ≡ marks → l.initial < l.states → AreSpelled first second l f → HaveMark l nodes seen × CountsReached l l.initial count
      → IsToldIn old new (answer_text f (is_marked shown l.initial) count) (is_marked shown l.initial) r
      → TellsReasons rule board limit first second old new r
  told_alike limit first second old new count r seen shown es eh lt spelled alike told =
      told_same limit first second old new count r lt spelled (subst (λ m. HaveMark l nodes m × CountsReached l l.initial count) es alike)
      (subst (λ m. IsToldIn old new (answer_text f (is_marked m l.initial) count) (is_marked m l.initial) r) eh told)

-- The marks that were found with the play are those of the texts.
pub marks_played : (rule : Priorities) (board : BoardKind) (x : PlayFound) → IsPlayFound rule board x → (t : Texts) → t ≡ x.texts.value
    → AreMarks (ByGame rule (Some board)) t.system.system (closed_formula t.formula) x.marks.items
    × (normal_nodes x.form ≡ nodes_with rule (closed_formula t.formula))
marks_played rule board x found t et =
    subst (λ (u : Texts). AreMarks (ByGame rule (Some board)) u.system.system (closed_formula u.formula) x.marks.items
    × (normal_nodes x.form ≡ nodes_with rule (closed_formula u.formula))) (sym et) (found.marks, found.form)

pub apart_played : (rule : Priorities) (board : BoardKind) (x : PlayFound) → IsPlayFound rule board x → (t : Texts) (marks : List Bool)
    → t ≡ x.texts.value → marks ≡ x.marks.items → (HaveMark t.system.system (normal_nodes x.form) marks → ⊥) → IsApart rule x
apart_played rule board x found t marks et em none =
    let nodes = normal_nodes x.form in
    apart rule (Some board) (system_played x) (formula_played x) nodes found.form x.marks.items found.marks
    (subst (λ m. HaveMark (system_played x) nodes m → ⊥) em (subst (λ (u : Texts). HaveMark u.system.system nodes marks → ⊥) et none))
