-- What is told of an answer.
use Rattle.std.proofs.Common.{◌≡◌, ℕ, ◌<◌, Bool, false, List, [], ◌∷◌, Option, Some, Result, Ok, Err, inl, inr, refl, sym, subst}
use Rattle.text.specs.Taken.{Taken}
use Rattle.text.proofs.Writing.{Stays-refl}
use Rattle.std.specs.Arc.{arc_value}
use Rattle.std.specs.Prelude.{IsTrue, ◌↔◌, slice_index_or}
use Rattle.systems.specs.System.{System}
use Rattle.calculus.specs.Meaning.{Satisfies}
use Rattle.calculus.specs.Tree.{Formula}
use Rattle.game.specs.Game.{Game}
use Rattle.text.specs.declared.write_loop.WriteFault.{WriteFault}
use Rattle.calculus.specs.declared.priorities.Priorities.{Priorities}
use Rattle.calculus.specs.Nodes.{Node}
use Rattle.calculus.specs.Rules.{nodes_with}
use Rattle.calculus.specs.Normal.{normal_nodes}
use Rattle.why.specs.Story.{story_text}
use Rattle.why.specs.declared.visit.Visit.{Visit}
use Rattle.workers.specs.declared.team.BoardKind.{BoardKind}
use Rattle.requests.specs.declared.error.MuError.{MuError}
use Rattle.requests.specs.declared.error.MuError.TheVariants as error
use Rattle.requests.specs.declared.texts.Texts.{Texts}
use Rattle.requests.specs.Check.{AreSpelled, ByGame, RefusesCheck}
use Rattle.requests.specs.Strict.{HasRefusedBy, KnowsWords}
use Rattle.requests.specs.Writers.{AreKept, Lent, WitnessText, lent_for}
use Rattle.engines.specs.declared.reasons.PlayVisits.{PlayVisits}
use Rattle.verdicts.proofs.Beyond.{beyond_of}
use Rattle.engines.specs.Play.{HasNoPlay, IsPlayFound, formula_played, system_played}
use Rattle.engines.specs.declared.play.PlayFound.{PlayFound}
use Rattle.engines.specs.Everywhere.{HaveAnswer}
use Rattle.engines.specs.Reasons.{AreTold, HasGivenReasons, HasNoReasons, IsApart, IsToldBy, TellsReasons, reasons}
use Rattle.engines.specs.StrictReasons.{HasNoReasonsBy, TellsReasonsBy}

no_write : (fault : WriteFault) (place : ℕ) → ◌≡◌ {A = MuError} (error.Write fault) (error.NoLabel place) → ⊥
no_write fault place h = cc

-- A refusal that leaves all writers as they were leaves this one so, and is no write fault.
pub refused_kept : (rule : Priorities) (board : Option BoardKind) (limit : ℕ) (first second : List ℕ) (old : Taken) (e : MuError)
    → ((writers : List Lent) → AreKept writers → RefusesCheck (ByGame rule board) first second writers e)
    → HasNoReasons rule board limit first second old old e
refused_kept rule board limit first second old (error.Write fault) h = absurd (h [] tt).begun
refused_kept rule board limit first second old (error.Arguments e) h = h [] tt
refused_kept rule board limit first second old error.File h = h [] tt
refused_kept rule board limit first second old error.Read h = h (lent_for WitnessText old old ∷ []) (Stays-refl old, tt)
refused_kept rule board limit first second old error.Memory h = h (lent_for WitnessText old old ∷ []) (Stays-refl old, tt)
refused_kept rule board limit first second old (error.System e) h = h (lent_for WitnessText old old ∷ []) (Stays-refl old, tt)
refused_kept rule board limit first second old (error.Formula e) h = h (lent_for WitnessText old old ∷ []) (Stays-refl old, tt)
refused_kept rule board limit first second old (error.Normal e) h = h (lent_for WitnessText old old ∷ []) (Stays-refl old, tt)
refused_kept rule board limit first second old (error.Build e) h = h (lent_for WitnessText old old ∷ []) (Stays-refl old, tt)
refused_kept rule board limit first second old (error.Game e) h = h [] tt
refused_kept rule board limit first second old (error.Evidence e) h = h (lent_for WitnessText old old ∷ []) (Stays-refl old, tt)
refused_kept rule board limit first second old (error.Table e) h = h (lent_for WitnessText old old ∷ []) (Stays-refl old, tt)
refused_kept rule board limit first second old (error.Solve e) h = h (lent_for WitnessText old old ∷ []) (Stays-refl old, tt)
refused_kept rule board limit first second old (error.Schedule e) h = h [] tt
refused_kept rule board limit first second old (error.NoLabel offset) h = h [] tt

-- What was told where each word of the formula is on a transition is told strictly.
pub strictly_told : (strict : Bool) (rule : Priorities) (board : Option BoardKind) (limit : ℕ) (first second : List ℕ) (old new : Taken)
    (r : Result Bool MuError) → TellsReasons rule board limit first second old new r → (IsTrue strict → KnowsWords first second)
    → TellsReasonsBy strict rule board limit first second old new r
strictly_told strict rule board limit first second old new (Ok a) h known = (h, known)
strictly_told strict rule board limit first second old new (Err e) h known = inl (h, λ asked. inr (known asked))

-- A refusal while the texts are read, or of a word, leaves the writer as it was.
pub strictly_refused : (strict : Bool) (rule : Priorities) (board : Option BoardKind) (limit : ℕ) (first second : List ℕ) (old : Taken) (e : MuError)
    → ((writers : List Lent) → AreKept writers → HasRefusedBy strict (ByGame rule board) first second writers e)
    → HasNoReasonsBy strict rule board limit first second old old e
strictly_refused strict rule board limit first second old (error.Write fault) h = elim (h [] tt) [
  | inl p ↦ absurd p.0.begun
  | inr w ↦ absurd (no_write fault w.place w.is)
]
strictly_refused strict rule board limit first second old (error.Arguments e) h = h (lent_for WitnessText old old ∷ []) (Stays-refl old, tt)
strictly_refused strict rule board limit first second old error.File h = h (lent_for WitnessText old old ∷ []) (Stays-refl old, tt)
strictly_refused strict rule board limit first second old error.Read h = h (lent_for WitnessText old old ∷ []) (Stays-refl old, tt)
strictly_refused strict rule board limit first second old error.Memory h = h (lent_for WitnessText old old ∷ []) (Stays-refl old, tt)
strictly_refused strict rule board limit first second old (error.System e) h = h (lent_for WitnessText old old ∷ []) (Stays-refl old, tt)
strictly_refused strict rule board limit first second old (error.Formula e) h = h (lent_for WitnessText old old ∷ []) (Stays-refl old, tt)
strictly_refused strict rule board limit first second old (error.Normal e) h = h (lent_for WitnessText old old ∷ []) (Stays-refl old, tt)
strictly_refused strict rule board limit first second old (error.Build e) h = h (lent_for WitnessText old old ∷ []) (Stays-refl old, tt)
strictly_refused strict rule board limit first second old (error.Game e) h = h (lent_for WitnessText old old ∷ []) (Stays-refl old, tt)
strictly_refused strict rule board limit first second old (error.Evidence e) h = h (lent_for WitnessText old old ∷ []) (Stays-refl old, tt)
strictly_refused strict rule board limit first second old (error.Table e) h = h (lent_for WitnessText old old ∷ []) (Stays-refl old, tt)
strictly_refused strict rule board limit first second old (error.Solve e) h = h (lent_for WitnessText old old ∷ []) (Stays-refl old, tt)
strictly_refused strict rule board limit first second old (error.Schedule e) h = h (lent_for WitnessText old old ∷ []) (Stays-refl old, tt)
strictly_refused strict rule board limit first second old (error.NoLabel offset) h = h (lent_for WitnessText old old ∷ []) (Stays-refl old, tt)

-- Nothing was written where no play was found.
pub unplayed_kept : (rule : Priorities) (board : BoardKind) (limit : ℕ) (first second : List ℕ) (old : Taken) (l : System) (f : Formula) (e : MuError)
    → AreSpelled first second l f → HasNoPlay rule board l f e → HasNoReasons rule (Some board) limit first second old old e
unplayed_kept rule board limit first second old l f e spelled (inl beyond) =
    refused_kept rule (Some board) limit first second old e (λ writers kept. beyond_of rule (Some board) first second writers l f e spelled beyond kept)
unplayed_kept rule board limit first second old l f e spelled (inr (within, inl is)) =
    subst (HasNoReasons rule (Some board) limit first second old old) (sym is) ((l, spelled.system.spelled), (Stays-refl old, tt))
unplayed_kept rule board limit first second old l f e spelled (inr (within, inr is)) =
    subst (HasNoReasons rule (Some board) limit first second old old) (sym is) (
      record { l = l; f = f; spelled = spelled; within = within; needed = inr (inl (inl refl)); memory = refl },
      (Stays-refl old, tt),
    )

-- the same story of the same
pub story_same : (t u : Texts) (nodes : List Node) (most : ℕ) (visits others : List Visit) (heads marks : List Bool) (count : ℕ)
    → t ≡ u → visits ≡ others → heads ≡ marks
    → story_text t.system.system nodes most visits heads count ≡ story_text u.system.system nodes most others marks count
story_same t u nodes most visits others heads marks count et ev eh = λ j. story_text (et j).system.system nodes most (ev j) (eh j) count

-- What is told of a play is the answer and a play that shows it.
pub reasoned : (rule : Priorities) (board : BoardKind) (limit : ℕ) (first second : List ℕ) (x : PlayFound) (told : PlayVisits) (answer : Bool)
    (Writes : List ℕ → Type 0) → IsPlayFound rule board x → IsApart rule x → (system_played x).initial < (system_played x).states
    → answer ≡ slice_index_or x.marks.items (system_played x).initial false → AreSpelled first second (system_played x) (formula_played x)
    → IsToldBy (system_played x) (normal_nodes x.form) (arc_value x.game) x.evidence.evidence limit told
    → Writes (reasons (formula_played x) answer (system_played x) (normal_nodes x.form) told.most told.visits.items told.heads.items told.count)
    → HasGivenReasons rule (Some board) limit first second answer Writes
reasoned rule board limit first second x told answer Writes found apart inside e spelled is wrote =
    let l = system_played x in
    let f = formula_played x in
    let marked = subst (λ a. IsTrue a ↔ Satisfies l f l.initial) (sym e) (found.marks.exact.exact l.initial inside) in
    let by = subst (λ (h : Game). IsToldBy l (normal_nodes x.form) h x.evidence.evidence limit told) found.play.game is in
    let lines : AreTold l (normal_nodes x.form) limit told.visits.items told.heads.items told.count =
    record { evidence = x.evidence.evidence; winners = found.play.winners; telling = by.telling; back = by.back; cut = by.cut } in
    record {
      l = l;
      f = f;
      spelled = spelled;
      within = found.marks.within;
      answered = marked;
      text = _;
      why = inr (
        subst (λ a. HaveAnswer l (nodes_with rule f) f a → ⊥) (sym e) apart,
        record {
          visits = told.visits.items;
          heads = told.heads.items;
          count = told.count;
          told = subst (λ (ns : List Node). AreTold l ns limit told.visits.items told.heads.items told.count) found.form lines;
          is = λ j. reasons f answer l (found.form j) (is.most j) told.visits.items told.heads.items told.count;
        },
      );
      written = wrote;
    }
