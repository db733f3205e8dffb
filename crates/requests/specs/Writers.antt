-- The writers that a check is lent, and what it writes to them.
use Rattle.std.proofs.Common.{inl, inr}
use Rattle.std.specs.Prelude.{◌≡◌, ℕ, ◌⊎◌, Bool, List, [], ◌∷◌, Option, Some, None, Result, MatchResult, if◌then◌else◌}
use Rattle.std.specs.Borrow.{MutBor}
use Rattle.text.specs.Taken.{Taken, Adds, Stays, unknown}
use Rattle.text.specs.Wrote.{WroteFront}
use Rattle.requests.specs.declared.request.ReportForm.{ReportForm}
use Rattle.requests.specs.declared.request.Wanted.{Wanted}
use Rattle.requests.specs.declared.request.WitnessForm.{WitnessForm}
use Rattle.requests.specs.declared.request.WitnessForm.TheVariants.{System, Drawing}
use Rattle.requests.specs.declared.writers.EvidenceWriters.{EvidenceWriters}
use Rattle.requests.specs.declared.writers.EvidenceWriters.TheVariants.{Neither, Both}
use Rattle.requests.specs.declared.writers.Writers.{Writers}

-- the texts that a check writes; `Unasked` is that of a writer from which none is asked for
pub data TextKind : Type 0 where
  GameText : TextKind
  EvenText : TextKind
  OddText : TextKind
  WitnessText : TextKind
  DrawingText : TextKind
  ReportText : ReportForm → TextKind
  Unasked : TextKind

-- a writer that is lent for a text, and what is known of what it has taken, before and after
pub record Lent : Type 0 where
  pub kind : TextKind
  pub old : Taken
  pub new : Taken

abbrev pub lent_for : TextKind → (old new : Taken) → Lent
lent_for kind old new = record { kind = kind; old = old; new = new }

-- A writer was lent for this text.
abbrev pub IsLentFor : TextKind → List Lent → Type 0
IsLentFor kind [] = ⊥
IsLentFor kind (w ∷ ws) = (w.kind ≡ kind) ⊎ IsLentFor kind ws

-- Evidence is needed for what is asked for.
abbrev pub NeedsEvidence : List Lent → Type 0
NeedsEvidence ws = IsLentFor EvenText ws ⊎ (IsLentFor WitnessText ws ⊎ IsLentFor DrawingText ws)

-- Its whole text was written.
abbrev pub IsWhole : (TextKind → List ℕ → Type 0) → Lent → Type 0
IsWhole IsText w = (text : List ℕ) × IsText w.kind text × Adds w.old w.new text

-- A beginning of its text was written, and some of it was not.
abbrev pub IsBegun : (TextKind → List ℕ → Type 0) → Lent → Type 0
IsBegun IsText w = (text : List ℕ) × IsText w.kind text × WroteFront w.old w.new text

-- Each writer has its whole text.
abbrev pub AreWhole : (TextKind → List ℕ → Type 0) → List Lent → Type 0
AreWhole IsText [] = Unit {0}
AreWhole IsText (w ∷ ws) = IsWhole IsText w × AreWhole IsText ws

-- Nothing was written to any.
abbrev pub AreKept : List Lent → Type 0
AreKept [] = Unit {0}
AreKept (w ∷ ws) = Stays w.old w.new × AreKept ws

-- One has a beginning of its text, those before it have their whole texts, and nothing was written to those after it.
abbrev pub AreWrittenUpTo : (TextKind → List ℕ → Type 0) → List Lent → Type 0
AreWrittenUpTo IsText [] = ⊥
AreWrittenUpTo IsText (w ∷ ws) = (IsBegun IsText w × AreKept ws) ⊎ (IsWhole IsText w × AreWrittenUpTo IsText ws)

-- all on Ok, and up to one on Err
abbrev pub AreWritten : {T E : Type 0} → (TextKind → List ℕ → Type 0) → List Lent → Result T E → Type 0
AreWritten IsText ws r = MatchResult r (λ _. AreWhole IsText ws) (λ _. AreWrittenUpTo IsText ws)

-- what an option of a writer is left as, and a pair of writers
abbrev pub Left : Type 0 → Type 0
Left W = Unit {0} ⊎ ((MutBor W × Unit {0}) ⊎ ⊥)

abbrev pub LeftBoth : Type 0 → Type 0 → Type 0
LeftBoth E O = Unit {0} ⊎ ((MutBor E × (MutBor O × Unit {0})) ⊎ ⊥)

-- where no writer is lent: one from which nothing is asked, and of which nothing is known
abbrev pub no_writer : Lent
no_writer = lent_for Unasked unknown unknown

-- the writer for the game's text, if it is lent
abbrev pub game_writer : {G : Type 0} → (G → Taken) → Option (MutBor G) → Left G → List Lent
game_writer contents None left = no_writer ∷ []
game_writer contents (Some game) (inl x) = lent_for GameText (contents game.now) unknown ∷ []
game_writer contents (Some game) (inr (inl left)) = lent_for GameText (contents game.now) (contents left.0.now) ∷ []
game_writer contents (Some game) (inr (inr x)) = absurd x

-- those for the texts of evidence, if they are lent
abbrev pub evidence_writers : {E O : Type 0} → (E → Taken) → (O → Taken) → EvidenceWriters E O → LeftBoth E O → List Lent
evidence_writers evens odds Neither left = no_writer ∷ no_writer ∷ []
evidence_writers evens odds (Both even odd) (inl x) = lent_for EvenText (evens even.now) unknown ∷ lent_for OddText (odds odd.now) unknown ∷ []
evidence_writers evens odds (Both even odd) (inr (inl left)) = lent_for EvenText (evens even.now) (evens left.0.now) ∷ lent_for OddText (odds odd.now)
    (odds left.1.0.now) ∷ []
evidence_writers evens odds (Both even odd) (inr (inr x)) = absurd x

-- that for the report in this form
abbrev pub report_writer : ReportForm → (old new : Taken) → List Lent
report_writer form old new = lent_for (ReportText form) old new ∷ []

-- the kinds of text that are wanted
abbrev pub kind_where : Bool → TextKind → TextKind
kind_where wanted kind = if wanted then kind else Unasked

abbrev pub witness_kind : Option WitnessForm → TextKind
witness_kind None = Unasked
witness_kind (Some System) = WitnessText
witness_kind (Some Drawing) = DrawingText

-- the writers of all texts in their order, each for its text where that is wanted
abbrev pub all_writers : Wanted → (old_game new_game old_even new_even old_odd new_odd old_witness new_witness old_report new_report : Taken)
    → List Lent
all_writers wanted old_game new_game old_even new_even old_odd new_odd old_witness new_witness old_report new_report =
    lent_for (kind_where wanted.game GameText) old_game new_game
    ∷ (lent_for (kind_where wanted.evidence EvenText) old_even new_even
    ∷ (lent_for (kind_where wanted.evidence OddText) old_odd new_odd
    ∷ (lent_for (witness_kind wanted.witness) old_witness new_witness
    ∷ report_writer wanted.report old_report new_report)))

-- what is known of what a writer has taken
abbrev pub TakenBy : Type 0 → Type 0
TakenBy W = W → Taken

-- those of a record of writers, before and after
abbrev pub lent_writers : {G E O V W : Type 0} → TakenBy G → TakenBy E → TakenBy O → TakenBy V → TakenBy W → Wanted → (old new : Writers G E O V W) → List Lent
lent_writers games evens odds witnesses reports wanted old new = all_writers wanted (games old.game) (games new.game) (evens old.even) (evens new.even)
    (odds old.odd) (odds new.odd) (witnesses old.witness) (witnesses new.witness) (reports old.report) (reports new.report)
