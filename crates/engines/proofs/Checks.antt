-- What a check has found out.
use Rattle.std.proofs.Common.{arith, ◌≡◌, ℕ, List, Bool, false, Some, None, Ok, Err, [], inl, inr, refl, subst, sym, ap, true≢false, slice_index_or}
use Rattle.std.specs.Option.{is_some}
use Rattle.std.specs.Prelude.{◌⊎◌, IsTrue, MatchResult, Option, Result}
use Rattle.text.specs.Taken.{Taken}
use Rattle.text.proofs.Writing.{Adds-none, Stays-refl}
use Rattle.text.specs.declared.write_loop.WriteFault.{WriteFault}
use Rattle.systems.specs.System.{System}
use Rattle.calculus.specs.Tree.{Formula}
use Rattle.requests.specs.declared.error.MuError.{MuError}
use Rattle.requests.specs.declared.texts.Texts.{Texts}
use Rattle.requests.specs.declared.error.MuError.TheVariants as error
use Rattle.requests.specs.Check.{Way, BySets, ByGame, AnswersCheck, AreSpelled, AreMarks, CanBeFound, IsTextOf}
use Rattle.requests.specs.Check.{RefusesCheck}
use Rattle.requests.specs.declared.request.WitnessForm.{WitnessForm}
use Rattle.requests.specs.declared.request.WitnessForm.TheVariants.{System as AsSystem, Drawing}
use Rattle.requests.specs.Writers.{EvenText, WitnessText, DrawingText, Lent, IsLentFor, NeedsEvidence, Unasked, AreKept, AreWritten, IsWhole, all_writers, kind_where}
use Rattle.requests.specs.Writers.{lent_for, report_writer, witness_kind}
use Rattle.requests.specs.declared.request.ReportForm.{ReportForm}
use Rattle.requests.specs.declared.request.Wanted.{Wanted}
use Rattle.requests.specs.Command as request
use Rattle.requests.specs.Strict.{AnswersBy, KnowsWords}
use Rattle.engines.specs.Prepared.{IsUnprepared}
use Rattle.engines.specs.Play.{HasNoPlay}
use Rattle.calculus.specs.declared.priorities.Priorities.{Priorities}
use Rattle.workers.specs.declared.team.BoardKind.{BoardKind}
use Rattle.verdicts.proofs.Beyond.{beyond_of}

-- None of the writers of all texts was written to.
pub kept_writers : (wanted : Wanted) (game even odd witness out : Taken)
    → AreKept (all_writers wanted game game even even odd odd witness witness out out)
kept_writers wanted game even odd witness out = (Stays-refl game, (Stays-refl even, (Stays-refl odd, (Stays-refl witness, (Stays-refl out, tt)))))

-- No writer was written to before all that is wanted was made, which there was no memory for.
pub unprepared_of : (way : Way) (l : System) (f : Formula) (wanted : Wanted) (first second : List ℕ) (writers : List Lent) (e : MuError)
    → AreSpelled first second l f → CanBeFound way l f → AreKept writers → (IsTrue wanted.evidence → IsLentFor EvenText writers)
    → (IsTrue (is_some wanted.witness) → IsLentFor WitnessText writers ⊎ IsLentFor DrawingText writers) → IsUnprepared wanted e
    → RefusesCheck way first second writers e
unprepared_of way l f wanted first second writers e spelled within kept even witness (inl (asked, is)) =
    subst (RefusesCheck way first second writers) (sym is)
    (record { l = l; f = f; spelled = spelled; within = within; needed = inl (even asked); memory = refl }, kept)
unprepared_of way l f wanted first second writers e spelled within kept even witness (inr (asked, inl is)) =
    subst (RefusesCheck way first second writers) (sym is) ((l, spelled.system.spelled), kept)
unprepared_of way l f wanted first second writers e spelled within kept even witness (inr (asked, inr is)) =
    subst (RefusesCheck way first second writers) (sym is)
    (record { l = l; f = f; spelled = spelled; within = within; needed = inr (witness asked); memory = refl }, kept)

-- What was found one way is found an equal way.
pub by_way : (p q : Way) (first second : List ℕ) (writers : List Lent) (r : Result Bool MuError) → p ≡ q → AnswersCheck p first second writers r
    → AnswersCheck q first second writers r
by_way p q first second writers r e h = subst (λ x. AnswersCheck x first second writers r) e h

-- An answer that was written, or begun.
pub answer_of : (way : Way) (first second : List ℕ) (writers : List Lent) (l : System) (f : Formula) (marks : List Bool) (wrote : Result Unit WriteFault)
    (r : Result Bool MuError)
    → AreSpelled first second l f → AreMarks way l f marks → AreWritten (IsTextOf way l f marks) writers wrote
    → MatchResult wrote (λ x. r ≡ Ok (slice_index_or marks l.initial false)) (λ fault. r ≡ Err (error.Write fault)) → AnswersCheck way first second writers r
answer_of way first second writers l f marks (Ok x) r spelled found written e =
    subst (AnswersCheck way first second writers) (sym e) (record {
      l = l;
      f = f;
      marks = marks;
      spelled = spelled;
      found = found;
      written = written;
      answered = refl;
    })
answer_of way first second writers l f marks (Err fault) r spelled found begun e =
    subst (AnswersCheck way first second writers) (sym e) (record { l = l; f = f; marks = marks; spelled = spelled; found = found; begun = begun })

-- The answer is that of the texts and the marks that these are read off.
pub answered_at : (ms ns : List Bool) (t u : Texts) (wrote : Result Unit WriteFault) (r : Result Bool MuError) → ms ≡ ns → t ≡ u
    → MatchResult wrote (λ x. r ≡ Ok (slice_index_or ms t.system.system.initial false)) (λ fault. r ≡ Err (error.Write fault))
    → MatchResult wrote (λ x. r ≡ Ok (slice_index_or ns u.system.system.initial false)) (λ fault. r ≡ Err (error.Write fault))
answered_at ms ns t u wrote r same at h =
    subst (λ (y : Texts). MatchResult wrote (λ x. r ≡ Ok (slice_index_or ns y.system.system.initial false)) (λ fault. r ≡ Err (error.Write fault))) at
    (subst (λ (xs : List Bool). MatchResult wrote (λ x. r ≡ Ok (slice_index_or xs t.system.system.initial false)) (λ fault. r ≡ Err (error.Write fault))) same h)

-- The writer of a witness that is wanted is lent for it.
witness_lent : (form : Option WitnessForm) → IsTrue (is_some form) → (witness_kind form ≡ WitnessText) ⊎ (witness_kind form ≡ DrawingText)
witness_lent None h = absurd (true≢false (sym h))
witness_lent (Some AsSystem) h = inl refl
witness_lent (Some Drawing) h = inr refl

-- Nothing was written where what is wanted could not be made.
pub unprepared_all : (way : Way) (l : System) (f : Formula) (wanted : Wanted) (first second : List ℕ) (game even odd witness out : Taken) (e : MuError)
    → AreSpelled first second l f → CanBeFound way l f → IsUnprepared wanted e
    → RefusesCheck way first second (all_writers wanted game game even even odd odd witness witness out out) e
unprepared_all way l f wanted first second game even odd witness out e spelled within is =
    unprepared_of way l f wanted first second (all_writers wanted game game even even odd odd witness witness out out) e spelled within
    (kept_writers wanted game even odd witness out)
    (λ h. inr (inl (ap (λ b. kind_where b EvenText) h)))
    (λ h. elim (witness_lent wanted.witness h) [
      | inl k ↦ inl (inr (inr (inr (inl k))))
      | inr k ↦ inr (inr (inr (inr (inl k))))
    ]) is

-- nor where no play was found
pub unplayed_all : (rule : Priorities) (board : BoardKind) (l : System) (f : Formula) (wanted : Wanted) (first second : List ℕ)
    (game even odd witness out : Taken) (e : MuError) → IsTrue (is_some wanted.witness) → AreSpelled first second l f → HasNoPlay rule board l f e
    → RefusesCheck (ByGame rule (Some board)) first second (all_writers wanted game game even even odd odd witness witness out out) e
unplayed_all rule board l f wanted first second game even odd witness out e asked spelled (inl beyond) =
    beyond_of rule (Some board) first second (all_writers wanted game game even even odd odd witness witness out out) l f e spelled beyond
    (kept_writers wanted game even odd witness out)
unplayed_all rule board l f wanted first second game even odd witness out e asked spelled (inr h) =
    unprepared_all (ByGame rule (Some board)) l f wanted first second game even odd witness out e spelled h.0 (inr (asked, h.1))

alone_kept : (form : ReportForm) (game even odd witness old new : Taken) → AreKept (report_writer form old new)
    → AreKept (all_writers (request.report_alone form) game game even even odd odd witness witness old new)
alone_kept form game even odd witness old new h = (Stays-refl game, (Stays-refl even, (Stays-refl odd, (Stays-refl witness, h))))

-- the writers to which nothing is written, and the report's
abbrev pub report_alone : (form : ReportForm) (game even odd witness old new : Taken) → List Lent
report_alone form game even odd witness old new =
    all_writers (request.report_alone form) game game even even odd odd witness witness old new

nothing_asked : (way : Way) (l : System) (f : Formula) (marks : List Bool) → IsTextOf way l f marks Unasked []
nothing_asked BySets l f marks = refl
nothing_asked (ByGame rule board) l f marks = refl

nothing_written : (way : Way) (l : System) (f : Formula) (marks : List Bool) (bytes : Taken) → IsWhole (IsTextOf way l f marks) (lent_for Unasked bytes bytes)
nothing_written way l f marks bytes = ([], nothing_asked way l f marks, Adds-none bytes)

no_evidence_needed : (form : ReportForm) (old new : Taken) → NeedsEvidence (report_writer form old new) → ⊥
no_evidence_needed form old new needed = grind arith

-- Where nothing is wanted before the report, it alone is written.
pub alone_of : (way : Way) (first second : List ℕ) (form : ReportForm) (game even odd witness old new : Taken) (r : Result Bool MuError)
    → AnswersCheck way first second (report_writer form old new) r → AnswersCheck way first second (report_alone form game even odd witness old new) r
alone_of way first second form game even odd witness old new (Ok a) h = record {
  l = h.l;
  f = h.f;
  marks = h.marks;
  spelled = h.spelled;
  found = h.found;
  written = (nothing game, (nothing even, (nothing odd, (nothing witness, h.written))));
  answered = h.answered;
}
  where
    nothing : (bytes : Taken) → IsWhole (IsTextOf way h.l h.f h.marks) (lent_for Unasked bytes bytes)
    nothing bytes = nothing_written way h.l h.f h.marks bytes
alone_of way first second form game even odd witness old new (Err error.Read) h = (h.0, alone_kept form game even odd witness old new h.1)
alone_of way first second form game even odd witness old new (Err error.Memory) h = (h.0, alone_kept form game even odd witness old new h.1)
alone_of way first second form game even odd witness old new (Err (error.System e)) h = (h.0, alone_kept form game even odd witness old new h.1)
alone_of way first second form game even odd witness old new (Err (error.Formula e)) h = (h.0, h.1, alone_kept form game even odd witness old new h.2)
alone_of way first second form game even odd witness old new (Err (error.Write e)) h = record {
  l = h.l;
  f = h.f;
  marks = h.marks;
  spelled = h.spelled;
  found = h.found;
  begun = inr (nothing game, inr (nothing even, inr (nothing odd, inr (nothing witness, h.begun))));
}
  where
    nothing : (bytes : Taken) → IsWhole (IsTextOf way h.l h.f h.marks) (lent_for Unasked bytes bytes)
    nothing bytes = nothing_written way h.l h.f h.marks bytes
alone_of way first second form game even odd witness old new (Err (error.Arguments e)) h = absurd h
alone_of way first second form game even odd witness old new (Err error.File) h = absurd h
alone_of way first second form game even odd witness old new (Err (error.Normal e)) h = (h.0, alone_kept form game even odd witness old new h.1)
alone_of way first second form game even odd witness old new (Err (error.Build e)) h = (h.0, alone_kept form game even odd witness old new h.1)
alone_of way first second form game even odd witness old new (Err (error.Game e)) h = absurd h
alone_of way first second form game even odd witness old new (Err (error.Evidence e)) h = absurd (no_evidence_needed form old new h.0.needed)
alone_of way first second form game even odd witness old new (Err (error.Table e)) h = (h.0, alone_kept form game even odd witness old new h.1)
alone_of way first second form game even odd witness old new (Err (error.Solve e)) h = (h.0, alone_kept form game even odd witness old new h.1)
alone_of way first second form game even odd witness old new (Err (error.Schedule e)) h = absurd h
alone_of way first second form game even odd witness old new (Err (error.NoLabel offset)) h = absurd h

-- What was answered where each word of the formula is on a transition is answered strictly.
pub strictly_answered : (strict : Bool) (way : Way) (first second : List ℕ) (writers : List Lent) (r : Result Bool MuError)
    → AnswersCheck way first second writers r → (IsTrue strict → KnowsWords first second) → AnswersBy strict way first second writers r
strictly_answered strict way first second writers (Ok a) h known = (h, known)
strictly_answered strict way first second writers (Err e) h known = inl (h, λ asked. inr (known asked))
