-- What is written of what was prepared, writer by writer.
use Rattle.std.proofs.Common.{◌≡◌, ℕ, Bool, true, false, List, [], ◌∷◌, Option, Some, None, Result, inl, inr, refl, subst, sym, ap, ◌∙◌}
use Rattle.text.proofs.Writing.{Stays-refl}
use Rattle.text.specs.Taken.{Taken, Adds}
use Rattle.std.specs.Option.{is_some}
use Rattle.std.specs.Prelude.{IfSome, option_map}
use Rattle.std.specs.Result.{IsErr}
use Rattle.text.specs.Wrote.{Wrote, WroteFront}
use Rattle.systems.specs.Numbered.{system_with}
use Rattle.systems.specs.declared.system.Transition.{Transition}
use Rattle.lts.specs.Canon.{aut_text}
use Rattle.witness.specs.Drawing.{drawing}
use Rattle.requests.specs.declared.request.WitnessForm.{WitnessForm}
use Rattle.requests.specs.declared.request.WitnessForm.TheVariants.{System, Drawing}
use Rattle.requests.specs.declared.texts.Texts.{Texts}
use Rattle.game.specs.Game.{Game}
use Rattle.engines.specs.declared.prepared.Prepared.{Prepared}
use Rattle.engines.specs.declared.prepared.WitnessText.{WitnessText}
use Rattle.requests.specs.declared.request.Wanted.{Wanted}
use Rattle.engines.specs.Prepared.{AreShown, IsTextFound, Outcome}
use Rattle.requests.specs.Writers.{EvenText, GameText, OddText, Unasked, Lent, AreKept, AreWhole, AreWritten, AreWrittenUpTo, all_writers, kind_where}
use Rattle.requests.specs.Writers.{lent_for, report_writer, witness_kind}
use Rattle.engines.proofs.Orders.{one_text, stopped_at, then_more, unasked}

-- ------------------------------------------------------------------ the witness

-- The kind of witness that is wanted is that of the one that was made.
kind_made : (p : Prepared) (s : WitnessText) → p.shown ≡ Some s → option_map (λ (y : WitnessText). y.form) p.shown ≡ p.wanted.witness → Some s.form ≡ p.wanted.witness
kind_made p s is form = sym (ap (option_map (λ (y : WitnessText). y.form)) is) ∙ form

pub shown_in : (x : Outcome) (p : Prepared) (s : WitnessText) → p.shown ≡ Some s → IfSome p.shown (λ y. AreShown x.rule x.texts y.part.items)
    → AreShown x.rule x.texts s.part.items
shown_in x p s is h = subst (λ (o : Option WitnessText). IfSome o (λ y. AreShown x.rule x.texts y.part.items)) is h

-- the witness was begun
pub shown_stopped : {T E : Type 0} → (x : Outcome) (p : Prepared) (s : WitnessText) (old new out : Taken) (r : Result T E) → p.shown ≡ Some s
    → option_map (λ (y : WitnessText). y.form) p.shown ≡ p.wanted.witness → IsErr r
    → AreWrittenUpTo (IsTextFound x) (lent_for (witness_kind (Some s.form)) old new ∷ [])
    → AreWritten (IsTextFound x) (lent_for (witness_kind p.wanted.witness) old new ∷ report_writer p.wanted.report out out) r
shown_stopped x p s old new out r is form h up =
    subst (λ kind. AreWritten (IsTextFound x) (lent_for (witness_kind kind) old new ∷ report_writer p.wanted.report out out) r) (kind_made p s is form)
    (stopped_at (IsTextFound x) (lent_for (witness_kind (Some s.form)) old new ∷ report_writer p.wanted.report out out) r h (elim up [
      | inl w ↦ inl (w.0, (Stays-refl out, tt))
      | inr w ↦ absurd w.1
    ]))

-- it was written, and then the report
pub shown_written : {T E : Type 0} → (x : Outcome) (p : Prepared) (s : WitnessText) (old new out_old out_new : Taken) (r : Result T E) → p.shown ≡ Some s
    → option_map (λ (y : WitnessText). y.form) p.shown ≡ p.wanted.witness → AreWhole (IsTextFound x) (lent_for (witness_kind (Some s.form)) old new ∷ [])
    → AreWritten (IsTextFound x) (report_writer p.wanted.report out_old out_new) r
    → AreWritten (IsTextFound x) (lent_for (witness_kind p.wanted.witness) old new ∷ report_writer p.wanted.report out_old out_new) r
shown_written x p s old new out_old out_new r is form whole rest =
    subst (λ kind. AreWritten (IsTextFound x) (lent_for (witness_kind kind) old new ∷ report_writer p.wanted.report out_old out_new) r) (kind_made p s is form)
    (then_more (IsTextFound x) (lent_for (witness_kind (Some s.form)) old new) (report_writer p.wanted.report out_old out_new) r whole.0 rest)

-- none is wanted
pub unshown_written : {T E : Type 0} → (x : Outcome) (p : Prepared) (old out_old out_new : Taken) (r : Result T E) → p.shown ≡ None
    → option_map (λ (y : WitnessText). y.form) p.shown ≡ p.wanted.witness → AreWritten (IsTextFound x) (report_writer p.wanted.report out_old out_new) r
    → AreWritten (IsTextFound x) (lent_for (witness_kind p.wanted.witness) old old ∷ report_writer p.wanted.report out_old out_new) r
unshown_written x p old out_old out_new r is form rest =
    let none : None ≡ p.wanted.witness = sym (ap (option_map (λ (y : WitnessText). y.form)) is) ∙ form in
    subst (λ kind. AreWritten (IsTextFound x) (lent_for (witness_kind kind) old old ∷ report_writer p.wanted.report out_old out_new) r) none
    (then_more (IsTextFound x) (lent_for Unasked old old) (report_writer p.wanted.report out_old out_new) r (unasked x old) rest)

-- it is written as a system
pub system_written : {T E : Type 0} → (x : Outcome) (form : WitnessForm) (u : Texts) (part shown : List Transition) (old new : Taken)
    (r : Result T E) → form ≡ System → u ≡ x.texts → part ≡ shown → AreShown x.rule x.texts shown
    → Wrote old new r (aut_text (system_with u.system part)) → AreWritten (IsTextFound x) (lent_for (witness_kind (Some form)) old new ∷ []) r
system_written x form u part shown old new r is at same are wrote =
    subst (λ k. AreWritten (IsTextFound x) (lent_for (witness_kind (Some k)) old new ∷ []) r) (sym is)
    (one_text (IsTextFound x) (lent_for (witness_kind (Some System)) old new) r (aut_text (system_with u.system part)) (
      system_with x.texts.system shown,
      are.shown,
      ap (λ (y : Texts). aut_text (system_with y.system part)) at ∙ ap (λ p. aut_text (system_with x.texts.system p)) same,
    ) wrote)

-- and as a drawing
pub drawing_written : {T E : Type 0} → (x : Outcome) (form : WitnessForm) (u : Texts) (part shown : List Transition) (old new : Taken)
    (r : Result T E) → form ≡ Drawing → u ≡ x.texts → part ≡ shown → AreShown x.rule x.texts shown
    → Wrote old new r (drawing (system_with u.system part)) → AreWritten (IsTextFound x) (lent_for (witness_kind (Some form)) old new ∷ []) r
drawing_written x form u part shown old new r is at same are wrote =
    subst (λ k. AreWritten (IsTextFound x) (lent_for (witness_kind (Some k)) old new ∷ []) r) (sym is)
    (one_text (IsTextFound x) (lent_for (witness_kind (Some Drawing)) old new) r (drawing (system_with u.system part)) (
      system_with x.texts.system shown,
      are.shown,
      ap (λ (y : Texts). drawing (system_with y.system part)) at ∙ ap (λ p. drawing (system_with x.texts.system p)) same,
    ) wrote)

-- ------------------------------------------------------------------ the evidence of both players

-- Even's was begun.
pub even_begun : {T E : Type 0} → (x : Outcome) (evens : List ℕ) (old new odd : Taken) (r : Result T E) → IsTextFound x EvenText evens → IsErr r
    → WroteFront old new evens → AreWritten (IsTextFound x) (lent_for EvenText old new ∷ (lent_for OddText odd odd ∷ [])) r
even_begun x evens old new odd r even h front =
    stopped_at (IsTextFound x) (lent_for EvenText old new ∷ (lent_for OddText odd odd ∷ [])) r h (inl ((evens, even, front), (Stays-refl odd, tt)))

-- It was written, and then Odd's.
pub odd_after : {T E : Type 0} → (x : Outcome) (evens odds : List ℕ) (old new odd_old odd_new : Taken) (r : Result T E) → IsTextFound x EvenText evens
    → IsTextFound x OddText odds → Adds old new evens → Wrote odd_old odd_new r odds
    → AreWritten (IsTextFound x) (lent_for EvenText old new ∷ (lent_for OddText odd_old odd_new ∷ [])) r
odd_after x evens odds old new odd_old odd_new r even odd first last =
    then_more (IsTextFound x) (lent_for EvenText old new) (lent_for OddText odd_old odd_new ∷ []) r (evens, even, first)
    (one_text (IsTextFound x) (lent_for OddText odd_old odd_new) r odds odd last)

-- the writers of both, where evidence is asked for
abbrev pub both_lent : Bool → (old new odd_old odd_new : Taken) → List Lent → List Lent
both_lent asked old new odd_old odd_new rest =
    lent_for (kind_where asked EvenText) old new ∷ (lent_for (kind_where asked OddText) odd_old odd_new ∷ rest)

-- They were written up to one, and nothing after that.
pub both_stopped : {T E : Type 0} → (x : Outcome) (made asked : Bool) (old new odd_old odd_new : Taken) (rest : List Lent) (r : Result T E) → made ≡ asked
    → IsErr r → AreKept rest → AreWrittenUpTo (IsTextFound x) (both_lent made old new odd_old odd_new [])
    → AreWritten (IsTextFound x) (both_lent asked old new odd_old odd_new rest) r
both_stopped x made asked old new odd_old odd_new rest r e h kept up =
    subst (λ b. AreWritten (IsTextFound x) (both_lent b old new odd_old odd_new rest) r) e
    (stopped_at (IsTextFound x) (both_lent made old new odd_old odd_new rest) r h (elim up [
      | inl w ↦ inl (w.0, (w.1.0, kept))
      | inr w ↦ elim w.1 [
        | inl v ↦ inr (w.0, inl (v.0, kept))
        | inr v ↦ absurd v.1
      ]
    ]))

-- They were written, and then the rest.
pub both_written : {T E : Type 0} → (x : Outcome) (made asked : Bool) (old new odd_old odd_new : Taken) (rest : List Lent) (r : Result T E) → made ≡ asked
    → AreWhole (IsTextFound x) (both_lent made old new odd_old odd_new []) → AreWritten (IsTextFound x) rest r
    → AreWritten (IsTextFound x) (both_lent asked old new odd_old odd_new rest) r
both_written x made asked old new odd_old odd_new rest r e whole written =
    subst (λ b. AreWritten (IsTextFound x) (both_lent b old new odd_old odd_new rest) r) e
    (then_more (IsTextFound x) (lent_for (kind_where made EvenText) old new) (lent_for (kind_where made OddText) odd_old odd_new ∷ rest) r whole.0
    (then_more (IsTextFound x) (lent_for (kind_where made OddText) odd_old odd_new) rest r whole.1.0 written))

-- ------------------------------------------------------------------ the game

-- What is asked for is stored.
pub asked_stored : {A : Type 0} → (o : Option A) (a : A) (asked : Bool) → o ≡ Some a → is_some o ≡ asked → asked ≡ true
asked_stored o a asked is e = sym e ∙ ap is_some is

pub unasked_stored : {A : Type 0} → (o : Option A) (asked : Bool) → o ≡ None → is_some o ≡ asked → asked ≡ false
unasked_stored o asked is e = sym e ∙ ap is_some is

pub none_of : {A : Type 0} → (o : Option A) → ((a : A) → o ≡ Some a → ⊥) → o ≡ None
none_of None h = refl
none_of (Some a) h = absurd (h a refl)

-- A game that is stored is one that is equal.
pub stored_as : {A : Type 0} → (now : A → Game) (g h : Game) (o : Option A) → g ≡ h → IfSome o (λ x. now x ≡ g) → IfSome o (λ x. now x ≡ h)
stored_as now g h o e is = subst (λ y. IfSome o (λ x. now x ≡ y)) e is

-- it was begun
pub game_stopped : {T E : Type 0} → (x : Outcome) (wanted : Wanted) (old new even odd witness out : Taken) (text : List ℕ) (r : Result T E)
    → wanted.game ≡ true → IsErr r
    → IsTextFound x GameText text → WroteFront old new text → AreWritten (IsTextFound x)
    (all_writers wanted old new even even odd odd witness witness out out) r
game_stopped x wanted old new even odd witness out text r is h made front =
    let rest = lent_for (kind_where wanted.evidence EvenText) even even
    ∷ (lent_for (kind_where wanted.evidence OddText) odd odd ∷ (lent_for (witness_kind wanted.witness) witness witness ∷ report_writer wanted.report out out)) in
    subst (λ b. AreWritten (IsTextFound x) (lent_for (kind_where b GameText) old new ∷ rest) r) (sym is)
    (stopped_at (IsTextFound x) (lent_for GameText old new ∷ rest) r h
    (inl ((text, made, front), (Stays-refl even, (Stays-refl odd, (Stays-refl witness, (Stays-refl out, tt)))))))

pub game_written : {T E : Type 0} → (x : Outcome) (wanted : Wanted) (old new : Taken) (rest : List Lent) (text : List ℕ) (r : Result T E)
    → wanted.game ≡ true → IsTextFound x GameText text → Adds old new text → AreWritten (IsTextFound x) rest r
    → AreWritten (IsTextFound x) (lent_for (kind_where wanted.game GameText) old new ∷ rest) r
game_written x wanted old new rest text r is made wrote written =
    subst (λ b. AreWritten (IsTextFound x) (lent_for (kind_where b GameText) old new ∷ rest) r) (sym is)
    (then_more (IsTextFound x) (lent_for GameText old new) rest r (text, made, wrote) written)

pub game_unasked : {T E : Type 0} → (x : Outcome) (wanted : Wanted) (old : Taken) (rest : List Lent) (r : Result T E) → wanted.game ≡ false
    → AreWritten (IsTextFound x) rest r → AreWritten (IsTextFound x) (lent_for (kind_where wanted.game GameText) old old ∷ rest) r
game_unasked x wanted old rest r is written =
    subst (λ b. AreWritten (IsTextFound x) (lent_for (kind_where b GameText) old old ∷ rest) r) (sym is)
    (then_more (IsTextFound x) (lent_for Unasked old old) rest r (unasked x old) written)
