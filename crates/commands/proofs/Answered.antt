-- What is answered where a text was written, or a beginning of it, or nothing.
use Rattle.std.proofs.Common.{ℕ, List, Bool, Result, Ok, Err, subst, sym}
use Rattle.text.proofs.Writing.{Stays-refl}
use Rattle.text.specs.Taken.{Taken}
use Rattle.text.specs.Wrote.{Wrote}
use Rattle.text.specs.declared.write_loop.WriteFault.{WriteFault}
use Rattle.requests.specs.declared.error.MuError.{MuError}
use Rattle.requests.specs.declared.error.MuError.TheVariants as error
use Rattle.commands.specs.Answers.{Answers, IsAnswerTo}

pub written : (IsText : Bool → List ℕ → Type 0) (Refuses : MuError → Type 0) (old new : Taken) (answer : Bool) (text : List ℕ) (wrote : Result Unit WriteFault)
    (r : Result Bool MuError) → IsText answer text → Wrote old new wrote text → IsAnswerTo wrote answer r → Answers IsText Refuses old new r
written IsText Refuses old new answer text (Ok u) r is h e = subst (Answers IsText Refuses old new) (sym e) (text, is, h)
written IsText Refuses old new answer text (Err fault) r is h e = subst (Answers IsText Refuses old new) (sym e) (answer, text, is, h)

pub refused : (IsText : Bool → List ℕ → Type 0) (Refuses : MuError → Type 0) (held : Taken) (e : MuError) → ((fault : WriteFault) → Refuses (error.Write fault) → ⊥)
    → Refuses e → Answers IsText Refuses held held (Err e)
refused IsText Refuses held (error.Write fault) none h = absurd (none fault h)
refused IsText Refuses held e none h = (h, Stays-refl held)
