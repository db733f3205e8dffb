-- What commands answer that write one text.
use Rattle.std.specs.Prelude.{◌≡◌, ℕ, Bool, List, Result, Ok, Err, MatchResult}
use Rattle.text.specs.Taken.{Taken, Adds, Stays}
use Rattle.text.specs.Wrote.{WroteFront}
use Rattle.text.specs.declared.write_loop.WriteFault.{WriteFault}
use Rattle.requests.specs.declared.error.MuError.{MuError}
use Rattle.requests.specs.declared.error.MuError.TheVariants as error

-- On Ok a text that goes with the answer was written, after a write fault a beginning of such a text, and some of it was not, and after another refusal nothing.
abbrev pub Answers : (IsText : (answer : Bool) → (text : List ℕ) → Type 0) → (Refuses : MuError → Type 0) → (old new : Taken) → Result Bool MuError → Type 0
Answers IsText Refuses old new (Ok answer) = (text : List ℕ) × IsText answer text × Adds old new text
Answers IsText Refuses old new (Err (error.Write fault)) = (answer : Bool) × (text : List ℕ) × IsText answer text × WroteFront old new text
Answers IsText Refuses old new (Err e) = Refuses e × Stays old new

-- what a command answers that has written, or began to
abbrev pub IsAnswerTo : Result Unit WriteFault → (answer : Bool) → Result Bool MuError → Type 0
IsAnswerTo wrote answer result = MatchResult wrote (λ _. result ≡ Ok answer) (λ fault. result ≡ Err (error.Write fault))
