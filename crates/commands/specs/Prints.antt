-- What the command `normal` answers.
use Rattle.std.specs.Prelude.{◌≡◌, ℕ, Bool, true, List, Option, Some, Result}
use Rattle.text.specs.Taken.{Taken}
use Rattle.calculus.specs.Tree.{Formula}
use Rattle.formula.specs.Checked.{IsTold}
use Rattle.calculus.specs.declared.priorities.Priorities.{Priorities}
use Rattle.normal.specs.declared.error.NormalError.{NormalError}
use Rattle.calculus.specs.NormalTree.{depth, normal_form}
use Rattle.calculus.specs.Rules.{nodes_with}
use Rattle.normal.specs.NormalText.{normal_text}
use Rattle.normal.specs.Refused.{HasRefusalWith}
use Rattle.requests.specs.Check.{HasForm}
use Rattle.requests.specs.Texts.{IsFormulaOf}
use Rattle.requests.specs.declared.error.MuError.{MuError}
use Rattle.requests.specs.declared.error.MuError.TheVariants as error
use Rattle.commands.specs.Answers.{Answers}

-- What is printed is the normal form by the rule of the formula that the text spells, which is within the limits, and the answer is true.
pub record IsPrinted (priorities : Priorities) (text : List ℕ) (answer : Bool) (printed : List ℕ) : Type 0 where
  pub f : Formula
  pub formula : IsFormulaOf text f
  pub form : HasForm priorities f
  pub same : printed ≡ normal_text (nodes_with priorities f) (depth (normal_form f))
  pub answered : answer ≡ true

-- The text spells a formula that has no normal form by the rule, for this reason.
pub record HasNoForm (priorities : Priorities) (text : List ℕ) (e : NormalError) : Type 0 where
  pub f : Formula
  pub formula : IsFormulaOf text f
  pub refused : HasRefusalWith priorities f e

-- What a refusal says of the text.
abbrev pub RefusesPrint : Priorities → (text : List ℕ) → MuError → Type 0
RefusesPrint priorities text (error.Formula e) = IsTold text e
RefusesPrint priorities text (error.Normal e) = HasNoForm priorities text e
RefusesPrint priorities text error.Read = Unit {0}
RefusesPrint priorities text error.Memory = Unit {0}
RefusesPrint priorities text _ = ⊥

-- The theorem of the command: of what the reader had left, where it tells it, and of what the writer held before and after.
abbrev pub Prints : Priorities → (formula : Option (List ℕ)) → (old new : Taken) → Result Bool MuError → Type 0
Prints priorities formula old new result = (text : List ℕ) → formula ≡ Some text → Answers (IsPrinted priorities text) (RefusesPrint priorities text) old new result
