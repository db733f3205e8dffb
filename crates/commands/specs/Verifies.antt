-- What the command `verify` answers.
use Rattle.std.specs.Prelude.{◌≡◌, ◌⊎◌, ◌↔◌, ℕ, Bool, List, IsTrue, Option, Some, Result}
use Rattle.text.specs.Taken.{Taken}
use Rattle.game.specs.Game.{Game}
use Rattle.game.specs.Wins.{WinsBy}
use Rattle.evidence.specs.Evidence.{Evidence, has}
use Rattle.evidence.specs.Checking.{Decides}
use Rattle.evidence.specs.Verdict.{IsBoth, IsVerdict, both_text, verdict_text}
use Rattle.evidence.specs.declared.error.EvidenceError.{EvidenceError}
use Rattle.evidence.specs.declared.verdict.Verdict.{Verdict}
use Rattle.evidence.specs.declared.verdict.Verdict.TheVariants.{Good}
use Rattle.evidence.specs.declared.verdict.Both.{Both}
use Rattle.evidence.specs.declared.verdict.Both.TheVariants.{Yes}
use Rattle.requests.specs.declared.error.MuError.{MuError}
use Rattle.requests.specs.declared.error.MuError.TheVariants as error
use Rattle.commands.specs.Answers.{Answers}
use Rattle.commands.specs.Spelled.{IsEvidenceOf, IsEvidenceTold, IsGameOf, IsGameTold}

-- ------------------------------------------------------------------ of one piece of evidence

-- The texts spell a game and evidence for it, the text that is written is that of its verdict, and the answer is whether it is good. If it is, its player
-- wins each vertex of the set.
pub record IsVerified (first second : List ℕ) (answer : Bool) (text : List ℕ) : Type 0 where
  pub g : Game
  pub e : Evidence
  pub told : Verdict
  pub game : IsGameOf first g
  pub evidence : IsEvidenceOf g second e
  pub verdict : IsVerdict g e told
  pub same : text ≡ verdict_text g e told
  pub answered : IsTrue answer ↔ (told ≡ Good)
  pub wins : IsTrue answer → (v : ℕ) → IsTrue (has e v) → WinsBy e.player g v

-- The first text spells a game, and the second one spells no evidence for it, for this reason.
pub record SpellsNoEvidence (first second : List ℕ) (e : EvidenceError) : Type 0 where
  pub g : Game
  pub game : IsGameOf first g
  pub told : IsEvidenceTold g second e

-- What a refusal says of the texts.
abbrev pub RefusesVerify : (first second : List ℕ) → MuError → Type 0
RefusesVerify first second (error.Game e) = IsGameTold first e
RefusesVerify first second (error.Evidence e) = SpellsNoEvidence first second e
RefusesVerify first second _ = ⊥

-- The theorem of the command: of what the readers had left, where they tell it, and of what the writer held before and after.
abbrev pub Verifies : (game evidence : Option (List ℕ)) → (old new : Taken) → Result Bool MuError → Type 0
Verifies game evidence old new result =
    (first second : List ℕ) → game ≡ Some first → evidence ≡ Some second → Answers (IsVerified first second) (RefusesVerify first second) old new result

-- ------------------------------------------------------------------ of two

-- The texts spell a game and two pieces of evidence for it, the text that is written is what is told of both, and the answer is whether both are good and hold
-- the whole game. If so, each holds exactly the vertices that its player wins, and none is in both.
pub record AreVerified (first second third : List ℕ) (answer : Bool) (text : List ℕ) : Type 0 where
  pub g : Game
  pub e : Evidence
  pub f : Evidence
  pub told : Both
  pub game : IsGameOf first g
  pub one : IsEvidenceOf g second e
  pub other : IsEvidenceOf g third f
  pub both : IsBoth g e f told
  pub same : text ≡ both_text g e f told
  pub answered : IsTrue answer ↔ (told ≡ Yes)
  pub decides : IsTrue answer → Decides g e f

-- The first text spells a game and the second one evidence for it, and the third one spells none, for this reason.
pub record HasNoOther (first second third : List ℕ) (e : EvidenceError) : Type 0 where
  pub g : Game
  pub f : Evidence
  pub game : IsGameOf first g
  pub one : IsEvidenceOf g second f
  pub told : IsEvidenceTold g third e

-- What a refusal says of the texts. The third text is looked at where the second one spells evidence.
abbrev pub RefusesBoth : (first second third : List ℕ) → MuError → Type 0
RefusesBoth first second third (error.Game e) = IsGameTold first e
RefusesBoth first second third (error.Evidence e) = SpellsNoEvidence first second e ⊎ HasNoOther first second third e
RefusesBoth first second third _ = ⊥

-- The theorem of the command with two pieces of evidence.
abbrev pub VerifiesBoth : (game one other : Option (List ℕ)) → (old new : Taken) → Result Bool MuError → Type 0
VerifiesBoth game one other old new result = (first second third : List ℕ) → game ≡ Some first → one ≡ Some second → other ≡ Some third
    → Answers (AreVerified first second third) (RefusesBoth first second third) old new result
