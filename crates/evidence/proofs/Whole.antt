-- A header and the lines below it are a text of evidence.
use Rattle.std.proofs.Common.{ℕ, List, ◌∷◌, Option, Some, None, Result, length, ap, ◌∙◌}
use Rattle.std.specs.Prelude.{IfErr, IfOk, IfSome}
use Rattle.text.specs.Lines.{IfKnown}
use Rattle.text.specs.Reads.{Reads}
use Rattle.text.proofs.Promised.{AreLaws, keeps}
use Rattle.game.specs.Game.{Game}
use Rattle.game.specs.declared.player.Player.{Player}
use Rattle.evidence.specs.Canon.{header}
use Rattle.evidence.specs.Evidence.{Entry, counted}
use Rattle.evidence.specs.Fault.{HasEvidenceFault, HasEvidenceFaultAt, RefusesEvidence, evidence_fault_of}
use Rattle.evidence.specs.Reading.{AreEntriesRead, BeginsWith, HasNoHeader}
use Rattle.evidence.specs.Spelling.{IsEvidenceText}
use Rattle.evidence.specs.View.{NamedEvidence}
use Rattle.evidence.specs.declared.error.EvidenceError.{EvidenceError}
use Rattle.evidence.specs.declared.error.EvidenceFault.{EvidenceFault}
use Rattle.evidence.specs.declared.error.EvidenceFault.TheVariants.{BadHeader, BadLine, BadVertex}
use Rattle.evidence.proofs.Alone.{no_fault, one_evidence, one_fault}

-- what was read is spelled
pub spelled : (g : Game) (player : Player) (entries : List (Option Entry)) (old mid : Option (List ℕ)) → IfKnown old mid (BeginsWith player)
    → AreEntriesRead (length g.vertices) (length (counted player g)) mid entries
    → IfSome old (λ text. IsEvidenceText g text (record { player = player; entries = entries }))
spelled g player entries None mid begins read = tt
spelled g player entries (Some text) None begins read = absurd begins
spelled g player entries (Some text) (Some left) begins read = record {
  rest = read.rest;
  cut = begins
      ∙ ap (λ l. header player ∷ l) read.cut;
  lines = read.lines;
}

headless : (g : Game) (text : List ℕ) (fault : EvidenceFault) (place : ℕ) → HasNoHeader text fault place → HasEvidenceFault g text fault place
headless g text BadHeader place h = (h.1, h.2)
headless g text BadLine place h = absurd (let e = h.0 in cc)
headless g text BadVertex place h = absurd (let e = h.0 in cc)

laws : (g : Game) → AreLaws (IsEvidenceText g) (IsEvidenceText g) (IsEvidenceText g) (HasEvidenceFaultAt g)
laws g = record {
  one_value = λ text e f a b. one_evidence g text f e b a;
  no_fault = λ text e f a h. no_fault g text e f.0 f.1 a h;
  none_due = λ text e f a h. no_fault g text e f.0 f.1 a h;
  one_fault = λ text f k a b. let e = one_fault g text f.0 k.0 f.1 k.1 a b in λ i. (e.0 i, e.1 i);
}

-- all that the reader promises
pub promised : (g : Game) (old : Option (List ℕ)) (r : Result NamedEvidence EvidenceError) → IfOk r (λ e. IfSome old (λ text. IsEvidenceText g text e.evidence))
    → IfErr r (RefusesEvidence old (HasEvidenceFault g))
    → Reads (IsEvidenceText g) (IsEvidenceText g) (IsEvidenceText g) (HasEvidenceFaultAt g) (λ (e : NamedEvidence). e.evidence) evidence_fault_of old r
promised g old r spells fault = keeps (IsEvidenceText g) (IsEvidenceText g) (IsEvidenceText g) (HasEvidenceFaultAt g) (λ (e : NamedEvidence). e.evidence) evidence_fault_of
    (laws g) old r spells fault
