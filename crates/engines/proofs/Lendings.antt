-- Writers that may be lent.
use Rattle.std.proofs.Common.{◌≡◌, List, [], ◌∷◌, ◌++◌, Option, Some, None, inl, inr, refl, subst, sym}
use Rattle.text.specs.Taken.{Taken, unknown}
use Rattle.text.proofs.Writing.{Stays-refl}
use Rattle.std.specs.Borrow.{MutBor}
use Rattle.requests.specs.declared.request.ReportForm.TheVariants.{Whole}
use Rattle.requests.specs.declared.writers.EvidenceWriters.{EvidenceWriters}
use Rattle.requests.specs.declared.writers.EvidenceWriters.TheVariants.{Neither, Both}
use Rattle.requests.specs.Writers.{AreKept, Left, LeftBoth, Lent, evidence_writers, game_writer, no_writer, report_writer}

-- What is left of a writer that was not written to keeps its bytes.
pub kept_game : {G : Type 0} → (contents : G → Taken) (game : Option (MutBor G)) (left : Left G)
    → ((x : MutBor G) → game ≡ Some x → left ≡ inr (inl (x, tt)))
    → AreKept (game_writer contents game left)
kept_game contents None left same = (Stays-refl unknown, tt)
kept_game contents (Some x) left same = subst (λ l. AreKept (game_writer contents (Some x) l)) (sym (same x refl)) (Stays-refl (contents x.now), tt)

pub kept_evidence : {E O : Type 0} → (evens : E → Taken) (odds : O → Taken) (evidence : EvidenceWriters E O) (left : LeftBoth E O)
    → ((x : MutBor E) (y : MutBor O) → evidence ≡ Both x y → left ≡ inr (inl (x, (y, tt)))) → AreKept (evidence_writers evens odds evidence left)
kept_evidence evens odds Neither left same = (Stays-refl unknown, (Stays-refl unknown, tt))
kept_evidence evens odds (Both x y) left same =
    subst (λ l. AreKept (evidence_writers evens odds (Both x y) l)) (sym (same x y refl)) (Stays-refl (evens x.now), (Stays-refl (odds y.now), tt))

kept_both : (ws vs : List Lent) → AreKept ws → AreKept vs → AreKept (ws ++ vs)
kept_both [] vs h k = k
kept_both (w ∷ ws) vs h k = (h.0, kept_both ws vs h.1 k)

-- None of all that may be lent was written to.
pub kept_all : {G E O : Type 0} → (contents : G → Taken) (evens : E → Taken) (odds : O → Taken) (game : Option (MutBor G))
    (left : Left G)
    → (evidence : EvidenceWriters E O) (left_both : LeftBoth E O) (out : Taken) → ((x : MutBor G) → game ≡ Some x → left ≡ inr (inl (x, tt)))
    → ((x : MutBor E) (y : MutBor O) → evidence ≡ Both x y → left_both ≡ inr (inl (x, (y, tt))))
    → AreKept (game_writer contents game left ++ (evidence_writers evens odds evidence left_both ++ (no_writer ∷ report_writer Whole out out)))
kept_all contents evens odds game left evidence left_both out same same_both =
    kept_both (game_writer contents game left) (evidence_writers evens odds evidence left_both ++ (no_writer ∷ report_writer Whole out out))
    (kept_game contents game left same)
    (kept_both (evidence_writers evens odds evidence left_both) (no_writer ∷ report_writer Whole out out) (kept_evidence evens odds evidence left_both same_both)
    (Stays-refl unknown, (Stays-refl out, tt)))
