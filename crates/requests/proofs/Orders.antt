-- Texts that are written one after another, each to a writer of its own.
use Rattle.std.proofs.Common.{ℕ, List, [], ◌∷◌, Result, Ok, Err, inl, inr, sym, true≢false}
use Rattle.text.specs.Taken.{Taken}
use Rattle.text.proofs.Writing.{Adds-none}
use Rattle.text.specs.Wrote.{Wrote}
use Rattle.std.specs.Result.{IsErr}
use Rattle.requests.specs.Writers.{TextKind, Unasked, Lent, IsWhole, AreWritten, AreWrittenUpTo, lent_for}

-- a call that failed
pub stopped_at : {T E : Type 0} → (IsText : TextKind → List ℕ → Type 0) (ws : List Lent) (r : Result T E) → IsErr r → AreWrittenUpTo IsText ws
    → AreWritten IsText ws r
stopped_at IsText ws (Ok x) h w = absurd (true≢false (sym h))
stopped_at IsText ws (Err e) h w = w

-- one text more, before others
pub then_more : {T E : Type 0} → (IsText : TextKind → List ℕ → Type 0) (w : Lent) (ws : List Lent) (r : Result T E) → IsWhole IsText w → AreWritten IsText ws r
    → AreWritten IsText (w ∷ ws) r
then_more IsText w ws (Ok x) h k = (h, k)
then_more IsText w ws (Err e) h k = inr (h, k)

-- a text alone
pub one_text : {T E : Type 0} → (IsText : TextKind → List ℕ → Type 0) (w : Lent) (r : Result T E) (text : List ℕ) → IsText w.kind text → Wrote w.old w.new r text
    → AreWritten IsText (w ∷ []) r
one_text IsText w (Ok x) text is wrote = ((text, is, wrote), tt)
one_text IsText w (Err e) text is wrote = inl ((text, is, wrote), tt)

-- Nothing is asked from a writer, and nothing was written to it.
pub unasked : (IsText : TextKind → List ℕ → Type 0) (old : Taken) → IsText Unasked [] → IsWhole IsText (lent_for Unasked old old)
unasked IsText old is = ([], is, Adds-none old)
