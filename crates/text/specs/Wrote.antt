-- What a call wrote of a text.
use Rattle.std.specs.Prelude.{◌≡◌, ◌≢◌, ℕ, zero, suc, ◌+◌, List, [], ◌++◌, Result, MatchResult, IsTrue}
use Rattle.text.specs.Taken.{Taken, Adds}

-- A beginning of the text was written, and some of it was not, for a write may have failed.
pub record WroteFront (old new : Taken) (text : List ℕ) : Type 0 where
  pub front : List ℕ
  pub back : List ℕ
  pub whole : text ≡ front ++ back
  pub left : back ≢ []
  pub appended : Adds old new front
  pub failed : IsTrue new.failed

-- all of the text was written on Ok, and a beginning of it on Err
abbrev pub Wrote : {T E : Type 0} → Taken → Taken → Result T E → List ℕ → Type 0
Wrote old new r text = MatchResult r (λ _. Adds old new text) (λ _. WroteFront old new text)

-- A beginning of the text was written, and this is left.
pub record HasWritten (old now : Taken) (text rest : List ℕ) : Type 0 where
  pub done : List ℕ
  pub appended : Adds old now done
  pub split : text ≡ done ++ rest

-- Bytes wait before a text is written. On Ok a beginning of both was written and the rest waits, and on Err a beginning of both, and not all, was written.
abbrev pub Passed : {T E : Type 0} → Taken → Taken → (waiting now_waiting : List ℕ) → Result T E → List ℕ → Type 0
Passed old new waiting now_waiting r text = MatchResult r (λ _. HasWritten old new (waiting ++ text) now_waiting) (λ _. WroteFront old new (waiting ++ text))

-- so many lines from a number on
abbrev pub lines_from : (ℕ → List ℕ) → ℕ → ℕ → List ℕ
lines_from line number zero = []
lines_from line number (suc count) = line number ++ lines_from line (number + 1) count
