-- Lines that wait, and are written many at a time.
use Rattle.std.proofs.Common.{◌≡◌, ◌<◌, ◌≤◌, ◌-◌, ◌+◌, subst, true≢false, ℕ, suc, List, [], ◌++◌, Result, Ok, Err, sym, ap, ◌∙◌, append_assoc}
use Rattle.std.proofs.Common.{append-nil, arith}
use Rattle.std.specs.Result.{IsErr}
use Rattle.text.specs.Taken.{Taken, Adds}
use Rattle.text.specs.Wrote.{Wrote, WroteFront, HasWritten, Passed, lines_from}
use Rattle.text.proofs.Writing.{Adds-trans, WroteFront-after, WroteFront-more, HasWritten-stops, Wrote-after, Wrote-as}

-- what waits was not written whole
pub Passed-err : {T E : Type 0} → (a b : Taken) (waiting now sent : List ℕ) (r : Result T E) (text : List ℕ) → IsErr r → sent ≡ waiting
    → WroteFront a b sent → Passed a b waiting now r text
Passed-err a b waiting now sent (Ok x) text h e w = absurd (true≢false (sym h))
Passed-err a b waiting now sent (Err x) text h e w = WroteFront-more a b waiting text (subst (WroteFront a b) e w)

-- what waits was written whole, and then the text was
pub Passed-through : {T E : Type 0} → (a b c : Taken) (waiting now sent text : List ℕ) (r : Result T E) → now ≡ [] → sent ≡ waiting
    → Adds a b sent → Wrote b c r text → Passed a c waiting now r text
Passed-through a b c waiting now sent text (Ok x) e same h k = record {
  done = waiting ++ text;
  appended = Adds-trans a b c waiting text (subst (Adds a b) same h) k;
  split = sym (append-nil (waiting ++ text)) ∙ ap (λ l. (waiting ++ text) ++ l) (sym e);
}
Passed-through a b c waiting now sent text (Err x) e same h k = WroteFront-after a b c waiting text (subst (Adds a b) same h) k

regrouped : (a b : Taken) (text waiting line rest left : List ℕ) → left ≡ line ++ rest → HasWritten a b text (waiting ++ left)
    → HasWritten a b text ((waiting ++ line) ++ rest)
regrouped a b text waiting line rest left e h = subst (HasWritten a b text) (ap (λ l. waiting ++ l) e ∙ sym (append_assoc waiting line rest)) h

-- a line is passed on
pub HasWritten-passed : (a b c : Taken) (text waiting line now rest left : List ℕ) → left ≡ line ++ rest → HasWritten a b text (waiting ++ left)
    → HasWritten b c (waiting ++ line) now → HasWritten a c text (now ++ rest)
HasWritten-passed a b c text waiting line now rest left e h k = let h' = regrouped a b text waiting line rest left e h in record {
  done = h'.done ++ k.done;
  appended = Adds-trans a b c h'.done k.done h'.appended k.appended;
  split = h'.split ∙ (ap (λ l. h'.done ++ (l ++ rest)) k.split
      ∙ (ap (λ l. h'.done ++ l) (append_assoc k.done now rest) ∙ sym (append_assoc h'.done k.done (now ++ rest))));
}

-- a line isn't
pub HasWritten-halts : (a b c : Taken) (text waiting line rest left : List ℕ) → left ≡ line ++ rest → HasWritten a b text (waiting ++ left)
    → WroteFront b c (waiting ++ line) → WroteFront a c text
HasWritten-halts a b c text waiting line rest left e h k = HasWritten-stops a b c text (waiting ++ line) rest (regrouped a b text waiting line rest left e h) k

-- what waits at the end is written
pub Wrote-last : {T E : Type 0} → (a b c : Taken) (text waiting left : List ℕ) (r : Result T E) → left ≡ [] → HasWritten a b text (waiting ++ left)
    → Wrote b c r waiting → Wrote a c r text
Wrote-last a b c text waiting left r e h k =
    Wrote-as a c r (h.done ++ waiting) text (sym (h.split ∙ ap (λ l. h.done ++ l) (ap (λ l. waiting ++ l) e ∙ append-nil waiting)))
    (Wrote-after a b c h.done waiting r h.appended k)

-- the lines from one on begin with it
pub next_line : (line : ℕ → List ℕ) (number end : ℕ) → number < end
    → lines_from line number (end - number) ≡ line number ++ lines_from line (number + 1) (end - (number + 1))
next_line line number end h = let one : end - number ≡ suc (end - (number + 1)) = omega (arith, h) in ap (lines_from line number) one

pub no_line : (line : ℕ → List ℕ) (number end : ℕ) → end ≤ number → lines_from line number (end - number) ≡ []
no_line line number end h = let none : end - number ≡ 0 = omega (arith, h) in ap (lines_from line number) none
