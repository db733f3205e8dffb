-- Pieces that are written one after another are one text.
use Rattle.std.proofs.Common.{◌≡◌, ◌+◌, ◌≤◌, ◌⊎◌, subst, true≢false, ◌≢◌, take, length-append, arith, inl, inr, ℕ, List, [], ◌∷◌, ◌++◌, length, Option, Some, None, Result, Ok, Err, IsTrue, refl, sym, ap, ◌∙◌, append_assoc, append-nil}
use Rattle.std.specs.Result.{IsErr}
use Rattle.std.specs.Io.KnownBytes.{Appends}
use Rattle.std.proofs.KnownBytes.{Appends-kept, Appends-trans, Keeps-refl}
use Rattle.std.proofs.lemmas.List.{length-take-le}
use Rattle.text.specs.Taken.{Taken, Receives, Adds, Stays}
use Rattle.text.specs.Wrote.{Wrote, WroteFront}
pub use Rattle.text.specs.Wrote.{HasWritten}

-- one piece after another
pub Adds-trans : (a b c : Taken) (bytes more : List ℕ) → Adds a b bytes → Adds b c more → Adds a c (bytes ++ more)
Adds-trans a b c bytes more h k = record { grown = Appends-trans a.contents b.contents c.contents bytes more h.grown k.grown }

none_left : (back more : List ℕ) → back ++ more ≡ [] → back ≡ []
none_left [] more e = refl
none_left (b ∷ back) more e = cc

-- a beginning of a piece is a beginning of the pieces that begin with it
pub WroteFront-more : (a b : Taken) (piece more : List ℕ) → WroteFront a b piece → WroteFront a b (piece ++ more)
WroteFront-more a b piece more h = record {
  front = h.front;
  back = h.back ++ more;
  whole = ap (λ l. l ++ more) h.whole ∙ append_assoc h.front h.back more;
  left = λ e. h.left (none_left h.back more e);
  appended = h.appended;
  failed = h.failed;
}

-- a whole piece, and then a beginning of the next
pub WroteFront-after : (a b c : Taken) (piece next : List ℕ) → Adds a b piece → WroteFront b c next → WroteFront a c (piece ++ next)
WroteFront-after a b c piece next h k = record {
  front = piece ++ k.front;
  back = k.back;
  whole = ap (λ l. piece ++ l) k.whole ∙ sym (append_assoc piece k.front k.back);
  left = k.left;
  appended = Adds-trans a b c piece k.front h k.appended;
  failed = k.failed;
}

-- a whole piece, and then what a call wrote
pub Wrote-after : {T E : Type 0} → (a b c : Taken) (piece next : List ℕ) (r : Result T E) → Adds a b piece → Wrote b c r next
    → Wrote a c r (piece ++ next)
Wrote-after a b c piece next (Ok x) h k = Adds-trans a b c piece next h k
Wrote-after a b c piece next (Err e) h k = WroteFront-after a b c piece next h k

-- a call that failed and wrote a beginning
pub Wrote-err : {T E : Type 0} → (a b : Taken) (r : Result T E) (text : List ℕ) → IsErr r → WroteFront a b text → Wrote a b r text
Wrote-err a b (Ok x) text h w = absurd (true≢false (sym h))
Wrote-err a b (Err e) text h w = w

-- the same of an equal text
pub Wrote-as : {T E : Type 0} → (a b : Taken) (r : Result T E) (text same : List ℕ) → text ≡ same → Wrote a b r text → Wrote a b r same
Wrote-as a b r text same e h = subst (λ t. Wrote a b r t) e h

-- ---- what a loop has written

nothing_grown : (known : Option (List ℕ)) → Appends known known []
nothing_grown None = tt
nothing_grown (Some xs) = sym (append-nil xs)

pub Adds-none : (a : Taken) → Adds a a []
Adds-none a = record { grown = nothing_grown a.contents }

pub Stays-refl : (a : Taken) → Stays a a
Stays-refl a = record { kept = Keeps-refl a.contents }

pub HasWritten-none : (a : Taken) (text : List ℕ) → HasWritten a a text text
HasWritten-none a text = record { done = []; appended = Adds-none a; split = refl }

pub HasWritten-more : (a b c : Taken) (text piece rest : List ℕ) → HasWritten a b text (piece ++ rest) → Adds b c piece → HasWritten a c text rest
HasWritten-more a b c text piece rest h k = record {
  done = h.done ++ piece;
  appended = Adds-trans a b c h.done piece h.appended k;
  split = h.split ∙ sym (append_assoc h.done piece rest);
}

pub HasWritten-stops : (a b c : Taken) (text piece rest : List ℕ) → HasWritten a b text (piece ++ rest) → WroteFront b c piece → WroteFront a c text
HasWritten-stops a b c text piece rest h k = subst (WroteFront a c) (sym h.split)
    (WroteFront-after a b c h.done (piece ++ rest) h.appended (WroteFront-more b c piece rest k))

pub HasWritten-all : (a b : Taken) (text : List ℕ) → HasWritten a b text [] → Adds a b text
HasWritten-all a b text h = subst (Adds a b) (sym (h.split ∙ append-nil h.done)) h.appended

-- for the exits of a function that writes one piece after another
pub ruleset writing = (Wrote-err, Wrote-after, WroteFront-more, WroteFront-after)

-- ---- what turns of a loop have written, each of which takes some bytes or notes a failure

pub record WritesOn (old now : Taken) (text rest : List ℕ) (turns : ℕ) : Type 0 where
  pub so_far : HasWritten old now text rest
  pub ends : IsTrue now.failed ⊎ (turns + length rest ≤ length text)

-- the next turn takes so many bytes, and leaves the others
pub WritesOn-more : {E : Type 0} → (a b c : Taken) (text rest left : List ℕ) (count turns : ℕ) → count ≢ 0 → count ≤ length rest → rest ≡ take count rest ++ left
    → WritesOn a b text rest turns → Receives {E = E} b c (Ok count) rest → WritesOn a c text left (turns + 1)
WritesOn-more a b c text rest left count turns some within split h k = record {
  so_far = HasWritten-more a b c text (take count rest) left (subst (HasWritten a b text) split h.so_far) (record { grown = k.appended });
  ends = elim h.ends [
    | inl failed ↦ inl (k.noted failed)
    | inr few ↦
        let long : length rest ≡ length (take count rest) + length left = ap length split ∙ length-append (take count rest) left in
        let front : length (take count rest) ≡ count = length-take-le count rest within in
        inr (omega (arith, some, few, long, front))
  ];
}

-- the next turn fails, and takes nothing
pub WritesOn-fails : {E : Type 0} → (a b c : Taken) (text rest : List ℕ) (turns : ℕ) (e : E) → WritesOn a b text rest turns → Receives b c (Err e) rest
    → WritesOn a c text rest (turns + 1)
WritesOn-fails a b c text rest turns e h k = record {
  so_far = record {
    done = h.so_far.done;
    appended = record { grown = Appends-kept a.contents b.contents c.contents h.so_far.done h.so_far.appended.grown k.appended };
    split = h.so_far.split;
  };
  ends = inl k.fault;
}
