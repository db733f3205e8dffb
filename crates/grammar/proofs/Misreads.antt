-- Why tokens gave no formula, from why those of its last part gave none.
use Rattle.std.proofs.Common.{ℕ, suc, length, refl, ◌-◌, ◌≤◌, List, [], ◌∷◌, ◌++◌, take, subst, sym, ap, ◌∙◌, append_assoc, ◌≡◌, Result, Ok, Err}
use Rattle.std.specs.Prelude.{MatchResult}
use Rattle.grammar.specs.Token.{Token}
use Rattle.grammar.specs.Misread.{Within, IsMisread}
use Rattle.grammar.specs.declared.misread.Misread.{Misread}
use Rattle.grammar.specs.declared.room.Room.{Room}
use Rattle.grammar.specs.declared.misread.Misread.TheVariants as misread

-- formulas that begin with tokens, or stand at their front; how deep they nest and how many parentheses they open
abbrev pub Class : Type 1
Class = ℕ → ℕ → List Token → Type 0

-- what is found has a part at these tokens, and is within the outer limits only where the part is within the inner ones
abbrev pub Parts : (outer inner : Class) → (depth inside depth' inside' : ℕ) → List Token → List Token → Type 0
Parts outer inner depth inside depth' inside' ts ts' =
    (nested opened : ℕ) → outer nested opened ts → (nested' opened' : ℕ) × inner nested' opened' ts' × (nested ≤ depth → nested' ≤ depth')
    × (opened ≤ inside → opened' ≤ inside')

-- An operand or a formula inside comes after these tokens. What begins with its front begins the whole; what stands there stands in the whole.
pub record IsPlace (begins stands begins' stands' : Class) (depth inside depth' inside' : ℕ) (before : List Token) : Type 1 where
  pub outward : (ts : List Token) → Parts begins' begins depth' inside' depth inside ts (before ++ ts)
  pub inward : (ts : List Token) → Parts stands stands' depth inside depth' inside' (before ++ ts) ts

within-part : (outer inner : Class) (depth inside depth' inside' : ℕ) (ts ts' : List Token) → Parts outer inner depth inside depth' inside' ts ts'
    → Within outer depth inside ts → Within inner depth' inside' ts'
within-part outer inner depth inside depth' inside' ts ts' parts w =
    let p = parts w.nested w.opened w.it in
    record { nested = p.0; opened = p.1; it = p.2; low = p.3 w.low; narrow = p.4 w.narrow }

-- the reason why the part was not read is the reason why the whole was not
pub misread-within : (begins stands begins' stands' : Class) (depth inside depth' inside' : ℕ) (before ts : List Token) (e : Misread)
    → IsPlace begins stands begins' stands' depth inside depth' inside' before
    → IsMisread begins' stands' depth' inside' ts e → IsMisread begins stands depth inside (before ++ ts) e
misread-within begins stands begins' stands' depth inside depth' inside' before ts (misread.Unexpected left) place h = record {
  front = before ++ h.front;
  back = h.back;
  joined = ap (λ xs. before ++ xs) h.joined ∙ sym (append_assoc before h.front h.back);
  place = h.place;
  begun = within-part begins' begins depth' inside' depth inside h.front (before ++ h.front) (place.outward h.front) h.begun;
  none = λ nested opened more stop it.
      let p = place.inward (h.front ++ (take 1 h.back ++ more)) nested opened
      (subst (stands nested opened) (append_assoc before h.front (take 1 h.back ++ more)) it) in
      h.none p.0 p.1 more stop p.2;
}
misread-within begins stands begins' stands' depth inside depth' inside' before ts (misread.TooLarge left) place h = record {
  front = before ++ h.front;
  token = h.token;
  back = h.back;
  joined = ap (λ xs. before ++ xs) h.joined ∙ sym (append_assoc before h.front (h.token ∷ h.back));
  place = h.place;
  begun = within-part begins' begins depth' inside' depth inside h.front (before ++ h.front) (place.outward h.front) h.begun;
  goes_on =
      let p = place.outward (h.front ++ h.token ∷ []) h.goes_on.0 h.goes_on.1 h.goes_on.2 in
      (p.0, p.1, subst (begins p.0 p.1) (sym (append_assoc before h.front (h.token ∷ []))) p.2);
  none = λ more w.
      h.none more (within-part stands stands' depth inside depth' inside' (before ++ (h.front ++ h.token ∷ more)) (h.front ++ h.token ∷ more)
      (place.inward (h.front ++ h.token ∷ more))
      (subst (Within stands depth inside) (append_assoc before h.front (h.token ∷ more)) w));
}
misread-within begins stands begins' stands' depth inside depth' inside' before ts misread.Memory place h = tt

-- no formula stands at the front of what begins so, up to the first of the other tokens
abbrev pub NoneStands : (stands : Class) → (front back : List Token) → Type 0
NoneStands stands front back = (nested opened : ℕ) (more : List Token) → (back ≡ [] → more ≡ []) → stands nested opened (front ++ (take 1 back ++ more)) → ⊥

pub unexpected-here : (begins stands : Class) (depth inside : ℕ) (front back ts : List Token) (e : Misread) → front ++ back ≡ ts
    → e ≡ misread.Unexpected (length back) → Within begins depth inside front → NoneStands stands front back
    → IsMisread begins stands depth inside ts e
unexpected-here begins stands depth inside front back ts e split is begun none =
    subst (λ (m : Misread). IsMisread begins stands depth inside ts m) (sym is)
    (record { front = front; back = back; joined = sym split; place = refl; begun = begun; none = none })

pub too-large-here : (begins stands : Class) (depth inside nested opened : ℕ) (front : List Token) (token : Token) (back ts : List Token) (e : Misread)
    → front ++ token ∷ back ≡ ts → e ≡ misread.TooLarge (suc (length back))
    → Within begins depth inside front → begins nested opened (front ++ token ∷ [])
    → ((more : List Token) → Within stands depth inside (front ++ token ∷ more) → ⊥) → IsMisread begins stands depth inside ts e
too-large-here begins stands depth inside nested opened front token back ts e split is begun on none =
    subst (λ (m : Misread). IsMisread begins stands depth inside ts m) (sym is)
    (record { front = front; token = token; back = back; joined = sym split; place = refl; begun = begun; goes_on = (nested, opened, on); none = none })

-- what was built, unless memory was refused
pub built : {T : Type 0} (B P : T → Type 0) (Q : Misread → Type 0) (result : Result T Misread) → MatchResult result B (λ e. e ≡ misread.Memory)
    → Q misread.Memory → ((x : T) → B x → P x) → MatchResult result P Q
built B P Q (Ok x) h q k = k x h
built B P Q (Err e) h q k = subst Q (sym h) q

-- what holds one level below a room, with another name for the row
pub below-room : (P : (level depth inside : ℕ) → Type 0) (room below : Room) (n m : ℕ) → n ≡ m → below ≡ record room { depth = room.depth - 1 }
    → P n below.depth below.parens → P m (room.depth - 1) room.parens
below-room P room below n m e f h = subst (λ (r : Room). P m r.depth r.parens) f (subst (λ k. P k below.depth below.parens) e h)
