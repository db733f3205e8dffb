use Rattle.std.proofs.Common.{rules, arith, ◌≡◌, ◌+◌, ◌-◌, ◌<◌, ◌≤◌, ℕ, List, length, subst, sym, ap, ◌∙◌, take, drop, get_or, refl, inl, inr}
use Rattle.std.specs.Prelude.{◌⊎◌, ◌≢◌}
use Rattle.std.specs.List.{take_while}
use Rattle.std.proofs.lemmas.List.{take_rest}
use Rattle.systems.specs.declared.limits.TheConstants.{LONGEST_LABEL}
use Rattle.systems.specs.Label.{is_label_byte}
use Rattle.grammar.specs.Token.{Atom}
use Rattle.formula.specs.Cutting.{IsFirst}
use Rattle.formula.proofs.Cuts.{atom-front, run-of, Run}
use Rattle.formula.proofs.Tokenless.{IsQuoted, atom-stands}
use Rattle.formula.proofs.lexer.atom.Goals.{then-len-eq0-via-then-len-eq0, then-len-eq0-via-else-len-eq0+then-len-gt-LONGEST_LABEL}
use Rattle.formula.proofs.lexer.atom.Goals.{then-len-eq0-via-else-len-eq0+else-len-gt-LONGEST_LABEL+then-len-inside}
use Rattle.formula.proofs.lexer.atom.Goals.{then-len-eq0-via-else-len-eq0+else-len-gt-LONGEST_LABEL+else-len-inside+then-inside-len-ne34}
use Rattle.formula.proofs.lexer.atom.Goals as goal

pub returns : goal.returns
returns c =
    let text = c.args.text.now in
    let n = c.label_len-len.result in
    let e : take (length text - 1) (drop 1 text) ≡ drop 1 text = take_rest text 1 in
    let P : List ℕ → Type 0 = λ inside. IsFirst (Atom (take n inside)) (n + 2) text in
    let Q : List ℕ → Type 0 = λ inside. n < length inside in
    let R : List ℕ → Type 0 = λ inside. get_or inside n 0 ≡ 34 in
    let run : Run is_label_byte (drop 1 text) n = subst (λ (k : ℕ). Run is_label_byte (drop 1 text) k)
    (sym (c.label_len-len.ensures ∙ ap (λ t. length (take_while is_label_byte t)) e)) (run-of is_label_byte (drop 1 text)) in
    let inside : n < length (drop 1 text) = subst Q e (omega arith) in
    let closed : get_or (drop 1 text) n 0 ≡ 34 = subst R e (search rules) in
    subst P (sym e) (atom-front text n c.requires.some c.requires.quoted run (omega arith) (omega arith) inside closed)

-- the bytes that fail one of the tests are no quoted atom
unquoted : (n : ℕ) (inside : List ℕ) → IsQuoted n inside → (n ≡ 0) ⊎ ((LONGEST_LABEL < n) ⊎ ((length inside ≤ n) ⊎ (get_or inside n 0 ≢ 34))) → ⊥
unquoted n inside q (inl a) = let h : 0 < n = q.some in omega arith
unquoted n inside q (inr (inl a)) = let h : n ≤ LONGEST_LABEL = q.few in omega arith
unquoted n inside q (inr (inr (inl a))) = let h : n < length inside = q.within in omega arith
unquoted n inside q (inr (inr (inr a))) = a q.closed

pub returns-then-len-eq0 : goal.returns-then-len-eq0
returns-then-len-eq0 c = (
  refl,
  λ bytes stands.
      let text = c.args.text.now in
      let n = c.label_len-len.result in
      let e : take (length text - 1) (drop 1 text) ≡ drop 1 text = take_rest text 1 in
      let inside = take (length text - 1) (drop 1 text) in
      let there : IsQuoted (length (take_while is_label_byte inside)) inside = subst (λ (t : List ℕ). IsQuoted (length (take_while is_label_byte t)) t)
      (sym e) (atom-stands text bytes stands) in
      let q : IsQuoted n inside = subst (λ (k : ℕ). IsQuoted k inside) (sym c.label_len-len.ensures) there in
      unquoted n inside q (elim c.then-len-eq0.branch [
        | then-len-eq0-via-then-len-eq0 w ↦ inl w.if-len-eq0.true
        | then-len-eq0-via-else-len-eq0+then-len-gt-LONGEST_LABEL w ↦ inr (inl w.if-len-gt-LONGEST_LABEL.true)
        | then-len-eq0-via-else-len-eq0+else-len-gt-LONGEST_LABEL+then-len-inside w ↦ inr (inr (inl w.if-len-inside.true))
        | then-len-eq0-via-else-len-eq0+else-len-gt-LONGEST_LABEL+else-len-inside+then-inside-len-ne34 w ↦ inr (inr (inr w.if-inside-len-ne34.true))
      ]),
)
