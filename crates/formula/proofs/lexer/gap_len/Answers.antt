use Rattle.std.proofs.Common.{rules, arith, ◌≡◌, ◌+◌, ℕ, Bool, not, length, subst, sym, ap, ◌∙◌, get_or, IsTrue, ◌||◌}
use Rattle.std.specs.Prelude.{◌==◌}
use Rattle.std.specs.List.{take_while}
use Rattle.std.proofs.lemmas.List.{take_rest}
use Rattle.formula.specs.Cutting.{IsGap}
use Rattle.formula.proofs.Cuts.{gap-blank, gap-comment}
use Rattle.formula.proofs.lexer.gap_len.Goals as goal

pub gap-preserved-then-is_blank : goal.gap-preserved-then-is_blank
gap-preserved-then-is_blank c =
    let x = get_or c.args.text.now c.gap.at 0 in
    let blank : IsTrue (x == 32 || x == 9 || x == 13 || x == 10) = sym c.if-is_blank.ensures in
    gap-blank c.gap.at c.args.text.now c.gap.invariant (omega arith) blank

pub gap-preserved : goal.gap-preserved
gap-preserved c =
    let text = c.args.text.now in
    let p : ℕ → Bool = λ b. not (b == 10) in
    let P : ℕ → Type 0 = λ k. IsGap (c.gap.at + k) text in
    let e = c.line_len-at.ensures ∙ ap (λ t. length (take_while p t)) (take_rest text c.gap.at) in
    let percent : get_or text c.gap.at 0 ≡ 37 = search rules in
    subst P (sym e) (gap-comment c.gap.at text c.gap.invariant (omega arith) percent)
