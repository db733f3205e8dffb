-- What is read off a block at once is what is read token by token.
use Rattle.std.proofs.Common.{◌≡◌, ℕ, ◌≤◌, List, ◌∷◌, ◌++◌, length, drop, Option, Some, refl, sym, ap, ◌∙◌, append_assoc, append-nil}
use Rattle.std.specs.Prelude.{IfSome}
use Rattle.std.specs.Io.{StartsWith}
use Rattle.std.specs.Io.KnownBytes.{Keeps}
use Rattle.std.specs.Io.BufRead.{DropsConsumable}
use Rattle.text.specs.Lines.{IfKnown}
use Rattle.text.specs.Stream.{line_of, after_line}
use Rattle.text.proofs.Streaming.{known_only, line_run}
use Rattle.text.proofs.AtHand.{TakesOff, taken_off}
use Rattle.pgsolver.specs.declared.scan.Head.{Head}
use Rattle.pgsolver.specs.Scan as at
use Rattle.pgsolver.specs.Scan.{line_at}
use Rattle.pgsolver.specs.Plain.{IsLineThen, PassesPgAtHand}

pub at_hand_is : (block targets : List ℕ) (head : Head) (n : ℕ) (old mid new : Option (List ℕ)) (limit : Option ℕ) → IfSome old (λ xs. StartsWith xs block)
    → Keeps old mid → IfSome old (λ _. IfSome limit (λ n. length block ≤ n)) → DropsConsumable mid new limit n → n ≤ length block
    → IsLineThen (at.line_said head targets) block (drop n block) → IfKnown old new (PassesPgAtHand targets (Some head))
at_hand_is block targets head n old mid new limit front same fits drops within l =
    known_only {P = TakesOff block n} {Q = PassesPgAtHand targets (Some head)} old new (taken_off block n old mid new limit front same fits drops within)
    (λ text left (more, whole, rest).
    let split : text ≡ l.line ++ 10 ∷ (drop n block ++ more) = whole ∙ ap (λ b. b ++ more) l.cut ∙ append_assoc l.line (10 ∷ drop n block) more in
    let (line, under) = line_run l.line (10 ∷ (drop n block ++ more)) l.inside in
    let first : line_of text ≡ l.line = ap line_of split ∙ line ∙ append-nil l.line in
    (targets, ap line_at first ∙ l.is, refl, rest ∙ sym under ∙ ap after_line (sym split)))
