-- What is taken off the block at hand is taken off the text.
use Rattle.std.proofs.Common.{◌≡◌, ℕ, zero, suc, ◌+◌, ◌≤◌, List, [], ◌∷◌, ◌++◌, length, drop, Option, Some, None, refl, sym, ap, ◌∙◌}
use Rattle.std.proofs.Common.{append_assoc, arith}
use Rattle.std.specs.Prelude.{IfSome}
use Rattle.std.specs.Io.{StartsWith}
use Rattle.std.specs.Io.KnownBytes.{Keeps}
use Rattle.std.specs.Io.BufRead.{DropsConsumable}
use Rattle.std.proofs.lemmas.List.{take-append-drop, length-append}
use Rattle.std.proofs.lemmas.List.Prefix.{front_rest}
use Rattle.text.specs.Lines.{IfKnown}
use Rattle.text.specs.Tokens.{cut_at}
use Rattle.text.specs.Stream.{first_piece, after_line}
use Rattle.text.proofs.Scanning.{cut_gives}
use Rattle.text.proofs.Spaced.{all_other}
use Rattle.text.proofs.Streaming.{known_only, piece_here}

-- the text begins with the block, and so many bytes of it are taken
abbrev pub TakesOff : List ℕ → ℕ → List ℕ → List ℕ → Type 0
TakesOff block n text left = (more : List ℕ) × (text ≡ block ++ more) × (left ≡ drop n block ++ more)

drop_front : (n : ℕ) (block more : List ℕ) → n ≤ length block → drop n (block ++ more) ≡ drop n block ++ more
drop_front zero block more within = refl
drop_front (suc n) [] more within = absurd (omega (arith, within))
drop_front (suc n) (b ∷ block) more within = drop_front n block more (omega (arith, within))

pub taken_off : (block : List ℕ) (n : ℕ) (old mid new : Option (List ℕ)) (limit : Option ℕ) → IfSome old (λ xs. StartsWith xs block) → Keeps old mid
    → IfSome old (λ _. IfSome limit (λ n. length block ≤ n)) → DropsConsumable mid new limit n → n ≤ length block → IfKnown old new (TakesOff block n)
taken_off block n None mid new limit front same fits drops within = tt
taken_off block n (Some text) None new limit front same fits drops within = absurd same
taken_off block n (Some text) (Some left) new limit front same fits drops within =
    let new-is : new ≡ Some (drop n left) = drops (fits_count limit fits) in
    let more = drop (length block) text in
    let whole : text ≡ block ++ more = sym (take-append-drop (length block) text) ∙ ap (λ l. l ++ more) front in
    rw (new-is, same) (more, whole, ap (drop n) whole ∙ drop_front n block more within)
  where
    fits_count : (limit : Option ℕ) → IfSome limit (λ n. length block ≤ n) → IfSome limit (λ m. n ≤ m)
    fits_count None fits = tt
    fits_count (Some m) fits = omega (arith, fits, within)

-- the line before an LF is taken with it
pub line_taken : (block line more : List ℕ) (n : ℕ) (old mid new : Option (List ℕ)) (limit : Option ℕ) → IfSome old (λ xs. StartsWith xs block)
    → Keeps old mid → IfSome old (λ _. IfSome limit (λ n. length block ≤ n)) → DropsConsumable mid new limit n
    → cut_at 10 block ≡ Some (line, more) → n ≡ length line + 1 → IfKnown old new (λ text left. (first_piece text ≡ line) × (left ≡ after_line text))
line_taken block line more n old mid new limit front same fits drops cut long =
    let (plain, split) = cut_gives 10 block line more cut in
    let within : n ≤ length block = omega (arith, long, ap length split, length-append line (10 ∷ more)) in
    let longer : n ≡ length (line ++ 10 ∷ []) = omega (arith, long, length-append line (10 ∷ [])) in
    let rest : drop n block ≡ more = ap (λ k. drop k block) longer
    ∙ front_rest block (line ++ 10 ∷ []) more (split ∙ sym (append_assoc line (10 ∷ []) more)) in
    known_only {P = TakesOff block n} {Q = λ text left. (first_piece text ≡ line) × (left ≡ after_line text)} old new
    (taken_off block n old mid new limit front same fits drops within)
    (λ text left taken.
    let whole : text ≡ line ++ 10 ∷ (more ++ taken.0) = taken.1 ∙ ap (λ l. l ++ taken.0) split ∙ append_assoc line (10 ∷ more) taken.0 in
    let (piece, under) = piece_here line (more ++ taken.0) (all_other 10 line plain) in
    (ap first_piece whole ∙ piece, taken.2 ∙ ap (λ l. l ++ taken.0) rest ∙ sym under ∙ ap after_line (sym whole)))

pub none_taken : (old mid : Option (List ℕ)) → Keeps old mid → IfKnown old mid (λ text left. left ≡ text)
none_taken None mid same = tt
none_taken (Some text) None same = absurd same
none_taken (Some text) (Some left) same = same
