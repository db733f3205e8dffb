-- How a text is cut into lines.
use Rattle.std.proofs.Common.{◌≡◌, ℕ, suc, ◌-◌, Bool, true, false, cond, ◌==◌, List, [], ◌∷◌, length, take, Option, Some, None, refl, sym, ap, ◌∙◌, arith}
use Rattle.std.specs.Prelude.{slice_get, IfSome}
use Rattle.std.specs.Io.BufRead.{take_through, drop_through, DropsThrough}
use Rattle.std.proofs.lemmas.Bool.{eq-eqb, ne_eqb}
use Rattle.text.specs.Text.{with_first, pieces_of, without_end}
use Rattle.text.specs.Lines.{TakesPiece}

under_cond : (b : Bool) (c : ℕ) (x y : List ℕ) → c ∷ cond b x y ≡ cond b (c ∷ x) (c ∷ y)
under_cond true c x y = refl
under_cond false c x y = refl

-- the byte at the end is cut off where it stands there
pub cut_last : (end : ℕ) (bytes : List ℕ) (b : ℕ) → slice_get bytes (length bytes - 1) ≡ Some b
    → without_end end bytes ≡ cond (b == end) (take (length bytes - 1) bytes) bytes
cut_last end [] b e = absurd cc
cut_last end (c ∷ []) b e = let same : c ≡ b = cc in rw (← same) refl
cut_last end (c ∷ d ∷ bytes) b e =
    let one : length (c ∷ d ∷ bytes) - 1 ≡ suc (length (d ∷ bytes) - 1) = omega arith in
    let last : slice_get (d ∷ bytes) (length (d ∷ bytes) - 1) ≡ Some b = rw one at e in
    rw one (ap (λ l. c ∷ l) (cut_last end (d ∷ bytes) b last) ∙ under_cond (b == end) c (take (length (d ∷ bytes) - 1) (d ∷ bytes)) (d ∷ bytes))

through_cons : (b c : ℕ) (bytes : List ℕ) → without_end 10 (b ∷ take_through 10 (c ∷ bytes)) ≡ b ∷ without_end 10 (take_through 10 (c ∷ bytes))
through_cons b c bytes =
    elim (c == 10) as (λ t. without_end 10 (b ∷ cond t (c ∷ []) (c ∷ take_through 10 bytes))
    ≡ b ∷ without_end 10 (cond t (c ∷ []) (c ∷ take_through 10 bytes))) [ true ↦ refl | false ↦ refl ]

-- the first piece of a text that is not empty
first_piece : (b : ℕ) (bytes : List ℕ) → pieces_of (b ∷ bytes) ≡ without_end 10 (take_through 10 (b ∷ bytes)) ∷ pieces_of (drop_through 10 (b ∷ bytes))
first_piece b [] = elim (b == 10) as (λ c. (b == 10) ≡ c → cond c ([] ∷ []) ((b ∷ []) ∷ [])
    ≡ without_end 10 (cond c (b ∷ []) (b ∷ [])) ∷ pieces_of (cond c [] [])) [
      | true ↦ λ e. rw e refl
      | false ↦ λ e. rw e refl
    ] refl
first_piece b (c ∷ bytes) =
    let all = c ∷ bytes in
    elim (b == 10) as (λ t. (b == 10) ≡ t → cond t ([] ∷ pieces_of all) (with_first b (pieces_of all))
    ≡ without_end 10 (cond t (b ∷ []) (b ∷ take_through 10 all)) ∷ pieces_of (cond t all (drop_through 10 all))) [
      | true ↦ λ e. rw e refl
      | false ↦ λ e. ap (with_first b) (first_piece c bytes) ∙ ap (λ l. l ∷ pieces_of (drop_through 10 all)) (sym (through_cons b c bytes))
    ] refl

no_through : (b : ℕ) (bytes : List ℕ) → take_through 10 (b ∷ bytes) ≡ [] → ⊥
no_through b bytes e = elim (b == 10) as (λ t. cond t (b ∷ []) (b ∷ take_through 10 bytes) ≡ [] → ⊥) [ true ↦ λ e. cc | false ↦ λ e. cc ] e

-- a call that took all through the next LF took a piece
pub takes_piece : (old new : Option (List ℕ)) (read piece : List ℕ) → IfSome old (λ xs. read ≡ take_through 10 xs) → DropsThrough old new 10
    → (read ≡ [] → ⊥) → piece ≡ without_end 10 read → TakesPiece old new true piece
takes_piece None new read piece all rest some e = tt
takes_piece (Some []) new read piece all rest some e = absurd (some all)
takes_piece (Some (b ∷ bytes)) None read piece all rest some e = absurd cc
takes_piece (Some (b ∷ bytes)) (Some left) read piece all rest some e =
    let left-is : left ≡ drop_through 10 (b ∷ bytes) = cc in
    first_piece b bytes ∙ (λ i. without_end 10 (sym all i) ∷ pieces_of (sym left-is i)) ∙ ap (λ l. l ∷ pieces_of left) (sym e)

-- a call that took nothing found no piece
pub takes_none : (old new : Option (List ℕ)) (read piece : List ℕ) → IfSome old (λ xs. read ≡ take_through 10 xs) → DropsThrough old new 10 → read ≡ []
    → TakesPiece old new false piece
takes_none None new read piece all rest none = tt
takes_none (Some []) None read piece all rest none = absurd cc
takes_none (Some []) (Some left) read piece all rest none = refl
takes_none (Some (b ∷ bytes)) new read piece all rest none = absurd (no_through b bytes (sym all ∙ none))

-- the end is cut off, or there was none
pub cut_found : (end : ℕ) (bytes front : List ℕ) (b : ℕ) → Some b ≡ slice_get bytes (length bytes - 1) → b ≡ end → front ≡ take (length bytes - 1) bytes
    → front ≡ without_end end bytes
cut_found end bytes front b last same cut = cut ∙ sym (cut_last end bytes b (sym last) ∙ rw (eq-eqb b end same) refl)

pub cut_other : (end : ℕ) (bytes : List ℕ) (b : ℕ) → Some b ≡ slice_get bytes (length bytes - 1) → (b ≡ end → ⊥) → bytes ≡ without_end end bytes
cut_other end bytes b last other = sym (cut_last end bytes b (sym last) ∙ rw (ne_eqb b end other) refl)
