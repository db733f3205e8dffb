-- The first line of a text, and what follows it.
use Rattle.std.proofs.Common.{◌≡◌, ◌≢◌, ℕ, true, false, cond, ◌||◌, ◌==◌, List, [], ◌∷◌, ◌++◌, refl, ap, ◌∙◌}
use Rattle.std.specs.List.{list_any}
use Rattle.text.specs.Text.{pieces_of, with_first}

-- up to the first LF
pub up_to_end : (front rest : List ℕ) → list_any (λ b. b == 10) front ≡ false → pieces_of (front ++ 10 ∷ rest) ≡ front ∷ pieces_of rest
up_to_end [] rest h = refl
up_to_end (b ∷ front) rest h =
    elim (b == 10) as (λ c. (c || list_any (λ b. b == 10) front) ≡ false
    → cond c ([] ∷ pieces_of (front ++ 10 ∷ rest)) (with_first b (pieces_of (front ++ 10 ∷ rest))) ≡ (b ∷ front) ∷ pieces_of rest) [
      | true ↦ λ k. absurd cc
      | false ↦ λ k. ap (with_first b) (up_to_end front rest k)
    ] h

-- a line without an end
abbrev alone : List ℕ → List (List ℕ)
alone [] = []
alone (b ∷ bytes) = (b ∷ bytes) ∷ []

alone_more : (b : ℕ) (bytes : List ℕ) → with_first b (alone bytes) ≡ (b ∷ bytes) ∷ []
alone_more b [] = refl
alone_more b (c ∷ bytes) = refl

without_end : (text : List ℕ) → list_any (λ b. b == 10) text ≡ false → pieces_of text ≡ alone text
without_end [] h = refl
without_end (b ∷ text) h =
    elim (b == 10) as (λ c. (c || list_any (λ b. b == 10) text) ≡ false → cond c ([] ∷ pieces_of text) (with_first b (pieces_of text)) ≡ (b ∷ text) ∷ []) [
      | true ↦ λ k. absurd cc
      | false ↦ λ k. ap (with_first b) (without_end text k) ∙ alone_more b text
    ] h

pub last_line : (text : List ℕ) → list_any (λ b. b == 10) text ≡ false → text ≢ [] → pieces_of text ≡ text ∷ []
last_line [] h some = absurd (some refl)
last_line (b ∷ text) h some = without_end (b ∷ text) h
