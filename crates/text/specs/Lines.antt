-- What a reader has left.
use Rattle.std.specs.Prelude.{◌≡◌, ℕ, Bool, List, [], ◌∷◌, Option, Some, None, ⊤, MatchBool}
use Rattle.text.specs.Text.{lines, pieces_of}

-- P holds of the text that a reader had left and of what it has left now, where these are known
abbrev pub IfKnown : Option (List ℕ) → Option (List ℕ) → (List ℕ → List ℕ → Type 0) → Type 0
IfKnown None new P = ⊤
IfKnown (Some text) None P = ⊥
IfKnown (Some text) (Some left) P = P text left

-- The first line of what was left is this one, and the others are left. If there is none, no line was left.
abbrev pub TakesLine : Option (List ℕ) → Option (List ℕ) → Bool → List ℕ → Type 0
TakesLine old new more line = IfKnown old new (λ text left. MatchBool more (lines text ≡ line ∷ lines left) (lines text ≡ []))

-- The same of the pieces between LFs, where a CR is a byte like any other.
abbrev pub TakesPiece : Option (List ℕ) → Option (List ℕ) → Bool → List ℕ → Type 0
TakesPiece old new more piece = IfKnown old new (λ text left. MatchBool more (pieces_of text ≡ piece ∷ pieces_of left) (pieces_of text ≡ []))
