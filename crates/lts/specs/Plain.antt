-- A line as tools write it, without blanks: what it says, and what follows its end.
use Rattle.std.specs.Prelude.{◌≡◌, ℕ, Bool, not, nat_le, ◌&&◌, ◌==◌, List, ◌∷◌, ◌++◌, Option, Some, None, IsTrue}
use Rattle.std.specs.List.{list_all}
use Rattle.text.specs.Text.{is_numeral, value_of}
use Rattle.text.specs.Tokens.{capped}
use Rattle.lts.specs.declared.scan.Ends.{Ends}
use Rattle.lts.specs.Scan.{PassesTransition}

-- a byte of a label as tools write one: no quote, and nothing below a space, so no end of a line either
abbrev pub is_inner : ℕ → Bool
is_inner b = nat_le 32 b && not (b == 34)

-- `(source,"label",target)`, and what follows
abbrev pub plain_text : List ℕ → List ℕ → List ℕ → List ℕ → List ℕ
plain_text source label target rest = 40 ∷ source ++ (44 ∷ 34 ∷ label ++ (34 ∷ 44 ∷ target ++ (41 ∷ rest)))

-- the plain line in front, and what follows its LF
pub record IsPlainThen (source : ℕ) (label : List ℕ) (target : ℕ) (text left : List ℕ) : Type 0 where
  pub from : List ℕ
  pub to : List ℕ
  pub from-numeral : IsTrue (is_numeral from)
  pub to-numeral : IsTrue (is_numeral to)
  pub from-is : source ≡ capped (value_of from)
  pub to-is : target ≡ capped (value_of to)
  pub inner : IsTrue (list_all is_inner label)
  pub cut : text ≡ plain_text from label to (10 ∷ left)

-- the line is this transition, and is taken; or nothing is
abbrev pub PassesAutAtHand : List ℕ → Option Ends → List ℕ → List ℕ → Type 0
PassesAutAtHand kept (Some e) text left = PassesTransition kept (Some e) text left
PassesAutAtHand kept None text left = left ≡ text
